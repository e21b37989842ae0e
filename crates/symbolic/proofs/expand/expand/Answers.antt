-- The loop's invariant: the frames before the walk's place are expanded.
use mathlib.Core.Path.{◌≡◌, refl, sym, ap, ◌∙◌}
use Prim.Native.Nat.{◌+◌, ◌*◌, ◌≤◌}
use native.Mathlib.Omega.{arith}
use lib.ListN.{length}
use Rattle.std.specs.Prelude.{Some, Ok}
use Rattle.circuit.specs.Limits.{wire_limit}
use Rattle.circuit.specs.Lists.{nth}
use Rattle.frames.specs.declared.walk.Next.{Next}
use Rattle.frames.specs.Walk.{operands_at}
use Rattle.gadgets.proofs.Walking.{second_word, given_bits, Met}
use Rattle.simulation.proofs.Walked.{walked-step, inputs_in, draws_in}
use Rattle.symbolic.specs.Internal.Expanding.{Expanded}
use Rattle.symbolic.proofs.Expanding.{expanded_start, none_met, expanded-next, all-expanded}
use Rattle.symbolic.proofs.Making.{frame_asks, frame_made}
use Rattle.symbolic.proofs.expand.expand.Goals as goal
use Rattle.symbolic.proofs.expand.expand.Goals.{After-operands-ops, After-step, In-Ok-Some}

-- the frame that is met
met : (c : In-Ok-Some) → let l = c.loop-next in let t = l.invariant.here.walked in let n = c.in-Ok-Some.next in
    Met t.evaluable.accepted t.between (nth c.args.table.now 1) l.first l.from n.frame n.shape n.walk
met c =
    let i = c.loop-next.invariant in
    let f = c.in-Ok-Some in
    walked-step i.here.walked (sym (f.is ∙ ap Ok f.field-0-is) ∙ c.step.ensures) i.same (given_bits c.requires.0.accepted c.random_bits-randoms.ensures.0 refl)

words : (c : After-operands-ops) → let table = c.args.table.now in c.operands-ops.result.now ≡ operands_at table (nth table 1) c.loop-next.walk.at
words c = c.operands-ops.ensures ∙ ap (λ n. operands_at c.args.table.now n c.loop-next.walk.at) c.loop-next.invariant.same

-- the counts behind it
record Counts (c : In-Ok-Some) : Type 0 where
  wires : c.loop-next.first + c.in-Ok-Some.next.shape.wires ≤ wire_limit
  shares : c.loop-next.from + nth c.args.table.now 1 * c.in-Ok-Some.next.shape.inputs ≤ length c.args.shares.now
  randoms : c.loop-next.used + c.in-Ok-Some.next.shape.randoms ≤ length c.args.tape.now

counts : (c : In-Ok-Some) → Counts c
counts c =
    let f = c.loop-next.invariant.here.walked in
    let s = second_word f.evaluable.accepted in
    record { wires = (met c).few; shares = inputs_in f s (met c); randoms = draws_in f s (met c) }

-- no frame is left
ended : (c : After-step) → ((n : Next) → c.step.result ≡ Ok (Some n) → ⊥) → let l = c.loop-next in
    Expanded c.args.table.now c.args.shares.now c.args.tape.now c.args.read.now (length c.args.read.now) l.sums l.terms l.outputs
ended c none =
    let i = c.loop-next.invariant in
    all-expanded i.here (none_met i.here _ (walked-step i.here.walked c.step.ensures i.same (given_bits c.requires.0.accepted c.random_bits-randoms.ensures.0 refl)) none) c.requires.1 c.requires.6

pub loop-next-init : goal.loop-next-init
loop-next-init c = let p = c.requires in record { same = refl; here = rw p.7 (expanded_start p.0) }

pub invariant_of-place : goal.invariant_of-place
invariant_of-place c = record {
  small = (met (goal.at.invariant_of-place c).In-Ok-Some).small;
  paired = given_bits c.requires.0.accepted c.random_bits-randoms.ensures.0 refl;
}

pub write_frame-outputs-requires : goal.write_frame-outputs-requires
write_frame-outputs-requires c =
    let h = goal.at.write_frame-outputs-requires c in
    let t = c.loop-next.invariant.here in
    let p = c.requires in
    let a = t.walked.evaluable.accepted in (
      rw (words h.After-operands-ops) (frame_asks t p.2 p.3 p.1 p.5 (second_word a) _ (met h.In-Ok-Some) (omega (arith, t.sums_sized, p.4))),
      (p.5, (λ i l. omega (arith, p.6 i l, p.0.roomy, t.sums_sized))),
    )

pub overflow_add-first : goal.overflow_add-first
overflow_add-first c = omega (arith, (counts (goal.at.overflow_add-first c).In-Ok-Some).wires)

pub overflow_mul-from : goal.overflow_mul-from
overflow_mul-from c = omega (arith, (counts (goal.at.overflow_mul-from c).In-Ok-Some).shares, c.well_formed)

pub overflow_add-from : goal.overflow_add-from
overflow_add-from c = omega (arith, (counts (goal.at.overflow_add-from c).In-Ok-Some).shares, c.well_formed)

pub overflow_add-used : goal.overflow_add-used
overflow_add-used c = omega (arith, (counts (goal.at.overflow_add-used c).In-Ok-Some).randoms, c.requires.1)

pub loop-next-preserved : goal.loop-next-preserved
loop-next-preserved c =
    let h = goal.at.loop-next-preserved c in
    let t = c.loop-next.invariant.here in
    let p = c.requires in
    let s = second_word t.walked.evaluable.accepted in
    let m = met h.In-Ok-Some in
    record { same = m.same; here = expanded-next t s m (frame_made t p.2 p.3 p.1 p.5 s _ m (rw (words h.After-operands-ops) at c.write_frame-outputs.ensures)) }

pub returns-in_default : goal.returns-in_default
returns-in_default c = ended (goal.at.returns-in_default c).After-step (λ n e. cc)

pub returns-in_default-2 : goal.returns-in_default-2
returns-in_default-2 c = ended (goal.at.returns-in_default-2 c).After-step (λ n e. cc)
