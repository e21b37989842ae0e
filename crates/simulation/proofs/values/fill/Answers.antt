-- The loop's invariant: the values of the frames before the walk's place are filled in.
use mathlib.Core.Path.{◌≡◌, refl, ap, ◌∙◌}
use Prim.Native.Nat.{◌+◌, ◌*◌, ◌≤◌}
use native.Mathlib.Omega.{arith}
use Rattle.std.proofs.Common.{rules}
use Rattle.std.specs.Prelude.{None}
use lib.ListN.{length}
use Rattle.circuit.specs.Kinds.{pairs}
use Rattle.circuit.specs.Lists.{nth}
use Rattle.frames.specs.Walk.{operands_at}
use Rattle.gadgets.specs.Internal.Frames.{frame_wires}
use Rattle.gadgets.proofs.Walking.{second_word, given_bits, Met}
use Rattle.simulation.proofs.Walked.{walked-step, room_in, inputs_in, draws_in}
use Rattle.simulation.proofs.Filled.{fills-from}
use Rattle.simulation.proofs.Evaluating.{filled_start, frame-filled, gate-filled, all-filled}
use Rattle.simulation.proofs.values.fill.Goals as goal
use Rattle.simulation.proofs.values.fill.Goals.{After-operands-ops, In-Ok-Some}

module _ (c : In-Ok-Some) where
  -- the random bits that the step is given are those of a gadget
  given : c.random_bits-randoms.result ≡ pairs (nth c.args.table.now 1)
  given = given_bits c.requires.accepted c.random_bits-randoms.ensures.0 refl

  met : let f = c.loop-next.invariant.1.walked in let n = c.in-Ok-Some.next in let b = c.loop-next.before in
      Met f.evaluable.accepted f.between (nth c.args.table.now 1) b.first b.from n.frame n.shape n.walk
  met = rw (c.in-Ok-Some.is, c.in-Ok-Some.field-0-is) at (walked-step c.loop-next.invariant.1.walked c.step.ensures c.loop-next.invariant.0 given)

  same : nth c.args.table.now 1 ≡ c.loop-next.invariant.1.walked.evaluable.accepted.d
  same = second_word c.loop-next.invariant.1.walked.evaluable.accepted

  room : c.loop-next.before.first + frame_wires c.in-Ok-Some.next.frame (nth c.args.table.now 1) ≤ length c.loop-next.values
  room = let f = c.loop-next.invariant.1 in omega (arith, room_in f.walked same met, f.sized)

  inputs : c.loop-next.before.from + nth c.args.table.now 1 * c.in-Ok-Some.next.shape.inputs ≤ length c.args.shares.now
  inputs = inputs_in c.loop-next.invariant.1.walked same met

  draws : c.loop-next.before.used + c.in-Ok-Some.next.shape.randoms ≤ length c.args.tape.now
  draws = draws_in c.loop-next.invariant.1.walked same met

pub loop-next-init : goal.loop-next-init
loop-next-init c = (refl, filled_start c.requires)

pub write_gate-requires : goal.write_gate-requires
write_gate-requires c = let i = (goal.at.write_gate-requires c).In-Ok-Some in (_, _, (met i).early, room i)

pub overflow_add-first : goal.overflow_add-first
overflow_add-first c = omega (arith, (met (goal.at.overflow_add-first c).In-Ok-Some).few)

pub fill_gates-requires : goal.fill_gates-requires
fill_gates-requires c =
    let i = (goal.at.fill_gates-requires c).In-Ok-Some in
    ((met i).same, given i, (_, _, _, _, _, gate-filled c.loop-next.invariant.1 (same i) (met i) c.write_gate.ensures c.if-write_gate.true))

pub loop-next-smaller-then-write_gate : goal.loop-next-smaller-then-write_gate
loop-next-smaller-then-write_gate c =
    let m = met (goal.at.loop-next-smaller-then-write_gate c).In-Ok-Some in omega (arith, c.fill_gates.ensures.1, m.later, m.onward.most)

pub loop-next-preserved-then-write_gate : goal.loop-next-preserved-then-write_gate
loop-next-preserved-then-write_gate c =
    let i = (goal.at.loop-next-preserved-then-write_gate c).In-Ok-Some in
    let (d_is, _, all) = c.fill_gates.ensures in
    (d_is, all _ _ _ _ _ (gate-filled c.loop-next.invariant.1 (same i) (met i) c.write_gate.ensures c.if-write_gate.true))

-- the words of the frame that is met
words : (c : After-operands-ops) → c.operands-ops.result.now ≡ operands_at c.args.table.now (nth c.args.table.now 1) c.loop-next.walk.at
words c = c.operands-ops.ensures ∙ ap (λ n. operands_at c.args.table.now n c.loop-next.walk.at) c.loop-next.invariant.0

pub write_frame-requires : goal.write_frame-requires
write_frame-requires c =
    let i = (goal.at.write_frame-requires c).In-Ok-Some in
    let m = met i in (
      m.small,
      omega (arith, room i, c.write_gate.auto.values),
      rw (words (goal.at.write_frame-requires c).After-operands-ops) m.early,
      m.supplied _ _ _
          (inputs i) (draws i),
      given i,
      c.write_gate.ensures.other c.if-write_gate.false,
    )

pub behind-before-requires : goal.behind-before-requires
behind-before-requires c =
    let i = (goal.at.behind-before-requires c).In-Ok-Some in
    let m = met i in
    (omega (arith, m.few), omega (arith, inputs i, c.well_formed.1.0), omega (arith, draws i, c.well_formed.1.1.0), m.few_takes)

pub loop-next-smaller : goal.loop-next-smaller
loop-next-smaller c = let m = met (goal.at.loop-next-smaller c).In-Ok-Some in omega (arith, m.later, m.onward.most)

pub loop-next-preserved : goal.loop-next-preserved
loop-next-preserved c =
    let i = (goal.at.loop-next-preserved c).In-Ok-Some in
    let words = words (goal.at.loop-next-preserved c).After-operands-ops in
    let filled = frame-filled c.loop-next.invariant.1 (same i) (met i) _ (fills-from (c.write_gate.ensures.left c.if-write_gate.false) (rw words at c.write_frame.ensures)) in
    let (first, from, used) = c.behind-before.ensures in
    ((met i).same, rw (first, from, used) filled)

-- without a frame, none is left
pub returns-in_default : goal.returns-in_default
returns-in_default c =
    let f = c.loop-next.invariant.1 in
    let none : c.in_default.field-0 ≡ None = search rules in
    all-filled f (rw (c.in_default.is, none) at (walked-step f.walked c.step.ensures c.loop-next.invariant.0 (given_bits c.requires.accepted c.random_bits-randoms.ensures.0 refl)))

pub returns-in_default-2 : goal.returns-in_default-2
returns-in_default-2 c =
    absurd (rw c.in_default.is at (walked-step c.loop-next.invariant.1.walked c.step.ensures c.loop-next.invariant.0 (given_bits c.requires.accepted c.random_bits-randoms.ensures.0 refl)))
