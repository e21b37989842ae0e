-- The loop's invariant: from the first place to this one the gates are filled in, whatever the shares and random bits are.
use mathlib.Core.List.{List}
use Prim.Native.Nat.{ℕ}
use native.Mathlib.Omega.{arith}
use Rattle.circuit.specs.Lists.{nth}
use Rattle.gadgets.proofs.Walking.{second_word, Met}
use Rattle.simulation.specs.Internal.Walked.{FilledTo}
use Rattle.simulation.proofs.Walked.{walked-step, room_in}
use Rattle.simulation.proofs.Evaluating.{gate-filled}
use Rattle.simulation.proofs.values.fill_gates.Goals as goal
use Rattle.simulation.proofs.values.fill_gates.Goals.{In-Ok-Some}

module _ (c : In-Ok-Some) where
  met : {shares tape old : List ℕ} {from used : ℕ} (f : FilledTo c.args.table.now shares tape old c.loop-next.values c.loop-next.walk.at c.loop-next.first from used)
      → let n = c.in-Ok-Some.next in Met f.walked.evaluable.accepted f.walked.between (nth c.args.table.now 1) c.loop-next.first from n.frame n.shape n.walk
  met f = rw (c.in-Ok-Some.is, c.in-Ok-Some.field-0-is) at (walked-step f.walked c.step.ensures c.loop-next.invariant.0 c.requires.1)

  -- the shares and random bits that the contract tells of
  filled : let p = c.requires.2 in FilledTo c.args.table.now p.0 p.1 p.2 c.loop-next.values c.loop-next.walk.at c.loop-next.first p.3 p.4
  filled = c.loop-next.invariant.2 _ _ _ _ _ c.requires.2.5

  told : let n = c.in-Ok-Some.next in Met filled.walked.evaluable.accepted filled.walked.between (nth c.args.table.now 1) c.loop-next.first c.requires.2.3 n.frame n.shape n.walk
  told = met filled

pub write_gate-requires : goal.write_gate-requires
write_gate-requires c =
    let i = (goal.at.write_gate-requires c).In-Ok-Some in
    let f = filled i in
    (_, _, (told i).early, omega (arith, room_in f.walked (second_word f.walked.evaluable.accepted) (told i), f.sized))

pub overflow_add-first : goal.overflow_add-first
overflow_add-first c = omega (arith, (told (goal.at.overflow_add-first c).In-Ok-Some).few)

pub loop-next-smaller : goal.loop-next-smaller
loop-next-smaller c = let m = told (goal.at.loop-next-smaller c).In-Ok-Some in omega (arith, m.later, m.onward.most)

pub loop-next-preserved : goal.loop-next-preserved
loop-next-preserved c =
    let i = (goal.at.loop-next-preserved c).In-Ok-Some in (
      (told i).same,
      omega (arith, c.loop-next.invariant.1, (told i).later),
      (λ shares tape old from used g.
          let f = c.loop-next.invariant.2 shares tape old from used g in
          gate-filled f (second_word f.walked.evaluable.accepted) (met i f) c.write_gate.ensures c.if-not-write_gate.false),
    )

pub returns-then-not-write_gate : goal.returns-then-not-write_gate
returns-then-not-write_gate c =
    let (same, on, all) = c.loop-next.invariant in
    (same, on, rw (c.write_gate.ensures.left c.if-not-write_gate.true) all)
