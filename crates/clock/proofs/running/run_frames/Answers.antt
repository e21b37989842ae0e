-- The loop's invariant: the clock has come to the first wire behind the walk's place.
use mathlib.Core.Path.{◌≡◌, refl, ap, ◌∙◌}
use native.Mathlib.Omega.{arith}
use Rattle.std.proofs.Common.{rules}
use Rattle.std.specs.Prelude.{None}
use Rattle.circuit.specs.Kinds.{pairs}
use Rattle.circuit.specs.Lists.{nth}
use Rattle.frames.specs.Walk.{operands_at}
use Rattle.gadgets.proofs.Walking.{second_word, given_bits, Met}
use Rattle.simulation.proofs.Walked.{walked-step, room_in, inputs_in, draws_in}
use Rattle.clock.proofs.Walked.{clocking_start, held_room, clocking_next, clocking_done}
use Rattle.clock.proofs.running.run_frames.Goals as goal
use Rattle.clock.proofs.running.run_frames.Goals.{After-operands-ops, In-Ok-Some}

module _ (c : In-Ok-Some) where
  -- the random bits that the step is given are those of a gadget
  given : c.random_bits-randoms.result ≡ pairs (nth c.args.table.now 1)
  given = given_bits c.requires.0.accepted c.random_bits-randoms.ensures.0 refl

  met : let f = c.loop-next.invariant.1.walked in let n = c.in-Ok-Some.next in let b = c.loop-next.before in
      Met f.evaluable.accepted f.between (nth c.args.table.now 1) b.first b.from n.frame n.shape n.walk
  met = rw (c.in-Ok-Some.is, c.in-Ok-Some.field-0-is) at (walked-step c.loop-next.invariant.1.walked c.step.ensures c.loop-next.invariant.0 given)

  same : nth c.args.table.now 1 ≡ c.loop-next.invariant.1.walked.evaluable.accepted.d
  same = second_word c.loop-next.invariant.1.walked.evaluable.accepted

-- the words of the frame that is met
words : (c : After-operands-ops) → c.operands-ops.result.now ≡ operands_at c.args.table.now (nth c.args.table.now 1) c.loop-next.walk.at
words c = c.operands-ops.ensures ∙ ap (λ n. operands_at c.args.table.now n c.loop-next.walk.at) c.loop-next.invariant.0

pub loop-next-init : goal.loop-next-init
loop-next-init c = (refl, clocking_start c.requires)

pub run_frame-requires : goal.run_frame-requires
run_frame-requires c =
    let i = (goal.at.run_frame-requires c).In-Ok-Some in
    let f = c.loop-next.invariant.1 in
    let m = met i in (
      m.small,
      omega (arith, room_in f.walked (same i) m, f.sized),
      held_room f (same i) m,
      rw (words (goal.at.run_frame-requires c).After-operands-ops) m.early,
      m.supplied _ _ _ (inputs_in f.walked (same i) m) (draws_in f.walked (same i) m),
      given i,
    )

pub behind-before-requires : goal.behind-before-requires
behind-before-requires c =
    let i = (goal.at.behind-before-requires c).In-Ok-Some in
    let f = c.loop-next.invariant.1.walked in
    let m = met i in
    (omega (arith, m.few), omega (arith, inputs_in f (same i) m, c.well_formed.1.0), omega (arith, draws_in f (same i) m, c.well_formed.1.1.0), m.few_takes)

pub loop-next-smaller : goal.loop-next-smaller
loop-next-smaller c = let m = met (goal.at.loop-next-smaller c).In-Ok-Some in omega (arith, m.later, m.onward.most)

pub loop-next-preserved : goal.loop-next-preserved
loop-next-preserved c =
    let i = (goal.at.loop-next-preserved c).In-Ok-Some in
    let words = words (goal.at.loop-next-preserved c).After-operands-ops in
    let run = clocking_next c.loop-next.invariant.1 (same i) (met i) (rw words at c.run_frame.ensures) in
    let (first, from, used) = c.behind-before.ensures in
    ((met i).same, rw (first, from, used) run)

-- without a frame, none is left
pub returns-in_default : goal.returns-in_default
returns-in_default c =
    let f = c.loop-next.invariant.1 in
    let none : c.in_default.field-0 ≡ None = search rules in
    clocking_done f (rw (c.in_default.is, none) at (walked-step f.walked c.step.ensures c.loop-next.invariant.0 (given_bits c.requires.0.accepted c.random_bits-randoms.ensures.0 refl)))

pub returns-in_default-2 : goal.returns-in_default-2
returns-in_default-2 c =
    absurd (rw c.in_default.is at (walked-step c.loop-next.invariant.1.walked c.step.ensures c.loop-next.invariant.0 (given_bits c.requires.0.accepted c.random_bits-randoms.ensures.0 refl)))
