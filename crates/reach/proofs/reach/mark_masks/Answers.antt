-- The loops' invariants: marking all random bits comes to marking those that are left, and the next one's place is known.
use mathlib.Core.Path.{◌≡◌, refl, ap, ◌∙◌}
use mathlib.Core.List.{map}
use Prim.Native.Nat.{◌+◌, ◌-◌}
use native.Mathlib.Omega.{arith}
use Rattle.circuit.specs.Lists.{range}
use Rattle.gadgets.specs.Internal.Places.{mask_at}
use Rattle.reach.specs.Internal.Marks.{mark_all}
use Rattle.gadgets.proofs.Ranges.{range_turn, range_end}
use Rattle.gadgets.proofs.Slots.{mask_lt}
use Rattle.gadgets.proofs.Masks.{below_start, below_here, below_next, below-near, below_end, above_here}
use Rattle.reach.proofs.reach.mark_masks.Goals as goal

pub loop-j-init : goal.loop-j-init
loop-j-init c = (below_start _ _ _, refl)

pub overflow_sub-marks : goal.overflow_sub-marks
overflow_sub-marks c = omega (arith, c.loop-j.invariant.0.is)

pub bounds-marks-at : goal.bounds-marks-at
bounds-marks-at c =
    let g = c.args.gadget in
    omega (arith, below_here c.loop-j.invariant.0 c.loop-j-test.true, mask_lt g.d g.first c.args.i c.loop-j.j c.requires.0 (omega arith) (λ e. omega arith))

pub overflow_add-at-in-loop-j : goal.overflow_add-at-in-loop-j
overflow_add-at-in-loop-j c = omega (arith, below-near c.loop-j.invariant.0 c.requires.0 c.args.gadget.small.2)

pub loop-j-preserved : goal.loop-j-preserved
loop-j-preserved c =
    let l = c.loop-j in
    let h = c.loop-j-test.true in
    (below_next l.invariant.0 h c.requires.0, rw (below_here l.invariant.0 h) (rw (range_turn _ l.j h) at l.invariant.1))

pub loop-k-init : goal.loop-k-init
loop-k-init c =
    let e : c.args.i + 1 + 0 ≡ c.args.i + 1 = omega arith in
    (record { least = omega arith; is = omega (arith, (below_end c.loop-j.invariant.0 (omega arith)).is) }, rw e)

pub bounds-marks-at-in-loop-k : goal.bounds-marks-at-in-loop-k
bounds-marks-at-in-loop-k c =
    let g = c.args.gadget in
    omega (arith, above_here c.loop-k.invariant.0, mask_lt g.d g.first c.args.i (c.args.i + 1 + c.loop-k.k) c.requires.0 (omega arith) (λ e. omega arith))

pub loop-k-preserved : goal.loop-k-preserved
loop-k-preserved c =
    let l = c.loop-k in
    let j = c.args.i + 1 + l.k in
    let e : c.args.i + 1 + (l.k + 1) ≡ j + 1 = omega arith in
    (record { least = omega arith; is = omega (arith, l.invariant.0.is) }, rw (e, above_here l.invariant.0) (rw (range_turn c.args.gadget.d j (omega arith)) at l.invariant.1))

pub returns : goal.returns
returns c =
    let g = c.args.gadget in
    let i = c.args.i in
    let below = rw (range_end c.args.i c.loop-j.j (omega arith)) at c.loop-j.invariant.1 in
    rw (range_end g.d (i + 1 + c.loop-k.k) (omega arith)) at c.loop-k.invariant.1 ∙ ap (λ m. mark_all m (map (mask_at g.d g.first i) (range (i + 1) (g.d - (i + 1))))) below
