-- The loops' invariants: the random bits of the share i and each below j are added, and the next one's place is known; then those of
-- the row of i.
use mathlib.Core.Path.{◌≡◌, ◌∙◌}
use Prim.Native.Nat.{◌+◌, ◌-◌, ◌≤◌, ◌<◌}
use native.Mathlib.Omega.{arith}
use lib.ListN.{length, take, drop, length-drop}
use lib.Seq.{get_or-take, get_or-drop, length-take-le}
use Rattle.circuit.specs.Lists.{nth}
use Rattle.gadgets.proofs.Slots.{mask_lt}
use Rattle.gadgets.proofs.Masks.{AboveAt, below_start, below_here, below_next, below_end, above_here, above-by, above-end}
use Rattle.simulation.proofs.Gadgets.{masks_start, masks_at, masks_itself, masks_turn, masks_end}
use Rattle.simulation.proofs.gadget.add_masks.Goals as goal
use Rattle.simulation.proofs.gadget.add_masks.Goals.{After-loop-j}

-- the row of i begins where the first loop ends
row : (c : After-loop-j) → AboveAt c.args.g.d c.args.g.first c.args.i (c.args.i + 1) c.loop-j.at
row c =
    let at = c.loop-j.invariant.1 in
    let e : c.loop-j.j ≡ c.args.i = omega (arith, at.most, c.loop-j-test.false) in
    rw e at (below_end at c.loop-j-test.false)

inside : (c : After-loop-j) → c.loop-j.at + (c.args.g.d - c.args.i - 1) ≤ length c.args.values.now
inside c = omega (arith, above-end (row c) c.requires.0 (omega arith), c.requires.1, c.args.g.paired)

long : (c : After-loop-j) → let n = c.loop-j.at + (c.args.g.d - c.args.i - 1) - c.loop-j.at in length (take n (drop c.loop-j.at c.args.values.now)) ≡ n
long c = length-take-le _ _ (omega (arith, inside c, length-drop c.loop-j.at c.args.values.now))

pub loop-j-init : goal.loop-j-init
loop-j-init c = (masks_start, below_start _ _ _)

pub bounds-values-at : goal.bounds-values-at
bounds-values-at c =
    let (i, room) = c.requires in
    let h = c.loop-j-test.true in
    omega (arith, below_here c.loop-j.invariant.1 h, mask_lt c.args.g.d c.args.g.first c.args.i c.loop-j.j i (omega arith) (λ e. omega arith), room, c.args.g.paired)

pub loop-j-preserved : goal.loop-j-preserved
loop-j-preserved c =
    let (on, at) = c.loop-j.invariant in
    let h = c.loop-j-test.true in
    let i = c.requires.0 in
    (masks_turn on i (omega arith) (λ e. omega arith) _ (below_here at h), below_next at h i)

pub slice_bounds-bit-items-end : goal.slice_bounds-bit-items-end
slice_bounds-bit-items-end c = inside (goal.at.slice_bounds-bit-items-end c).After-loop-j

pub loop-bit-init : goal.loop-bit-init
loop-bit-init c =
    let e : c.loop-j.j ≡ c.args.i = omega (arith, c.loop-j.invariant.1.most, c.loop-j-test.false) in
    masks_at (masks_itself c.loop-j.invariant.0 c.requires.0 e) (omega (arith, e))

pub loop-bit-preserved : goal.loop-bit-preserved
loop-bit-preserved c =
    let values = c.args.values.now in
    let at = c.loop-j.at in
    let k = c.loop-bit.bit-index in
    let n = at + (c.args.g.d - c.args.i - 1) - at in
    let l : k < n = omega (arith, c.loop-bit-test.true, long (goal.at.loop-bit-preserved c).After-loop-j) in
    let here : nth (take n (drop at values)) k ≡ nth values (at + k) = get_or-take n (drop at values) k 0 l ∙ get_or-drop at values k 0 in
    let there = above_here (above-by (row (goal.at.loop-bit-preserved c).After-loop-j) k) in
    rw here (masks_at (masks_turn c.loop-bit.invariant c.requires.0 (omega arith) (λ e. omega arith) (at + k) there) (omega arith))

pub returns : goal.returns
returns c = masks_end c.loop-bit.invariant (omega (arith, c.loop-bit-test.false, long (goal.at.returns c).After-loop-j))
