-- The loop's invariant: the frames from the block's end on have moved their marks on.
use mathlib.Core.Path.{◌≡◌, refl, ap, ◌∙◌}
use Prim.Native.Nat.{◌≤◌}
use native.Mathlib.Omega.{arith}
use lib.ListN.{length}
use Rattle.reach.specs.Internal.Listing.{first_of}
use Rattle.reach.proofs.Highest.{none_over}
use Rattle.reach.proofs.Moved.{moves_then, moves_at, moves_unmarked}
use Rattle.reach.proofs.Propagating.{lists_first, none_before, rising, within_all}
use Rattle.reach.proofs.readings.propagate_frames.Goals as goal
use Rattle.reach.proofs.readings.propagate_frames.Goals.{After-saturating_sub-from}

-- a block's wires are among those of the marks
low : (c : After-saturating_sub-from) → let list = c.args.list.now in first_of list c.saturating_sub-from.result ≤ first_of list c.loop-to.to
low c = rising c.requires.0 (omega (arith, c.saturating_sub-from.ensures)) c.loop-to.invariant.0

high : (c : After-saturating_sub-from) → first_of c.args.list.now c.loop-to.to ≤ length c.loop-to.marks
high c = omega (arith, within_all c.requires.0 c.loop-to.invariant.0, c.requires.2, c.loop-to.invariant.1.size)

pub slice_bounds-largest-count : goal.slice_bounds-largest-count
slice_bounds-largest-count c = low (goal.at.slice_bounds-largest-count c).After-saturating_sub-from

pub slice_bounds-largest-start : goal.slice_bounds-largest-start
slice_bounds-largest-start c = let s = (goal.at.slice_bounds-largest-start c).After-saturating_sub-from in omega (arith, low s, high s)

pub slice_bounds-largest-end : goal.slice_bounds-largest-end
slice_bounds-largest-end c = let s = (goal.at.slice_bounds-largest-end c).After-saturating_sub-from in omega (arith, low s, high s)

pub propagate_block-requires-then-marked : goal.propagate_block-requires-then-marked
propagate_block-requires-then-marked c =
    let p = c.requires in
    (lists_first p.0 c.loop-to.invariant.0, omega (arith, c.saturating_sub-from.ensures), p.1, omega (arith, p.2, c.loop-to.invariant.1.size))

pub loop-to-preserved-then-marked : goal.loop-to-preserved-then-marked
loop-to-preserved-then-marked c =
    let (most, moves) = c.loop-to.invariant in
    (omega (arith, c.saturating_sub-from.ensures), moves_then (rising c.requires.0 most (omega arith)) moves c.propagate_block-then-marked.ensures)

pub loop-to-preserved : goal.loop-to-preserved
loop-to-preserved c =
    let (most, moves) = c.loop-to.invariant in
    let s = (goal.at.loop-to-preserved c).After-saturating_sub-from in
    let unmarked = none_over c.loop-to.marks _ _ (high s) c.largest-marked.ensures c.if-marked.false in
    (omega (arith, c.saturating_sub-from.ensures), moves_then (rising c.requires.0 most (omega arith)) moves (moves_unmarked _ _ _ unmarked))

pub returns : goal.returns
returns c = let e : c.loop-to.to ≡ 0 = omega arith in moves_at (ap (first_of c.args.list.now) e ∙ none_before c.requires.0) refl c.loop-to.invariant.1
