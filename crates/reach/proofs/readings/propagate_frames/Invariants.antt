-- The loop's invariant: the frames from the block's end on have moved their marks on.
use Prim.Native.Nat.{◌≤◌}
use Rattle.reach.specs.Internal.Listing.{first_of}
use Rattle.reach.specs.Internal.Marks.{Moves, GatesOf}
use Rattle.reach.proofs.readings.propagate_frames.Given as goal

abbrev pub invariant-loop-to : goal.invariant-loop-to
invariant-loop-to l = (l.to ≤ l.count) × Moves (GatesOf l.table) (first_of l.list l.to) (first_of l.list l.count) l.fn.marks l.marks

abbrev pub decreases-loop-to : goal.decreases-loop-to
decreases-loop-to l = l.to
