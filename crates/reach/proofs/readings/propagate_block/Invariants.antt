-- The loop's invariant: the frames from the i-th on have moved their marks on.
use Prim.Native.Nat.{◌≤◌}
use Rattle.reach.specs.Internal.Listing.{first_of}
use Rattle.reach.specs.Internal.Marks.{Moves, GatesOf}
use Rattle.reach.proofs.readings.propagate_block.Given as goal

abbrev pub invariant-loop-i : goal.invariant-loop-i
invariant-loop-i l = (l.from ≤ l.i) × Moves (GatesOf l.table) (first_of l.list l.i) (first_of l.list l.to) l.initial.marks l.marks
