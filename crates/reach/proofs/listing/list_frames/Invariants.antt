-- The loop's invariant: the frames before the place are listed, and the shape is that of the kind.
use mathlib.Core.Path.{◌≡◌}
use Prim.Native.Nat.{◌-◌}
use lib.ListN.{length}
use Rattle.circuit.specs.Kinds.{kind_of}
use Rattle.frames.specs.Walk.{shape_taking}
use Rattle.reach.specs.Internal.Listing.{ListedTo}
use Rattle.reach.proofs.listing.list_frames.Given as goal

abbrev pub invariant-loop-first : goal.invariant-loop-first
invariant-loop-first l = ListedTo l.table l.list l.at l.first l.count × (l.shape ≡ shape_taking l.randoms l.d (kind_of l.kind))

abbrev pub decreases-loop-first : goal.decreases-loop-first
decreases-loop-first l = length l.table - l.at
