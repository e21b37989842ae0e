-- The loop's invariant: the lines of the frames before the walk's place are written.
use mathlib.Core.Path.{◌≡◌}
use Prim.Native.Nat.{◌-◌}
use lib.ListN.{length}
use Rattle.circuit.specs.Lists.{nth}
use Rattle.writer.proofs.Writing.{LinesTo}
use Rattle.writer.proofs.write_frames.Given as goal

abbrev pub invariant-loop-next : goal.invariant-loop-next
invariant-loop-next l = (l.walk.d ≡ nth l.table 1) × LinesTo l.table l.initial.text l.text l.walk.at

abbrev pub decreases-loop-next : goal.decreases-loop-next
decreases-loop-next l = length l.table - l.walk.at
