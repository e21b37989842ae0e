-- The loop's invariant: the values of the frames before the walk's place are filled in.
use mathlib.Core.Path.{◌≡◌}
use Prim.Native.Nat.{◌-◌}
use lib.ListN.{length}
use Rattle.circuit.specs.Lists.{nth}
use Rattle.simulation.specs.Internal.Walked.{FilledTo}
use Rattle.simulation.proofs.values.fill.Given as goal

abbrev pub invariant-loop-next : goal.invariant-loop-next
invariant-loop-next l =
    (l.walk.d ≡ nth l.table 1) × FilledTo l.table l.shares l.tape l.initial.values l.values l.walk.at l.before.first l.before.from l.before.used

abbrev pub decreases-loop-next : goal.decreases-loop-next
decreases-loop-next l = length l.table - l.walk.at
