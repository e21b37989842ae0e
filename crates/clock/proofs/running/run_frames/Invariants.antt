-- The loop's invariant: the clock has come to the first wire behind the walk's place.
use mathlib.Core.Path.{◌≡◌}
use Prim.Native.Nat.{◌-◌}
use lib.ListN.{length}
use Rattle.circuit.specs.Lists.{nth}
use Rattle.clock.proofs.Walked.{ClockingTo}
use Rattle.clock.proofs.running.run_frames.Given as goal

abbrev pub invariant-loop-next : goal.invariant-loop-next
invariant-loop-next l =
    (l.walk.d ≡ nth l.table 1) × ClockingTo l.table l.shares l.tape l.initial.values l.initial.bank l.values l.bank l.walk.at l.before.first l.before.from l.before.used

abbrev pub decreases-loop-next : goal.decreases-loop-next
decreases-loop-next l = length l.table - l.walk.at
