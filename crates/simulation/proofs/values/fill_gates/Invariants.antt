-- The loop's invariant: from the first place to this one the gates are filled in, whatever the shares and random bits are.
use mathlib.Core.Path.{◌≡◌}
use Prim.Native.Nat.{◌-◌, ◌≤◌}
use lib.ListN.{length}
use Rattle.circuit.specs.Lists.{nth}
use Rattle.simulation.specs.Internal.Walked.{GatesFilled}
use Rattle.simulation.proofs.values.fill_gates.Given as goal

abbrev pub invariant-loop-next : goal.invariant-loop-next
invariant-loop-next l =
    (l.walk.d ≡ nth l.table 1) × (l.initial.walk.at ≤ l.walk.at) × GatesFilled l.table l.initial.values l.initial.walk.at l.wires l.values l.walk.at l.first

abbrev pub decreases-loop-next : goal.decreases-loop-next
decreases-loop-next l = length l.table - l.walk.at
