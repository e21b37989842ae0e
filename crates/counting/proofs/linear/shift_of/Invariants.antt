-- The loop's invariant: the number so far is that of the wires so far.
use mathlib.Core.Path.{◌≡◌}
use Rattle.circuit.specs.Lists.{nth}
use Rattle.counting.specs.Internal.Lanes.{shown_by}
use Rattle.counting.proofs.linear.shift_of.Given as goal

abbrev pub invariant-loop-wire : goal.invariant-loop-wire
invariant-loop-wire l = l.shift ≡ shown_by (λ n. nth l.sums (nth l.read n)) l.wire-index l.i
