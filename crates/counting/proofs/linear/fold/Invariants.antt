-- The loop's invariant: the free bits up to one are counted, but for the doublings.
use lib.ListN.{length}
use Rattle.circuit.specs.Lists.{nth}
use Rattle.counting.specs.Internal.Lanes.{lane_bit}
use Rattle.counting.proofs.Shifting.{FoldedTo}
use Rattle.counting.proofs.linear.fold.Given as goal

abbrev pub invariant-loop-i : goal.invariant-loop-i
invariant-loop-i l = FoldedTo (λ j. lane_bit j l.factors) (nth l.shifts) (length l.shifts) l.found l.initial.tally l.tally l.doubles l.i
