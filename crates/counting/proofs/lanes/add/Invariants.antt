-- The loop's invariant: the numbers of the lanes so far are counted, and the rest are those of the others.
use Rattle.counting.proofs.Adding.{AddedTo}
use Rattle.counting.proofs.lanes.add.Given as goal

abbrev pub invariant-loop-lane : goal.invariant-loop-lane
invariant-loop-lane l = AddedTo l.numbers l.lanes l.initial.tally l.tally l.rest l._lane
