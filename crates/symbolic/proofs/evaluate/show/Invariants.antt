-- The loop's invariant: the words of the wires below a place of the list are written.
use Rattle.symbolic.proofs.Running.{ShownTo}
use Rattle.symbolic.proofs.evaluate.show.Given as goal

abbrev pub invariant-loop-i : goal.invariant-loop-i
invariant-loop-i l = ShownTo l.sums l.read l.words l.shown l.i
