-- The loop's invariant: the words of the free bits up to one are written.
use Rattle.counting.proofs.Filling.{FilledTo}
use Rattle.counting.proofs.variables.fill_free.Given as goal

abbrev pub invariant-loop-i : goal.invariant-loop-i
invariant-loop-i l = FilledTo l.factors l.free l.batch l.words l.rank l.i
