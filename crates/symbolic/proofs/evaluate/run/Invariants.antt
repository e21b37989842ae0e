-- The loop's invariant: the words of the products below one are written.
use Rattle.symbolic.specs.Internal.Sums.{Runs}
use Rattle.symbolic.proofs.evaluate.run.Given as goal

abbrev pub invariant-loop-n : goal.invariant-loop-n
invariant-loop-n l = Runs l.terms l.from l.n l.initial.words l.words
