-- The loop's invariant: writing the shares for all words comes to writing those from this word on.
use Rattle.counting.proofs.Sharing.{AllTo}
use Rattle.counting.proofs.pairs.complete.Given as goal

abbrev pub invariant-loop-j : goal.invariant-loop-j
invariant-loop-j l = AllTo l.words l.others l.lasts l.initial.shares l.shares l.j
