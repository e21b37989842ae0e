-- The loop's invariant: writing all shares comes to writing those from this one on.
use Rattle.counting.proofs.Sharing.{OneTo}
use Rattle.counting.proofs.pairs.complete_one.Given as goal

abbrev pub invariant-loop-i : goal.invariant-loop-i
invariant-loop-i l = OneTo l.words l.whole l.initial.shares l.shares l.last l.i
