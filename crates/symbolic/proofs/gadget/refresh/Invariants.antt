-- The loop's invariant: the sums of the shares below i are written, behind the random bits.
use Rattle.symbolic.proofs.Written.{RefreshedTo}
use Rattle.symbolic.proofs.gadget.refresh.Given as goal

abbrev pub invariant-loop-i : goal.invariant-loop-i
invariant-loop-i l = RefreshedTo l.gadget.d l.gadget.first l.ops l.tape l.gadget.used l.initial.sums l.sums l.i
