-- The loop's invariant: the wires below a place of the list are written.
use Rattle.symbolic.specs.Internal.Terms.{ReadsInside}
use Rattle.symbolic.proofs.gadget.read_inside.Given as goal

abbrev pub invariant-loop-n : goal.invariant-loop-n
invariant-loop-n l = ReadsInside l.gadget.d l.gadget.first l.ops l.tape l.gadget.used l.read l.n l.initial.sums l.initial.terms l.sums l.terms
