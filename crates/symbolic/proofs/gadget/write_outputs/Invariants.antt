-- The loop's invariant: the outputs of the shares below i are written.
use Rattle.symbolic.proofs.Reading.{OutputsTo}
use Rattle.symbolic.proofs.gadget.write_outputs.Given as goal

abbrev pub invariant-loop-i : goal.invariant-loop-i
invariant-loop-i l = OutputsTo l.gadget.d l.gadget.first l.ops l.tape l.gadget.used l.outputs l.initial.sums l.initial.terms l.sums l.terms l.i
