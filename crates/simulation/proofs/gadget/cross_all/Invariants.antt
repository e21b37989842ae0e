-- The loop's invariant: the rows of the shares below i are filled in, and so are their outputs.
use Rattle.gadgets.specs.Internal.Places.{word_a}
use Rattle.simulation.proofs.Outputs.{OutputsOn}
use Rattle.simulation.proofs.gadget.cross_all.Given as goal

abbrev pub invariant-loop-i : goal.invariant-loop-i
invariant-loop-i l = OutputsOn l.g.d l.g.first (word_a l.ops) l.initial.values l.values l.i
