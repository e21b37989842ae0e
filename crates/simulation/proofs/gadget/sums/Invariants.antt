-- The loop's invariant: the sums of the shares below i are filled in.
use Rattle.gadgets.specs.Internal.Places.{word_a, sum_at}
use Rattle.simulation.specs.Internal.Filling.{Fills, Masked}
use Rattle.simulation.proofs.gadget.sums.Given as goal

abbrev pub invariant-loop-i : goal.invariant-loop-i
invariant-loop-i l = Fills (Masked l.g.d l.g.first (word_a l.ops)) (sum_at l.g.d l.g.first 0) (sum_at l.g.d l.g.first l.i) l.initial.values l.values
