-- The loop's invariant: the outputs of the shares below i are filled in.
use Rattle.gadgets.specs.Internal.Places.{held_at}
use Rattle.simulation.specs.Internal.Filling.{Fills, Held}
use Rattle.simulation.proofs.gadget.holds.Given as goal

abbrev pub invariant-loop-i : goal.invariant-loop-i
invariant-loop-i l = Fills (Held l.g.d l.g.first) (held_at l.g.d l.g.first 0) (held_at l.g.d l.g.first l.i) l.initial.values l.values
