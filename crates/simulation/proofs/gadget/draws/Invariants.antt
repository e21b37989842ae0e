-- The loop's invariant: r and R of the pairs below q are filled in.
use Prim.Native.Nat.{◌+◌, ◌*◌}
use Rattle.simulation.specs.Internal.Filling.{Fills, Drawn}
use Rattle.simulation.proofs.gadget.draws.Given as goal

abbrev pub invariant-loop-q : goal.invariant-loop-q
invariant-loop-q l = Fills (Drawn l.tape l.g.used l.g.first l.g.pairs) l.g.first (l.g.first + 2 * l.q) l.initial.values l.values
