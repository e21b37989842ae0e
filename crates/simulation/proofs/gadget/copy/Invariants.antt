-- The loop's invariant: the bytes below q are copied.
use Prim.Native.Nat.{◌+◌}
use Rattle.simulation.specs.Internal.Filling.{Fills, Copied}
use Rattle.simulation.proofs.gadget.copy.Given as goal

abbrev pub invariant-loop-q : goal.invariant-loop-q
invariant-loop-q l = Fills (Copied l.source l.from l.at l.count) l.at (l.at + l.q) l.initial.values l.values
