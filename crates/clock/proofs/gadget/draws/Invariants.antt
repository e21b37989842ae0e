-- The loop's invariant: the clock has come past r and R of the pairs below q.
use Prim.Native.Nat.{◌+◌, ◌*◌}
use Rattle.clock.specs.Internal.Running.{Runs}
use Rattle.clock.specs.Internal.Parts.{Draws}
use Rattle.clock.proofs.gadget.draws.Given as goal

abbrev pub invariant-loop-q : goal.invariant-loop-q
invariant-loop-q l = Runs (Draws l.tape l.g.used l.g.first l.g.pairs) l.g.first (l.g.first + 2 * l.q) l.initial.values l.initial.bank l.values l.bank
