-- The loop's invariant: the clock has come past the outputs of the shares below i.
use Rattle.gadgets.specs.Internal.Places.{held_at}
use Rattle.clock.specs.Internal.Running.{Runs}
use Rattle.clock.specs.Internal.Parts.{Holds}
use Rattle.clock.proofs.gadget.holds.Given as goal

abbrev pub invariant-loop-i : goal.invariant-loop-i
invariant-loop-i l = Runs (Holds l.g.d l.g.first) (held_at l.g.d l.g.first 0) (held_at l.g.d l.g.first l.i) l.values l.initial.bank l.values l.bank
