-- The loop's invariant: the clock has come past the rows of the shares below i, and their outputs are written.
use Rattle.gadgets.specs.Internal.Places.{word_a, word_b}
use Rattle.clock.proofs.Outputs.{RowsOn}
use Rattle.clock.proofs.gadget.cross_all.Given as goal

abbrev pub invariant-loop-i : goal.invariant-loop-i
invariant-loop-i l = RowsOn l.g.d l.g.first (word_a l.ops) (word_b l.g.d l.ops) l.initial.values l.initial.bank l.values l.bank l.i
