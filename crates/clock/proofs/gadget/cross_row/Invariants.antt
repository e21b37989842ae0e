-- The loop's invariant: the clock has come past the wires of the share i and the others below j, and what their U and W show is added.
use Rattle.gadgets.specs.Internal.Places.{word_b}
use Rattle.clock.proofs.Rows.{RowOn}
use Rattle.clock.proofs.gadget.cross_row.Given as goal

abbrev pub invariant-loop-j : goal.invariant-loop-j
invariant-loop-j l = RowOn l.g.d l.g.first l.i (word_b l.g.d l.ops) l.a l.word l.from l.to l.initial.values l.initial.bank l.values l.bank l.sum l.j
