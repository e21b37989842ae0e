-- The loop's invariant: the wires of the share i and the others below j are filled in, and their U and W are added.
use Rattle.simulation.proofs.Rows.{RowOn}
use Rattle.simulation.proofs.gadget.cross_row.Given as goal

abbrev pub invariant-loop-j : goal.invariant-loop-j
invariant-loop-j l = RowOn l.g.d l.g.first l.i l.a l.word l.initial.values l.values l.sum l.j
