-- The loop's invariant: the variables of the read wires up to one are among those found.
use Rattle.counting.proofs.Surveying.{ReadTo}
use Rattle.counting.proofs.linear.variables_read.Given as goal

abbrev pub invariant-loop-wire : goal.invariant-loop-wire
invariant-loop-wire l = ReadTo l.sums l.read l.all l.wire-index
