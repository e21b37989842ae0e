-- The loop's invariant: the marked wires so far are listed.
use Rattle.counting.specs.Internal.Reading.{marked_below, Lists}
use Rattle.counting.proofs.read.list_block.Given as goal

abbrev pub invariant-loop-x : goal.invariant-loop-x
invariant-loop-x l = Lists (marked_below l.marks l.x) l.list
