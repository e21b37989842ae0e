-- The loop's invariant: the marked wires so far are listed.
use Prim.Native.Nat.{min}
use Rattle.counting.specs.Internal.Reading.{marked_below, Lists}
use Rattle.counting.proofs.read.list_marked.Given as goal

abbrev pub invariant-loop-from : goal.invariant-loop-from
invariant-loop-from l = Lists (marked_below l.marks (min l.from l.wires)) l.list
