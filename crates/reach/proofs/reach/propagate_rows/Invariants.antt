-- The loop's invariant: the marks of the rows from i on are moved on.
use Prim.Native.Nat.{◌+◌}
use Rattle.gadgets.specs.Internal.Places.{word_a, word_b, cross_start}
use Rattle.gadgets.specs.Internal.Gates.{CrossAllGates}
use Rattle.reach.specs.Internal.Marks.{Moves}
use Rattle.reach.proofs.reach.propagate_rows.Given as goal

abbrev pub invariant-loop-i : goal.invariant-loop-i
invariant-loop-i l = let g = l.gadget in
    Moves (CrossAllGates g.d g.first (word_a l.ops) (word_b g.d l.ops)) (g.first + cross_start g.d l.i) (g.first + cross_start g.d g.d) l.initial.marks l.marks
