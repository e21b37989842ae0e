-- The loop's invariant: the marks of the share i and each from j on are moved on.
use Prim.Native.Nat.{◌≤◌}
use Rattle.gadgets.specs.Internal.Places.{word_a, word_b, cross_at}
use Rattle.gadgets.specs.Internal.Gates.{CrossRowGates}
use Rattle.reach.specs.Internal.Marks.{Moves}
use Rattle.reach.proofs.reach.propagate_row.Given as goal

abbrev pub invariant-loop-j : goal.invariant-loop-j
invariant-loop-j l = let g = l.gadget in
    (l.from ≤ l.j) × Moves (CrossRowGates g.d g.first (word_a l.ops) (word_b g.d l.ops) l.i) (cross_at g.d g.first l.i l.j) (cross_at g.d g.first l.i l.to) l.initial.marks l.marks
