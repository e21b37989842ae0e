-- The loop's invariant: the marks of the sums from i on are moved on.
use Prim.Native.Nat.{◌+◌, ◌*◌}
use Rattle.circuit.specs.Kinds.{pairs}
use Rattle.gadgets.specs.Internal.Places.{word_a, sum_at}
use Rattle.gadgets.specs.Internal.Gates.{RefGates}
use Rattle.reach.specs.Internal.Marks.{Moves}
use Rattle.reach.proofs.reach.propagate_refresh.Given as goal

abbrev pub invariant-loop-i : goal.invariant-loop-i
invariant-loop-i l = let g = l.gadget in
    Moves (λ z. RefGates z g.d g.first (word_a l.ops)) (sum_at g.d g.first l.i) (g.first + (pairs g.d + 2 * g.d)) l.initial.marks l.marks
