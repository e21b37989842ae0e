-- The loop's invariant: the marks of the outputs from i on are moved on.
use Rattle.gadgets.specs.Internal.Places.{out_at}
use Rattle.gadgets.specs.Internal.Gates.{OutGates}
use Rattle.reach.specs.Internal.Marks.{Moves}
use Rattle.reach.proofs.reach.propagate_outputs.Given as goal

abbrev pub invariant-loop-i : goal.invariant-loop-i
invariant-loop-i l = let g = l.gadget in
    Moves (OutGates g.d g.first) (out_at g.d g.first l.i) (out_at g.d g.first g.d) l.initial.marks l.marks
