-- The loop's invariant: the frames before the walk's place are expanded.
use mathlib.Core.Path.{◌≡◌}
use Prim.Native.Nat.{◌-◌}
use lib.ListN.{length}
use Rattle.circuit.specs.Lists.{nth}
use Rattle.symbolic.proofs.Expanding.{ExpandedTo}
use Rattle.symbolic.proofs.expand.expand.Given as goal

abbrev pub invariant-loop-next : goal.invariant-loop-next
invariant-loop-next l = record {
  same : l.walk.d ≡ nth l.table 1;
  here : ExpandedTo (length l.initial.sums) l.table l.shares l.tape l.read (length l.read) l.sums l.terms l.walk.at l.first l.from l.used l.outputs;
}

abbrev pub decreases-loop-next : goal.decreases-loop-next
decreases-loop-next l = length l.table - l.walk.at
