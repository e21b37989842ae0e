-- The loop's invariant: marking all wires comes to marking those that are left.
use mathlib.Core.Path.{◌≡◌}
use Prim.Native.Nat.{◌+◌, ◌-◌, ◌*◌}
use Rattle.reach.specs.Internal.Marks.{mark_all, six_apart}
use Rattle.reach.proofs.reach.mark_six_apart.Given as goal

abbrev pub invariant-loop-k : goal.invariant-loop-k
invariant-loop-k l = mark_all l.marks (six_apart (l.from + 6 * l.k) (l.count - l.k)) ≡ mark_all l.initial.marks (six_apart l.from l.count)
