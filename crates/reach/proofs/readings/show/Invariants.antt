-- The loops' invariant: writing all bytes comes to writing those from wire x on. From `wires` on no wire is marked, so each is 2.
use mathlib.Core.List.{List}
use Prim.Native.Nat.{ℕ, ◌≤◌}
use Rattle.reach.proofs.Showing.{ShownTo}
use Rattle.reach.proofs.readings.show.Given as goal

abbrev pub invariant-loop-x : goal.invariant-loop-x
invariant-loop-x l = ShownTo l.marks l.values l.initial.reading l.reading l.x

abbrev pub invariant-loop-x-2 : goal.invariant-loop-x-2
invariant-loop-x-2 l = (l.wires ≤ l.x) × ((old : List ℕ) → ShownTo l.marks l.values old l.initial.reading l.wires → ShownTo l.marks l.values old l.reading l.x)
