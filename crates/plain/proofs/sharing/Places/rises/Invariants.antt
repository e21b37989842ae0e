-- The loop's invariant: the words before the i-th are on step.
use Prim.Native.Nat.{ℕ, ◌<◌}
use Rattle.plain.proofs.Rising.{OnStep}
use Rattle.plain.proofs.sharing.Places.rises.Given as goal

abbrev pub invariant-loop-i : goal.invariant-loop-i
invariant-loop-i l = (j : ℕ) → j < l.i → OnStep l.table l.at l.self.by l.step j
