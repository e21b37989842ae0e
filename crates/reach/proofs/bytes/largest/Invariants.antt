-- The loop's invariant: no byte passed is over the largest.
use Prim.Native.Nat.{ℕ, ◌≤◌, ◌<◌}
use Rattle.circuit.specs.Lists.{nth}
use Rattle.reach.proofs.bytes.largest.Given as goal

abbrev pub invariant-loop-byte : goal.invariant-loop-byte
invariant-loop-byte l = (x : ℕ) → x < l.byte-index → nth l.bytes x ≤ l.most
