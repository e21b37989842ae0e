-- The loop's invariant: the probes so far are at most the highest, and that is below every number that all probes are below.
use Prim.Native.Nat.{ℕ, ◌≤◌, ◌<◌}
use Rattle.circuit.specs.Lists.{nth}
use Rattle.circuit.proofs.Base.{In}
use Rattle.reach.proofs.readings.marks_end.Given as goal

abbrev pub invariant-loop-wire : goal.invariant-loop-wire
invariant-loop-wire l = ((j : ℕ) → j < l.wire-index → nth l.probes j ≤ l.most) × ((n : ℕ) → ((x : ℕ) → In x l.probes → x < n) → l.most < n) × (l.most < 65536)
