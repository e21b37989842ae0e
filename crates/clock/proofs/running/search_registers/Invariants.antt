-- The loop's invariant: no register before x has a byte over 1.
use Prim.Native.Nat.{ℕ, ◌≤◌, ◌<◌}
use Rattle.circuit.specs.Lists.{nth}
use Rattle.semantics.specs.Clock.{register_bytes}
use Rattle.clock.specs.Internal.Whole.{wires_of}
use Rattle.clock.proofs.running.search_registers.Given as goal

abbrev pub invariant-loop-x : goal.invariant-loop-x
invariant-loop-x l = (k : ℕ) → k < l.x → nth (register_bytes (wires_of l.table) l.bank) k ≤ 1
