-- A whole clock, from bytes that are bits.
use Rattle.std.specs.Prelude.{◌≡◌, true, List, ℕ, ◌≤◌, ◌<◌, length}
use Rattle.circuit.specs.Lists.{nth, overwrite}
use Rattle.circuit.specs.Wires.{Wire}
use Rattle.circuit.specs.Circuit.{size}
use Rattle.semantics.specs.Values.{bytes}
use Rattle.semantics.specs.Clock.{is_register, held_bytes, shown_on}
use Rattle.semantics.proofs.Solving.{gate_at}
use Rattle.gadgets.specs.Internal.Accepting.{circuit_in}
use Rattle.simulation.specs.Internal.Evaluating.{Evaluable, Bits}

-- the wires of an accepted table
abbrev pub wires_of : List ℕ → List Wire
wires_of table = (circuit_in table).wires

-- a table, its shares and its tape, with room for all wires in a buffer and in a bank
abbrev pub Ready : (table shares tape values bank : List ℕ) → Type 0
Ready table shares tape values bank = Evaluable table shares tape (length values) × (size (circuit_in table) ≤ length bank)

-- the shares, the tape and the bytes of registers on a buffer are bits
pub record AllBits (table shares tape shown : List ℕ) : Type 0 where
  pub share_bits : Bits shares
  pub tape_bits : Bits tape
  pub shown_bits : (x : ℕ) → x < size (circuit_in table) → is_register (gate_at (wires_of table) x) ≡ true → nth shown x ≤ 1

-- the registers show the bytes of one buffer: the values are written over another, and the bank holds what is shown next
pub record Clocked (table shares tape shown values bank new_values new_bank : List ℕ) : Type 0 where
  pub valued : AllBits table shares tape shown → new_values ≡ overwrite (bytes (shown_on (wires_of table) shown shares tape)) values
  pub banked : AllBits table shares tape shown → new_bank ≡ overwrite (held_bytes (wires_of table) (shown_on (wires_of table) shown shares tape) bank) bank
