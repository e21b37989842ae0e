-- What the values of an accepted table's wires rest on, and what they are; and lists of bits, packed into words.
use Rattle.std.specs.Prelude.{◌≡◌, Bool, List, ℕ, zero, suc, ◌+◌, ◌*◌, ◌≤◌, ◌<◌, length}
use Rattle.circuit.specs.Lists.{nth}
use Rattle.circuit.specs.Circuit.{size}
use Rattle.semantics.specs.Values.{bits, byte, at, values_of}
use Rattle.gadgets.specs.Internal.Accepting.{AcceptedTable, circuit_in}

-- the word whose bit l is f l, for l below n
abbrev pub packed : ℕ → (ℕ → Bool) → ℕ
packed zero f = 0
packed (suc n) f = packed n (λ l. f (suc l)) * 2 + byte (f 0)

-- words that hold n lists of bits, the list l in the bits l
abbrev pub Packs : (n : ℕ) (lists : ℕ → List Bool) (words : List ℕ) → Type 0
Packs n lists words = (i : ℕ) → nth words i ≡ packed n (λ l. at (lists l) i)

-- an accepted table, with as many words of shares and tape as it takes, and room for the values
pub record Evaluable (table shares tape : List ℕ) (room : ℕ) : Type 0 where
  pub accepted : AcceptedTable table
  pub shared : length shares ≡ (circuit_in table).inputs * (circuit_in table).d
  pub drawn : length tape ≡ (circuit_in table).randoms
  pub roomy : size (circuit_in table) ≤ room

-- bytes that are bits
abbrev pub Bits : List ℕ → Type 0
Bits values = (x : ℕ) → nth values x ≤ 1

-- the values of one sharing and tape, where these are bits; the rest is as it was
pub record Evaluates (table shares tape old new : List ℕ) : Type 0 where
  pub known : Bits shares → Bits tape → (x : ℕ) → x < size (circuit_in table) → nth new x ≡ byte (at (values_of (circuit_in table).wires (bits shares) (bits tape)) x)
  pub above : (x : ℕ) → size (circuit_in table) ≤ x → nth new x ≡ nth old x
  pub sized : length new ≡ length old
