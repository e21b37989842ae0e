-- A clock as it is run, wire by wire. Before it, the buffer of values holds what the registers show; behind it, the bank holds what they
-- show on the next clock.
use Rattle.std.specs.Prelude.{◌≡◌, true, false, cond, List, [], ℕ, ◌≤◌, ◌<◌, length}
use Rattle.circuit.specs.Lists.{nth}
use Rattle.circuit.specs.Wires.{Gate}
use Rattle.semantics.specs.Clock.{is_register}
use Rattle.simulation.specs.Internal.Filling.{Values}
use Rattle.simulation.proofs.Packing.{word_value}
use Rattle.simulation.proofs.Ranks.{Ranks}

-- the byte that the bank holds of a wire behind the clock, from the byte before: what a register's operand shows
abbrev pub held : (v : Values) → Gate → ℕ → ℕ
held v g b = cond (is_register g) (word_value 1 [] [] g v 0) b

-- a clock: its wires, the random bits before each, what is fed and what each wire shows; the buffer of values and the bank before it. A
-- wire that is no register shows what its gate gives
pub record Clock : Type 0 where
  pub size : ℕ
  pub gate : ℕ → Gate
  pub rank : ℕ → ℕ
  pub ranks : Ranks size gate rank
  pub shares : List ℕ
  pub tape : List ℕ
  pub shows : Values
  pub meets : (x : ℕ) → x < size → is_register (gate x) ≡ false → shows x ≡ word_value 1 shares tape (gate x) shows (rank x)
  pub values : List ℕ
  pub bank : List ℕ

-- the clock has come to the wire n: the wires before it, and all registers, show what they show; the bank holds of the wires before it
-- what it holds behind the clock
pub record Upto (k : Clock) (n : ℕ) (values bank : List ℕ) : Type 0 where
  pub below : (x : ℕ) → x < n → nth values x ≡ k.shows x
  pub registers : (x : ℕ) → x < k.size → is_register (k.gate x) ≡ true → nth values x ≡ k.shows x
  pub above : (x : ℕ) → k.size ≤ x → nth values x ≡ nth k.values x
  pub held_below : (x : ℕ) → x < n → nth bank x ≡ held k.shows (k.gate x) (nth k.bank x)
  pub held_above : (x : ℕ) → n ≤ x → nth bank x ≡ nth k.bank x
  pub sized : length values ≡ length k.values
  pub held_sized : length bank ≡ length k.bank

-- a part of a clock's wires, from one to another: where its gates are such, the clock comes from the one to the other
pub record Runs (Gates : Clock → Type 0) (from to : ℕ) (values bank new_values new_bank : List ℕ) : Type 0 where
  pub on : (k : Clock) → Gates k → Upto k from values bank → Upto k to new_values new_bank
  pub sized : length new_values ≡ length values
  pub held_sized : length new_bank ≡ length bank
