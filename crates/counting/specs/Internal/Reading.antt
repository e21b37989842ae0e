-- The marked wires as a list.
use Rattle.std.specs.Prelude.{◌≡◌, List, ℕ, ◌<◌, length, take}
use Rattle.circuit.specs.Lists.{nth, range, filter}
use Rattle.circuit.specs.Circuit.{size, is_set}
use Rattle.circuit.proofs.Base.{In}
use Rattle.gadgets.specs.Internal.Accepting.{AcceptedTable, circuit_in}
use Rattle.counting.specs.declared.read_wires.ReadWires.{ReadWires}
use Rattle.counting.specs.Counting.{read_wires}

-- the marked wires below a number
abbrev pub marked_below : (marks : List ℕ) → ℕ → List ℕ
marked_below marks n = filter (λ x. is_set (nth marks x)) (range 0 n)

-- an accepted table, and probes on its wires
pub record Probed (table : List ℕ) (wires : ℕ) (probes : List ℕ) : Type 0 where
  pub accepted : AcceptedTable table
  pub wires_are : wires ≡ size (circuit_in table)
  pub made : (x : ℕ) → In x probes → x < wires

-- a list in the code; and one of these wires: their number, and the first eight
abbrev pub listed : ReadWires → List ℕ
listed l = take l.count l.wires

pub record Lists (wires : List ℕ) (l : ReadWires) : Type 0 where
  pub all : l.count ≡ length wires
  pub first : listed l ≡ take 8 wires

-- the list of the wires that probes read, each a wire of the circuit
pub record ListsRead (table probes : List ℕ) (l : ReadWires) : Type 0 where
  pub lists : Lists (read_wires (circuit_in table) probes) l
  pub made : (i : ℕ) → i < length (listed l) → nth (listed l) i < size (circuit_in table)

-- the wires that probes read, all of them
pub record ReadBy (table probes read : List ℕ) : Type 0 where
  pub are : read ≡ read_wires (circuit_in table) probes
  pub made : (i : ℕ) → i < length read → nth read i < size (circuit_in table)
