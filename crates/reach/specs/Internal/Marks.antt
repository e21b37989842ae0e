-- Marks on wires, one byte each: they go from a wire to those it takes, until they stand on stops.
use Rattle.std.specs.Prelude.{◌≡◌, cond, true, List, [], ◌∷◌, ◌++◌, ℕ, zero, suc, ◌+◌, ◌-◌, ◌≤◌, ◌<◌, ltb, length, set}
use Rattle.circuit.specs.Lists.{nth}
use Rattle.circuit.specs.Wires.{Gate, Wire, is_stop}
use Rattle.circuit.specs.Circuit.{is_set}
use Rattle.circuit.proofs.Base.{In}
use Rattle.semantics.specs.Probes.{stops}
use Rattle.semantics.proofs.Reading.{probe}
use Rattle.gadgets.specs.Internal.Places.{cross_start, product_at}
use Rattle.semantics.proofs.Solving.{gate_at, OrderedFrom}
use Rattle.gadgets.specs.Internal.Accepting.{circuit_in}

-- a mark on each wire of a list
abbrev pub mark_all : List ℕ → List ℕ → List ℕ
mark_all marks [] = marks
mark_all marks (x ∷ xs) = mark_all (set marks x 1) xs

-- the mark of wire x goes to the wires of a list
abbrev pub propagated : (x : ℕ) (wires marks : List ℕ) → List ℕ
propagated x wires marks = cond (ltb (nth marks x) 1) marks (set (mark_all marks wires) x 0)

-- numbers six apart
unfoldable pub six_apart : (from count : ℕ) → List ℕ
six_apart from zero = []
six_apart from (suc n) = from ∷ six_apart (from + 6) n

-- the wires that an output of AND takes
abbrev pub out_wires : (d first i : ℕ) → List ℕ
out_wires d first i = (product_at d first i + 2) ∷ six_apart (first + cross_start d i + 1) (d - 1) ++ six_apart (first + cross_start d i + 5) (d - 1)

abbrev pub Marked : List ℕ → ℕ → Type 0
Marked marks x = is_set (nth marks x) ≡ true

-- a marked wire that reads a stop
pub record Source (ws : List Wire) (marks : List ℕ) (s : ℕ) : Type 0 where
  pub wire : ℕ
  pub marked : Marked marks wire
  pub reads : In s (probe ws wire)

-- the marked wires read what the probes read, and those from w on are stops
pub record Moving (ws : List Wire) (probes marks : List ℕ) (w : ℕ) : Type 0 where
  pub into : (x s : ℕ) → Marked marks x → In s (probe ws x) → In s (stops ws probes)
  pub from : (s : ℕ) → In s (stops ws probes) → Source ws marks s
  pub made : (x : ℕ) → Marked marks x → x < length ws
  pub settled : (x : ℕ) → w ≤ x → Marked marks x → is_stop (gate_at ws x) ≡ true

-- the marks on wires from one to another, whose gates are these, are moved on
pub record Moves (Gates : (ℕ → Gate) → Type 0) (from to : ℕ) (old new : List ℕ) : Type 0 where
  pub moved : (ws : List Wire) (probes : List ℕ) → OrderedFrom 0 ws → Gates (gate_at ws) → to ≤ length ws → length ws ≤ length old
      → Moving ws probes old to → Moving ws probes new from
  pub size : length new ≡ length old

-- the gates of a table's wires
abbrev pub GatesOf : (table : List ℕ) → (ℕ → Gate) → Type 0
GatesOf table g = g ≡ gate_at (circuit_in table).wires

-- no wire from one to another is marked
abbrev pub Unmarked : (marks : List ℕ) (from to : ℕ) → Type 0
Unmarked marks from to = (x : ℕ) → from ≤ x → x < to → nth marks x < 1

-- a wire's byte of the reading
abbrev pub shown_at : (mark value : ℕ) → ℕ
shown_at mark value = cond (ltb mark 1) 2 value
