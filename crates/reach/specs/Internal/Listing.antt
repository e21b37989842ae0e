-- The frames of an accepted table, listed: where each begins, and how many wires come before it.
use Rattle.std.specs.Prelude.{◌≡◌, List, ℕ, ◌+◌, ◌*◌, ◌≤◌, ◌<◌, length, take, get_or}
use Rattle.circuit.specs.Circuit.{size, empty}
use Rattle.circuit.specs.Composition.{Frame, build}
use Rattle.gadgets.specs.Internal.Accepting.{AcceptedTable, Between}
use Rattle.reach.specs.declared.listing.Listed.{Listed}

-- what a list says of a frame
abbrev pub at_place : List Listed → ℕ → Listed
at_place list i = get_or list i (record { start = 0; first = 0 })

abbrev pub start_of : List Listed → ℕ → ℕ
start_of list i = (at_place list i).start

abbrev pub first_of : List Listed → ℕ → ℕ
first_of list i = (at_place list i).first

-- a list that holds the places of the first frames
abbrev pub Starts : (table : List ℕ) (fs : List Frame) (list : List Listed) (count : ℕ) → Type 0
Starts table fs list count = (i : ℕ) → i < count → (b : Between table fs (start_of list i)) × (b.before ≡ take i fs)

-- how many wires come before a frame
abbrev pub wires_before : {table : List ℕ} → AcceptedTable table → ℕ → ℕ
wires_before a i = size (build (empty a.d) (take i a.fs))

-- a list that holds these numbers
abbrev pub Firsts : {table : List ℕ} → AcceptedTable table → (list : List Listed) (count : ℕ) → Type 0
Firsts a list count = (i : ℕ) → i < count → first_of list i ≡ wires_before a i

-- room for all frames: each of them, and HEAD too, has at least two words
abbrev pub Room : (table : List ℕ) (list : List Listed) → Type 0
Room table list = length table ≤ 2 * length list

-- a list that holds the frames before a place, and how many wires come before that
pub record ListedTo (table : List ℕ) (list : List Listed) (at first count : ℕ) : Type 0 where
  pub accepted : AcceptedTable table
  pub between : Between table accepted.fs at
  pub counted : length between.before ≡ count
  pub starts_are : Starts table accepted.fs list count
  pub firsts_are : Firsts accepted list count
  pub first_is : first ≡ wires_before accepted count
  pub spaced : 2 * count + 2 ≤ at

-- a list that holds an accepted table's first frames, and behind them how many wires they make
pub record Lists (table : List ℕ) (list : List Listed) (count : ℕ) : Type 0 where
  pub accepted : AcceptedTable table
  pub most : count ≤ length accepted.fs
  pub few : 2 * count + 2 ≤ length table
  pub starts_are : Starts table accepted.fs list count
  pub firsts_are : Firsts accepted list (count + 1)
