-- What counting the pairs of one set of secret bits rests on, and what it gives.
use Rattle.std.specs.Prelude.{◌≡◌, Bool, cond, List, ℕ, ◌+◌, ◌*◌, ◌-◌, ◌^◌, ◌≤◌, ◌<◌, length, take, drop}
use Rattle.semantics.specs.Counts.{free_bits}
use Rattle.circuit.specs.Lists.{nth, overwrite}
use Rattle.circuit.specs.Circuit.{size}
use Rattle.semantics.specs.Values.{bits, at}
use Rattle.gadgets.specs.Internal.Accepting.{AcceptedTable, circuit_in}
use Rattle.simulation.specs.Internal.Evaluating.{packed}
use Rattle.counting.specs.declared.plan.Plan.{Plan}
use Rattle.counting.specs.Counting.{read_wires, count_list}
use Rattle.symbolic.specs.Internal.Expanding.{Expanded}
use Rattle.counting.specs.Internal.Pairs.{values_with, shown_among, shown_of, placed, count_varied}
use Rattle.counting.specs.Internal.Lanes.{place_of}
use Rattle.counting.specs.Internal.Linear.{varied_in}
use Rattle.counting.specs.Internal.Preparing.{prepared_shares, prepared_tape}

-- an accepted table of few free bits, and its numbers
pub record Numbered (table : List ℕ) (inputs randoms : ℕ) : Type 0 where
  pub accepted : AcceptedTable table
  pub few : free_bits (circuit_in table) ≤ 16
  pub inputs_are : inputs ≡ (circuit_in table).inputs
  pub randoms_are : randoms ≡ (circuit_in table).randoms

-- such a table, with a set of secret bits
pub record Countable (table secrets : List ℕ) : Type 0 where
  pub accepted : AcceptedTable table
  pub few : free_bits (circuit_in table) ≤ 16
  pub sized : length secrets ≡ (circuit_in table).inputs
  pub bit : (x : ℕ) → nth secrets x ≤ 1

-- the plan of a table
pub record Planned (table : List ℕ) (plan : Plan) : Type 0 where
  pub others_are : plan.others ≡ (circuit_in table).d - 1
  pub start_is : plan.start ≡ plan.others * (circuit_in table).inputs
  pub free_is : plan.free ≡ free_bits (circuit_in table)

-- a list of wires that are read
pub record ReadIn (table read : List ℕ) : Type 0 where
  pub few : length read ≤ 8
  pub made : (i : ℕ) → i < length read → nth read i < size (circuit_in table)

-- the first set of secret bits, or the second
abbrev pub set_of : (table : List ℕ) (second : Bool) (secrets : List ℕ) → List ℕ
set_of table second secrets = cond second (drop (circuit_in table).inputs secrets) (take (circuit_in table).inputs secrets)

-- a table with its plan, both sets of secret bits and the wires that are read, expanded with these
pub record Prepared (table secrets read sums terms : List ℕ) (outputs : ℕ) (plan : Plan) : Type 0 where
  pub countable : (second : Bool) → Countable table (set_of table second secrets)
  pub planned : Planned table plan
  pub read_in : ReadIn table read
  pub room : size (circuit_in table) ≤ length sums
  pub sized : length secrets ≡ (circuit_in table).inputs + (circuit_in table).inputs
  pub bit : (x : ℕ) → nth secrets x ≤ 1
  pub terms_sized : length terms ≡ 80
  pub expanded : Expanded table (prepared_shares plan (circuit_in table).inputs secrets) (prepared_tape plan) read (length read) sums terms outputs

-- sums and terms of some table
pub record Ready (read sums terms : List ℕ) (outputs : ℕ) (plan : Plan) : Type 0 where
  pub table : List ℕ
  pub secrets : List ℕ
  pub prepared : Prepared table secrets read sums terms outputs plan

-- words of the values of 128 pairs under each set, the first of which has the number 128 · batch: two for each wire that is read
pub record HoldsShown (table secrets : List ℕ) (factors free batch : ℕ) (read shown : List ℕ) : Type 0 where
  pub are : (second : Bool) (i w : ℕ) → i < length read → w < 2
      → nth shown (4 * i + place_of second w) ≡ packed 64 (λ l. at (values_with (circuit_in table) (bits (set_of table second secrets)) (placed (varied_in factors free) (64 * (2 * batch + w) + l))) (nth read i))
  pub sized : length shown ≡ 32

-- what the list of counts rests on: such a table, two sets of secret bits, wires that are read, and room for the counts
pub record Listable (table secrets : List ℕ) (inputs randoms wires : ℕ) (read counts : List ℕ) : Type 0 where
  pub numbered : Numbered table inputs randoms
  pub wires_are : wires ≡ size (circuit_in table)
  pub sized : length secrets ≡ inputs + inputs
  pub bit : (x : ℕ) → nth secrets x ≤ 1
  pub read_in : ReadIn table read
  pub room : 1024 ≤ length counts

-- the number of pairs that are gone through for each combination on wires
pub record TalliedSome (table secrets wires : List ℕ) (factors free : ℕ) (tally : List ℕ) : Type 0 where
  pub counts : (n : ℕ) → n < 256 → nth tally n ≡ shown_among (circuit_in table) (bits secrets) wires (placed (varied_in factors free)) (2 ^ count_varied (varied_in factors free)) n
  pub few : (n : ℕ) → nth tally n ≤ 65536
  pub sized : length tally ≡ 256

-- and of all pairs
pub record Tallied (table secrets wires tally : List ℕ) : Type 0 where
  pub counts : (n : ℕ) → n < 2 ^ length wires → nth tally n ≡ shown_of (circuit_in table) (bits secrets) wires n
  pub few : (n : ℕ) → nth tally n ≤ 65536

-- the list of counts for probes that read these wires
pub record ListsCounts (table secrets : List ℕ) (inputs : ℕ) (wires old new : List ℕ) : Type 0 where
  pub is : (probes : List ℕ) → read_wires (circuit_in table) probes ≡ wires
      → new ≡ overwrite (count_list (circuit_in table) probes (bits (take inputs secrets)) (bits (drop inputs secrets))) old
