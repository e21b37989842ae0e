-- What the functions that read probes leave: marks on stops, a reading.
use Rattle.std.specs.Prelude.{◌≡◌, Bool, List, ℕ, ◌≤◌, ◌<◌, length, replicate}
use Rattle.circuit.specs.Lists.{nth, mem, overwrite}
use Rattle.circuit.specs.Wires.{Wire}
use Rattle.circuit.specs.Circuit.{size, is_set}
use Rattle.circuit.proofs.Base.{In}
use Rattle.semantics.specs.Values.{bytes, values_of}
use Rattle.semantics.specs.Probes.{stops, reading_of}
use Rattle.gadgets.specs.Internal.Accepting.{AcceptedTable, circuit_in}
use Rattle.reach.specs.Internal.Marks.{Marked}

-- what stops are reached from: an accepted table, probes on its wires, and clear marks for all of these
pub record Reachable (table probes marks : List ℕ) : Type 0 where
  pub accepted : AcceptedTable table
  pub made : (x : ℕ) → In x probes → x < size (circuit_in table)
  pub clear : marks ≡ replicate (length marks) 0
  pub room : size (circuit_in table) ≤ length marks

-- marks on exactly the stops that probes on these wires read
pub record OnStops (ws : List Wire) (probes marks : List ℕ) : Type 0 where
  pub is : (x : ℕ) → is_set (nth marks x) ≡ mem x (stops ws probes)
  pub made : (x : ℕ) → Marked marks x → x < length ws

-- the reading that is written from such marks and the wires' values
pub record Shows (marks values old new : List ℕ) : Type 0 where
  pub is : (ws : List Wire) (probes : List ℕ) (shares tape : List Bool) (rest : List ℕ) → OnStops ws probes marks
      → values ≡ overwrite (bytes (values_of ws shares tape)) rest → new ≡ overwrite (reading_of ws probes shares tape) old
