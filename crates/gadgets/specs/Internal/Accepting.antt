-- A table that the checker has accepted, its circuit, and the places between its frames.
use Rattle.std.specs.Prelude.{◌≡◌, List, ◌++◌, ℕ, ◌≤◌, length, drop}
use Rattle.circuit.specs.Limits.{notes_room}
use Rattle.circuit.specs.Circuit.{Circuit}
use Rattle.circuit.specs.Rules.{checked}
use Rattle.circuit.specs.Composition.{Frame, words_of}
use Rattle.circuit.proofs.Exact.{Accepted}

-- a table that is accepted with notes of any length, and its circuit: both are told by the shortest notes
abbrev pub AcceptedTable : List ℕ → Type 0
AcceptedTable table = Accepted table notes_room

abbrev pub circuit_in : List ℕ → Circuit
circuit_in table = (checked table notes_room).circuit

-- a place of the table between the frames before it and those after
pub record Between (table : List ℕ) (fs : List Frame) (at : ℕ) : Type 0 where
  pub before : List Frame
  pub after : List Frame
  pub split : fs ≡ before ++ after
  pub rest : drop at table ≡ words_of after
  pub most : at ≤ length table
