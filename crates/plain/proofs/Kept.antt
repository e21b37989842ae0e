-- What the sharings of the frames so far have to do with the circuit of those frames.
use mathlib.Core.Path.{◌≡◌}
use mathlib.Core.Bool.{true}
use mathlib.Core.List.{List}
use Prim.Native.Nat.{ℕ, ◌+◌, ◌<◌}
use Rattle.circuit.specs.Lists.{range, filter, concat_map}
use Rattle.circuit.specs.Wires.{named}
use Rattle.circuit.specs.Circuit.{Circuit, size, place, is_named, look_up}
use Rattle.circuit.proofs.Base.{Every}
use Rattle.plain.specs.Sharings.{Plain, is_sharing}
use Rattle.plain.specs.Plain.{rows_of}

-- d wires in a row by their numbers, with the labels 0 to d−1 and one stage
pub record InRow (k : Circuit) (ws : List ℕ) : Type 0 where
  pub first : ℕ
  pub stage : ℕ
  pub are : ws ≡ range first k.d
  pub placed : (i : ℕ) → i < k.d → place k (first + i) ≡ named i stage

-- every sharing is such a row, every wire of label 0 is the first of a sharing, and the sharings hold all named wires, each once
pub record Kept (k : Circuit) (p : Plain) : Type 0 where
  pub rows : Every (λ s. InRow k s.wires) p.sharings
  pub firsts : (x t : ℕ) → place k x ≡ named 0 t → is_sharing (range x k.d) p.sharings ≡ true
  pub each_once : concat_map (rows_of p) (λ ws. ws) ≡ filter (λ x. is_named (look_up k x)) (range 0 (size k))
