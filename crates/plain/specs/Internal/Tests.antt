-- What the code asks of the words of an accepted table, frame by frame, so that its frames make whole sharings.
use Rattle.std.specs.Prelude.{◌≡◌, Bool, true, ◌&&◌, List, map, ℕ, Result, Ok, Err, ◌+◌, ◌*◌, ◌≤◌, ◌<◌, leb, eqb, length}
use Rattle.circuit.specs.Lists.{nth}
use Rattle.circuit.specs.Wires.{named}
use Rattle.circuit.specs.Gadgets.{labels}
use Rattle.circuit.specs.Circuit.{Circuit, place}
use Rattle.circuit.specs.Rules.{Judgement, pass, refuse}
use Rattle.semantics.specs.Counts.{alike}
use Rattle.frames.specs.declared.walk.Gate.{Gate as GateCode}
use Rattle.frames.specs.declared.walk.Gate.TheVariants as gate
use Rattle.frames.specs.declared.walk.Frame.{Frame as FrameCode}
use Rattle.frames.specs.declared.walk.Frame.TheVariants as frame
use Rattle.circuit.specs.Answer.{label_noted}
use Rattle.circuit.specs.Refusals.{number_of}
use Rattle.circuit.specs.declared.rules.Refusal.{Refusal}

-- whether n words, from a place on and then every `by` places, are the first of them plus so many times `step`
unfoldable pub rising : List ℕ → (at by n step : ℕ) → Bool
rising table at by n step = alike eqb (map (λ i. nth table (at + i * by)) (labels n)) (map (λ i. nth table at + i * step) (labels n))

-- places that a table has, from one on and then every `by` places
pub record Has (table : List ℕ) (at by n : ℕ) : Type 0 where
  pub each : (i : ℕ) → i < n → at + i * by < length table

-- whether n frames of one kind, each of so many words, stand from a place on
unfoldable pub alike_from : List ℕ → (at size n : ℕ) → Bool
alike_from table at size n = leb (at + n * size) (length table) && rising table at size n 0

-- n frames of one kind over wires in a row, the first of which has label 0
unfoldable pub over_row : (table notes : List ℕ) → (at size n wire : ℕ) → Bool
over_row table notes at size n wire = alike_from table at size n && eqb (label_noted notes wire) 0 && rising table (at + 1) size n 1

module _ (table notes : List ℕ) (at n : ℕ) where
  -- of a gate
  unfoldable pub gate_fits : GateCode → Bool
  gate_fits (gate.In t) = true
  gate_fits (gate.Con l b t) = eqb l 0 && alike_from table at 4 n && rising table (at + 1) 4 n 1 && rising table (at + 3) 4 n 0
  gate_fits (gate.Xor x y) = over_row table notes at 3 n x && rising table (at + 2) 3 n 1
  gate_fits (gate.Not x) = over_row table notes at 2 n x
  gate_fits (gate.Reg x) = over_row table notes at 2 n x
  gate_fits gate.Out = rising table (at + 1) 1 n 1

  -- of a frame
  unfoldable pub frame_fits : FrameCode → Bool
  frame_fits (frame.Gate g) = gate_fits g
  frame_fits frame.And = rising table (at + 2) 1 n 1 && rising table (at + 2 + n) 1 n 1
  frame_fits frame.Ref = rising table (at + 2) 1 n 1

-- the words that a frame's tests read are there: those of a gadget or an OUT
abbrev pub RowsIn : List ℕ → (at n : ℕ) → FrameCode → Type 0
RowsIn table at n (frame.Gate (gate.In t)) = Unit {0}
RowsIn table at n (frame.Gate (gate.Con l b t)) = Unit {0}
RowsIn table at n (frame.Gate (gate.Xor x y)) = Unit {0}
RowsIn table at n (frame.Gate (gate.Not x)) = Unit {0}
RowsIn table at n (frame.Gate (gate.Reg x)) = Unit {0}
RowsIn table at n (frame.Gate gate.Out) = at + 1 + n ≤ length table
RowsIn table at n frame.And = at + 2 + n + n ≤ length table
RowsIn table at n frame.Ref = at + 2 + n ≤ length table

-- notes that give each named wire of a circuit its label
pub record Labels (notes : List ℕ) (k : Circuit) : Type 0 where
  pub told : (x l t : ℕ) → place k x ≡ named l t → label_noted notes x ≡ l

-- the judgement that an answer stands for
abbrev pub judgement_of : Result (Unit {0}) Refusal → Judgement
judgement_of (Ok u) = pass
judgement_of (Err r) = refuse (number_of r.rule) r.frame r.word
