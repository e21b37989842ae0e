-- The composition rules of documents 01 and 02 said a second way: a predicate on a list of frames, with no walk over words. `Exact` proves
-- that the checker accepts exactly these.
use Rattle.std.specs.Prelude.{◌≡◌, true, List, [], ◌∷◌, ◌++◌, ℕ, suc, ◌+◌, ◌≤◌, ◌<◌, length}
use Rattle.circuit.specs.Limits.{wire_limit, stage_limit}
use Rattle.circuit.specs.Lists.{nth}
use Rattle.circuit.specs.Wires.{is_stop, named}
use Rattle.circuit.specs.Kinds.{Kind, HEAD, IN, CON, XOR, NOT, REG, AND, REF, OUT, shape}
use Rattle.circuit.specs.Circuit.{Circuit, size, wire_at, place, extend}

-- a frame: its kind and the words after the kind
pub record Frame : Type 0 where
  pub kind : Kind
  pub ops : List ℕ

abbrev pub frame : Kind → List ℕ → Frame
frame kind ops = record { kind = kind; ops = ops }

-- d wires in a row, from a place of the frame on: the i-th has label i, and all have one stage
abbrev pub Row : Circuit → (ops : List ℕ) (from stage : ℕ) → Type 0
Row k ops from t = (i : ℕ) → i < k.d → place k (nth ops (from + i)) ≡ named i t

-- d wires, likewise from a place on, that are all registered: their gates are stops. (Said of the gates, apart from what looking
-- a wire up tells)
abbrev pub Registered : Circuit → (ops : List ℕ) (from : ℕ) → Type 0
Registered k ops from = (i : ℕ) → i < k.d → is_stop (wire_at k (nth ops (from + i))).gate ≡ true

-- a frame that names earlier wires, none of them inner, with the labels and stages that they must have, and for OUT registered;
-- it makes no stage over the limit
pub data Fits (k : Circuit) : Kind → List ℕ → Type 0 where
  fit-IN : (t : ℕ) → t ≤ stage_limit → Fits k IN (t ∷ [])
  fit-CON : (l b t : ℕ) → l < k.d → b ≤ 1 → t ≤ stage_limit → Fits k CON (l ∷ b ∷ t ∷ [])
  fit-XOR : (x y l t : ℕ) → place k x ≡ named l t → place k y ≡ named l t → Fits k XOR (x ∷ y ∷ [])
  fit-NOT : (x l t : ℕ) → place k x ≡ named l t → Fits k NOT (x ∷ [])
  fit-REG : (x l t : ℕ) → place k x ≡ named l t → suc t ≤ stage_limit → Fits k REG (x ∷ [])
  fit-AND : (ops : List ℕ) (t : ℕ) → length ops ≡ 1 + k.d + k.d → nth ops 0 ≡ k.randoms
      → Row k ops 1 (suc t) → Row k ops (1 + k.d) t → suc (suc t) ≤ stage_limit → Fits k AND ops
  fit-REF : (ops : List ℕ) (t : ℕ) → length ops ≡ 1 + k.d → nth ops 0 ≡ k.randoms
      → Row k ops 1 t → suc t ≤ stage_limit → Fits k REF ops
  fit-OUT : (ops : List ℕ) (t : ℕ) → length ops ≡ k.d → Row k ops 0 t → Registered k ops 0 → Fits k OUT ops

-- frames that fit one after the other and make no more wires than the limit
pub data AllFit : Circuit → List Frame → Type 0 where
  done : {k : Circuit} → AllFit k []
  next : {k : Circuit} {f : Frame} {fs : List Frame} → Fits k f.kind f.ops → size k + (shape k.d f.kind).wires ≤ wire_limit
      → AllFit (extend k f.ops f.kind) fs → AllFit k (f ∷ fs)

-- the circuit of frames
abbrev pub build : Circuit → List Frame → Circuit
build k [] = k
build k (f ∷ fs) = build (extend k f.ops f.kind) fs

-- the kind word of a kind, and the words of frames
abbrev pub kind_word : Kind → ℕ
kind_word HEAD = 0
kind_word IN = 1
kind_word CON = 2
kind_word XOR = 3
kind_word NOT = 4
kind_word REG = 5
kind_word AND = 6
kind_word REF = 7
kind_word OUT = 8

abbrev pub words_of : List Frame → List ℕ
words_of [] = []
words_of (f ∷ fs) = (kind_word f.kind ∷ f.ops) ++ words_of fs
