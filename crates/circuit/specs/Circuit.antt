-- Document 01, "Frames": the circuit that frames make, frame by frame.
use Rattle.std.specs.Prelude.{Bool, true, false, ℕ, zero, suc, ◌+◌, ◌*◌, length, get_or}
use mathlib.Core.List.{List, [], ◌∷◌, ◌++◌, map}
use Rattle.circuit.specs.Lists.{nth}
use Rattle.circuit.specs.Wires.{input, constant, reg, inverse, sum, is_stop, Place, named, inner, Wire, ◌placed◌}
use Rattle.circuit.specs.Gadgets.{labels, Part, in_and, in_ref, gadget}
use Rattle.circuit.specs.Kinds.{Kind, HEAD, IN, CON, XOR, NOT, REG, AND, REF, OUT, shape}

-- a frame's kind and its stage: that of the wires it makes for others to name; of OUT, that of its wires
pub record Staged : Type 0 where
  pub kind : Kind
  pub stage : ℕ

abbrev pub staged : Kind → ℕ → Staged
staged kind t = record { kind = kind; stage = t }

-- the number of shares; the wires in the order made; how many INs and random bits there are; the frames after HEAD, each with its stage
pub record Circuit : Type 0 where
  pub d : ℕ
  pub wires : List Wire
  pub inputs : ℕ
  pub randoms : ℕ
  pub frames : List Staged

abbrev pub size : Circuit → ℕ
size k = length k.wires

-- a HEAD alone
abbrev pub empty : ℕ → Circuit
empty d = record { d = d; wires = []; inputs = 0; randoms = 0; frames = [] }

-- the wire of a number, an inner one where there is none; and its place
abbrev pub wire_at : Circuit → ℕ → Wire
wire_at k x = get_or k.wires x (constant false placed inner 0)

abbrev pub place : Circuit → ℕ → Place
place k x = (wire_at k x).place

-- what looking a wire up tells other frames: its label, its stage and whether it is registered; or that it is hidden, being inner
pub data Lookup : Type 0 where
  found : (label stage : ℕ) (registered : Bool) → Lookup
  hidden : Lookup

abbrev pub showing : Place → (registered : Bool) → Lookup
showing (named l t) registered = found l t registered
showing (inner t) registered = hidden

abbrev pub shown_by : Wire → Lookup
shown_by wire = showing wire.place (is_stop wire.gate)

abbrev pub look_up : Circuit → ℕ → Lookup
look_up k x = shown_by (wire_at k x)

-- the parts of the answer; a hidden wire tells nothing else, and rule 9 is tested before this counts
abbrev pub is_named : Lookup → Bool
is_named (found l t registered) = true
is_named hidden = false

abbrev pub label_shown : Lookup → ℕ
label_shown (found l t registered) = l
label_shown hidden = 0

abbrev pub stage_shown : Lookup → ℕ
stage_shown (found l t registered) = t
stage_shown hidden = 0

abbrev pub is_registered : Lookup → Bool
is_registered (found l t registered) = registered
is_registered hidden = false

-- the stage at which a wire stands, shown or not
abbrev pub stage_of : Place → ℕ
stage_of (named l t) = t
stage_of (inner t) = t

-- a byte or word as a bit
abbrev pub is_set : ℕ → Bool
is_set zero = false
is_set (suc n) = true

-- what a frame with these words after its kind adds to a circuit
module _ (k : Circuit) (ops : List ℕ) where
  abbrev label : ℕ → ℕ
  label i = label_shown (look_up k (nth ops i))

  abbrev stage : ℕ → ℕ
  stage i = stage_shown (look_up k (nth ops i))

  -- the stage of a frame
  unfoldable pub new_stage : Kind → ℕ
  new_stage HEAD = 0
  new_stage IN = nth ops 0
  new_stage CON = nth ops 2
  new_stage XOR = stage 0
  new_stage NOT = stage 0
  new_stage REG = suc (stage 0)
  new_stage AND = suc (stage 1)
  new_stage REF = suc (stage 1)
  new_stage OUT = stage 0

  -- the wires that a frame makes. AND's words: the first random, d wires a, d wires b; REF's: the first random, d wires
  unfoldable pub made : Kind → List Wire
  unfolding new_stage
  made HEAD = []
  made IN = map (λ i. input (k.inputs * k.d + i) placed named i (new_stage IN)) (labels k.d)
  made CON = (constant (is_set (nth ops 1)) placed named (nth ops 0) (new_stage CON)) ∷ []
  made XOR = (sum (nth ops 0 ∷ nth ops 1 ∷ []) placed named (label 0) (new_stage XOR)) ∷ []
  made NOT = (inverse (nth ops 0) placed named (label 0) (new_stage NOT)) ∷ []
  made REG = (reg (nth ops 0) placed named (label 0) (new_stage REG)) ∷ []
  made AND = gadget k.d (size k) (λ i. nth ops (1 + i)) (λ i. nth ops (1 + k.d + i)) (in_and k.d) Part.c (stage (1 + k.d)) (new_stage AND)
  made REF = gadget k.d (size k) (λ i. nth ops (1 + i)) (λ i. nth ops (1 + i)) (in_ref k.d) Part.S (stage 1) (new_stage REF)
  made OUT = []

  -- the circuit with the frame
  abbrev pub extend : Kind → Circuit
  extend kind = record {
    d = k.d;
    wires = k.wires ++ made kind;
    inputs = k.inputs + (shape k.d kind).inputs;
    randoms = k.randoms + (shape k.d kind).randoms;
    frames = k.frames ++ (staged kind (new_stage kind) ∷ []);
  }
