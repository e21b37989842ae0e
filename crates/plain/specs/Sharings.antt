-- Document 02, whole sharings: which wires are a sharing, rule 26, and the plain circuit that the sharings of a table make.
use Rattle.std.specs.Prelude.{Bool, true, false, cond, not, ◌&&◌, ◌||◌, List, [], ◌∷◌, ◌++◌, map, ℕ, zero, suc, ◌+◌, ◌-◌, eqb, length, take, drop}
use Rattle.circuit.specs.Lists.{nth, range}
use Rattle.circuit.specs.Gadgets.{labels}
use Rattle.circuit.specs.Kinds.{Kind, HEAD, IN, CON, XOR, NOT, REG, AND, REF, OUT, kind_of, words}
use Rattle.circuit.specs.Circuit.{Circuit, size, empty, label_shown, is_set, look_up}
use Rattle.circuit.specs.Rules.{Judgement, pass, refuse, need, ◌then◌, checked}
use Rattle.circuit.specs.Answer.{Answer, answer}
use Rattle.circuit.specs.Composition.{Frame, frame, build, kind_word}
use Rattle.semantics.specs.Counts.{alike, parity}
use Rattle.semantics.specs.Calls.{circuit_of}

-- what drives the plain bit of a sharing, from the plain bits of the sharings of the numbers given
pub data PlainGate : Type 0 where
  secret : ℕ → PlainGate  -- the secret bit of the IN of this number
  constant : Bool → PlainGate
  same : ℕ → PlainGate
  inverse : ℕ → PlainGate
  sum : ℕ → ℕ → PlainGate  -- modulo 2
  product : ℕ → ℕ → PlainGate

-- a sharing: its d wires, that of label 0 first, and its gate in the plain circuit
pub record Sharing : Type 0 where
  pub wires : List ℕ
  pub gate : PlainGate

-- the plain circuit: the sharings in the order made, and of each OUT the number of its sharing
pub record Plain : Type 0 where
  pub sharings : List Sharing
  pub outputs : List ℕ

abbrev pub none : Plain
none = record { sharings = []; outputs = [] }

-- whether wires are one of the sharings; its number, the first of them having 0 (where they are none, how many sharings there are)
abbrev pub is_sharing : List ℕ → List Sharing → Bool
is_sharing ws [] = false
is_sharing ws (s ∷ ss) = alike eqb ws s.wires || is_sharing ws ss

abbrev pub number_of : List ℕ → List Sharing → ℕ
number_of ws [] = 0
number_of ws (s ∷ ss) = cond (alike eqb ws s.wires) 0 (suc (number_of ws ss))

abbrev pub odd : ℕ → Bool
odd zero = false
odd (suc n) = not (odd n)

-- frames in a row behind the circuit k and its plain circuit p: `first`, and `rest`, the frames that go with it as far as there are any
module _ (k : Circuit) (p : Plain) (first : Frame) (rest : List Frame) where
  abbrev d : ℕ
  d = k.d

  abbrev run : List Frame
  run = first ∷ rest

  -- the words at a place of each frame; and d words of the first frame, from a place on
  abbrev column : ℕ → List ℕ
  column place = map (λ f. nth f.ops place) run

  abbrev row : ℕ → List ℕ
  row from = map (λ i. nth first.ops (from + i)) (labels d)

  -- d frames of one kind, whose wires have the labels 0 to d−1 in order
  abbrev pub is_run : Bool
  is_run = alike eqb (map (λ f. kind_word f.kind) run) (map (λ i. kind_word first.kind) (labels d))
      && alike eqb (map (λ x. label_shown (look_up (build k run) x)) (range (size k) d)) (labels d)

  abbrev IsOne : List ℕ → Bool
  IsOne ws = is_sharing ws p.sharings

  -- whether they are as document 02 asks of a kind: IN, AND and REF make a sharing by themselves, OUT names one
  unfoldable pub fits : Kind → Bool
  fits HEAD = false
  fits IN = true
  fits CON = is_run && alike eqb (column 2) (map (λ i. nth first.ops 2) (labels d))
  fits XOR = is_run && IsOne (column 0) && IsOne (column 1)
  fits NOT = is_run && IsOne (column 0)
  fits REG = is_run && IsOne (column 0)
  fits AND = IsOne (row 1) && IsOne (row (1 + d))
  fits REF = IsOne (row 1)
  fits OUT = IsOne (row 0)

  -- the plain circuit with them. A sharing's wires are the last d that they make
  abbrev with : PlainGate → Plain
  with g = record { sharings = p.sharings ++ (record { wires = range (size (build k run) - d) d; gate = g } ∷ []); outputs = p.outputs }

  abbrev number : List ℕ → ℕ
  number ws = number_of ws p.sharings

  unfoldable pub joined : Kind → Plain
  joined HEAD = p
  joined IN = with (secret k.inputs)
  joined CON = with (constant (parity (map is_set (column 1))))
  joined XOR = with (sum (number (column 0)) (number (column 1)))
  joined NOT = with (cond (odd d) (inverse (number (column 0))) (same (number (column 0))))
  joined REG = with (same (number (column 0)))
  joined AND = with (product (number (row 1)) (number (row (1 + d))))
  joined REF = with (same (number (row 1)))
  joined OUT = record { sharings = p.sharings; outputs = p.outputs ++ (number (row 0) ∷ []) }

-- how many frames go with the first one of a kind: of those that make one wire each, d make a sharing
abbrev pub further : ℕ → Kind → ℕ
further d HEAD = 0
further d IN = 0
further d CON = d - 1
further d XOR = d - 1
further d NOT = d - 1
further d REG = d - 1
further d AND = 0
further d REF = 0
further d OUT = 0

-- frames that go together, with the number of the first
pub record Group : Type 0 where
  pub number : ℕ
  pub first : Frame
  pub rest : List Frame

-- frames from the number f on, cut into such groups; `passed` of the frames go with one before them
unfoldable pub groups_from : (d f passed : ℕ) → List Frame → List Group
groups_from d f passed [] = []
groups_from d f (suc n) (x ∷ fs) = groups_from d (suc f) n fs
groups_from d f zero (x ∷ fs) =
    let n = further d x.kind in
    record { number = f; first = x; rest = take n fs } ∷ groups_from d (suc f) n fs

-- the plain circuit of the groups before the first that does not fit, or of all; and the judgement
pub record Whole : Type 0 where
  pub plain : Plain
  pub judgement : Judgement

abbrev pub going : Judgement → Plain → Whole → Whole
going pass p rest = rest
going (refuse rule frame word) p rest = record { plain = p; judgement = refuse rule frame word }

unfoldable pub whole_from : Circuit → Plain → List Group → Whole
whole_from k p [] = record { plain = p; judgement = pass }
whole_from k p (g ∷ gs) =
    let kind = g.first.kind in
    going (need (fits k p g.first g.rest kind) 26 g.number 0) p
    (whole_from (build k (g.first ∷ g.rest)) (joined k p g.first g.rest kind) gs)

-- the frames that words make. A frame's words are counted by its kind; `passed` words of a frame that has begun come first
unfoldable pub frames_from : (d passed : ℕ) → List ℕ → List Frame
frames_from d passed [] = []
frames_from d (suc n) (x ∷ rest) = frames_from d n rest
frames_from d zero (x ∷ rest) = let n = words d (kind_of x) in frame (kind_of x) (take n rest) ∷ frames_from d n rest

-- of a table: the frames behind HEAD, and what they make
abbrev pub frames_in : List ℕ → List Frame
frames_in table = frames_from (nth table 1) 0 (drop 2 table)

unfoldable pub whole_of : List ℕ → Whole
whole_of table = let d = nth table 1 in whole_from (empty d) none (groups_from d 1 0 (frames_in table))

-- a call with notes: the checker's judgement; then 26, where a frame, or the first frame of a run, fits none of these
unfoldable pub sharings_rule : (table notes : List ℕ) → Judgement
sharings_rule table notes = (checked table (length notes)).judgement then (whole_of table).judgement

abbrev pub sharings_answer : (table notes : List ℕ) → Answer
sharings_answer table notes = answer (circuit_of table notes) (sharings_rule table notes)
