-- What a frame adds, as the code counts and writes it: the stage, the number of wires, and their words in the notes.
use mathlib.Core.Path.{◌≡◌, refl, sym, ap, ap₂, ◌∙◌}
use mathlib.Core.Bool.{Bool, true, false, cond}
use mathlib.Core.List.{List, [], ◌∷◌, ◌++◌, map}
use Prim.Native.Nat.{ℕ, zero, suc, ◌+◌, ◌*◌, ◌-◌, ◌≤◌}
use native.Mathlib.Omega.{arith}
use lib.ListN.{length}
use Rattle.circuit.specs.Limits.{registered_note}
use Rattle.circuit.specs.Lists.{range, nth}
use Rattle.circuit.specs.Wires.{Gate, input, is_stop, Wire, named, inner, ◌placed◌}
use Rattle.circuit.specs.Gadgets.{labels, Part, c, S, gate, delay, in_and, in_ref, index, gadget}
use Rattle.circuit.specs.Kinds.{Kind, HEAD, IN, CON, XOR, NOT, REG, AND, REF, OUT, pairs, shape, words}
use Rattle.circuit.specs.Circuit.{Circuit, size, stage_shown, new_stage, made, shown_by, look_up}
use Rattle.circuit.specs.Answer.{note, notes_of}
use Rattle.circuit.proofs.Base.{concat_map-append}
use Rattle.circuit.proofs.Sizes.{and-size, ref_size, words-AND, words-REF, words-OUT}
use Rattle.checker.specs.declared.notes.Made.{Made}
use Rattle.frames.specs.declared.kinds.Form.{Form}
use Rattle.frames.specs.declared.kinds.Form.TheVariants.{ShareCount, Stage, Constant, Sum, Copy, Product, Refresh, Row}
use Rattle.frames.specs.declared.kinds.Shape.{Shape as ShapeCode}
use Rattle.frames.specs.Walk.{form_of, shape_code}
use Rattle.std.specs.Prelude.{Result}
use Rattle.circuit.specs.declared.rules.Rule.{Rule}
use Rattle.checker.specs.declared.notes.Named.{Named}
use Rattle.checker.specs.Internal.Notes.{found_of, first_word, inner_words, named_words, made_words}
use Rattle.checker.specs.Internal.Adding.{Numbers, numbers, numbers_of, made_in}
use Rattle.checker.proofs.Words.{label-found, stage-found}

-- the wires that a kind's form makes, by what a circuit says of those it names
abbrev pub made_by : Circuit → List ℕ → Kind → Made
made_by k ops kind = made_in (form_of kind) k.d ((shape k.d kind).wires - k.d) (found_of k) ops

-- how many words a form has
abbrev pub word_count : Form → ℕ → ℕ
word_count ShareCount d = 1
word_count Stage d = 1
word_count Constant d = 3
word_count Sum d = 2
word_count (Copy after) d = 1
word_count Product d = 1 + d + d
word_count Refresh d = 1 + d
word_count Row d = d

-- what a form adds to the counts, as the code writes it
abbrev pub numbers_in : Form → (d : ℕ) → ShapeCode → Numbers
numbers_in ShareCount d sh = numbers 0 0 0
numbers_in Stage d sh = numbers d 0 1
numbers_in Constant d sh = numbers 1 0 0
numbers_in Sum d sh = numbers 1 0 0
numbers_in (Copy after) d sh = numbers 1 0 0
numbers_in Product d sh = numbers sh.wires sh.randoms 0
numbers_in Refresh d sh = numbers sh.wires sh.randoms 0
numbers_in Row d sh = numbers 0 0 0

-- of a kind: only HEAD's form is the number of shares; its words by its form, all wires made, no more random bits than wires,
-- and one secret bit at most
pub record Counts (d : ℕ) (kind : Kind) (look : ℕ → Result Named Rule) (ops : List ℕ) : Type 0 where
  pub form_later : (kind ≡ HEAD → ⊥) → form_of kind ≡ ShareCount → ⊥
  pub words_are : words d kind ≡ word_count (form_of kind) d
  pub numbers_are : numbers_in (form_of kind) d (shape_code d kind) ≡ numbers_of (shape_code d kind)
  pub wires_are : (made_in (form_of kind) d ((shape d kind).wires - d) look ops).inner + (made_in (form_of kind) d ((shape d kind).wires - d) look ops).named ≡ (shape d kind).wires
  pub randoms_few : (shape d kind).randoms ≤ (shape d kind).wires
  pub inputs_few : (shape d kind).inputs ≤ 1

pub counts : (d : ℕ) (kind : Kind) (look : ℕ → Result Named Rule) (ops : List ℕ) → Counts d kind look ops
unfolding shape
counts d HEAD look ops = record { form_later = λ h e. h refl; words_are = refl; numbers_are = refl; wires_are = refl; randoms_few = omega arith; inputs_few = omega arith }
counts d IN look ops = record { form_later = λ h e. cc; words_are = refl; numbers_are = refl; wires_are = omega arith; randoms_few = omega arith; inputs_few = omega arith }
counts d CON look ops = record { form_later = λ h e. cc; words_are = refl; numbers_are = refl; wires_are = refl; randoms_few = omega arith; inputs_few = omega arith }
counts d XOR look ops = record { form_later = λ h e. cc; words_are = refl; numbers_are = refl; wires_are = refl; randoms_few = omega arith; inputs_few = omega arith }
counts d NOT look ops = record { form_later = λ h e. cc; words_are = refl; numbers_are = refl; wires_are = refl; randoms_few = omega arith; inputs_few = omega arith }
counts d REG look ops = record { form_later = λ h e. cc; words_are = refl; numbers_are = refl; wires_are = refl; randoms_few = omega arith; inputs_few = omega arith }
counts d AND look ops = record { form_later = λ h e. cc; words_are = words-AND d; numbers_are = refl; wires_are = omega arith; randoms_few = omega arith; inputs_few = omega arith }
counts d REF look ops = record { form_later = λ h e. cc; words_are = words-REF d; numbers_are = refl; wires_are = omega arith; randoms_few = omega arith; inputs_few = omega arith }
counts d OUT look ops = record { form_later = λ h e. cc; words_are = words-OUT d; numbers_are = refl; wires_are = refl; randoms_few = omega arith; inputs_few = omega arith }

-- the words of wires in the notes
pub notes-append : (xs ys : List Wire) → notes_of (xs ++ ys) ≡ notes_of xs ++ notes_of ys
notes-append xs ys = concat_map-append xs ys (λ wire. note (shown_by wire))

row-notes : (g : ℕ → Gate) (registered : Bool) (t n count : ℕ) → ((i : ℕ) → is_stop (g i) ≡ registered)
    → notes_of (map (λ i. g i placed named i t) (range n count)) ≡ named_words (first_word n registered) t count
unfolding named_words
row-notes g b t n zero h = refl
row-notes g b t n (suc count) h =
    let e : suc n + cond b registered_note 0 ≡ suc (first_word n b) = omega arith in
    ap₂ (λ w l. w ∷ t ∷ l) (ap (first_word n) (h n)) (row-notes g b t (suc n) count h ∙ ap (λ w. named_words w t count) e)

inner-notes : (g : Part → Gate) (stage : Part → ℕ) (ps : List Part) → notes_of (map (λ p. g p placed inner (stage p)) ps) ≡ inner_words (length ps)
unfolding inner_words
inner-notes g stage [] = refl
inner-notes g stage (p ∷ ps) = ap (λ l. 0xFFFF ∷ 0xFFFF ∷ l) (inner-notes g stage ps)

gadget-notes : (d first : ℕ) (a b : ℕ → ℕ) (inside : List Part) (out : ℕ → Part) (registered : Bool) (start end count : ℕ) → length inside ≡ count
    → ((wire : Part → ℕ) (i : ℕ) → is_stop (gate d a b wire (out i)) ≡ registered)
    → notes_of (gadget d first a b inside out start end) ≡ inner_words count ++ named_words (first_word 0 registered) end d
unfolding gadget
gadget-notes d first a b inside out registered start end count e h =
    let g : Part → Gate = gate d a b (λ p. first + index p inside) in
    notes-append (map (λ p. g p placed inner (start + delay p)) inside) (map (λ i. g (out i) placed named i end) (labels d))
    ∙ ap₂ ◌++◌ (inner-notes g (λ p. start + delay p) inside ∙ ap inner_words e) (row-notes (λ i. g (out i)) registered end 0 d (h (λ p. first + index p inside)))

-- what a frame adds, by what the circuit says of the wires it names
module _ (k : Circuit) (ops : List ℕ) where
  pub made-stage : (kind : Kind) → (kind ≡ HEAD → ⊥) → (made_by k ops kind).stage ≡ new_stage k ops kind
  unfolding new_stage
  made-stage HEAD h = absurd (h refl)
  made-stage IN h = refl
  made-stage CON h = refl
  made-stage XOR h = omega (arith, stage-found k (nth ops 0))
  made-stage NOT h = omega (arith, stage-found k (nth ops 0))
  made-stage REG h = omega (arith, stage-found k (nth ops 0))
  made-stage AND h = omega (arith, stage-found k (nth ops 1))
  made-stage REF h = omega (arith, stage-found k (nth ops 1))
  made-stage OUT h = stage-found k (nth ops 0)

  pub made-words : (kind : Kind) → (kind ≡ HEAD → ⊥) → made_words (made_by k ops kind) ≡ notes_of (made k ops kind)
  unfolding shape new_stage made inner_words named_words
  made-words HEAD h = absurd (h refl)
  made-words IN h = sym (row-notes (λ i. input (k.inputs * k.d + i)) true (nth ops 0) 0 k.d (λ i. refl))
  made-words CON h = refl
  made-words XOR h = ap₂ (λ l t. first_word l false ∷ t ∷ []) (label-found k (nth ops 0)) (made-stage XOR h)
  made-words NOT h = ap₂ (λ l t. first_word l false ∷ t ∷ []) (label-found k (nth ops 0)) (made-stage NOT h)
  made-words REG h = ap₂ (λ l t. first_word l true ∷ t ∷ []) (label-found k (nth ops 0)) (made-stage REG h)
  made-words AND h = ap (λ t. inner_words (7 * (k.d * (k.d - 1)) + 4 * k.d - k.d) ++ named_words (first_word 0 false) t k.d) (made-stage AND h)
      ∙ sym (gadget-notes k.d (size k) (λ i. nth ops (1 + i)) (λ i. nth ops (1 + k.d + i)) (in_and k.d) c false (stage_shown (look_up k (nth ops (1 + k.d)))) (new_stage k ops AND)
      (7 * (k.d * (k.d - 1)) + 4 * k.d - k.d) (omega (arith, and-size k.d)) (λ wire i. refl))
  made-words REF h = ap (λ t. inner_words (pairs k.d + 2 * k.d - k.d) ++ named_words (first_word 0 true) t k.d) (made-stage REF h)
      ∙ sym (gadget-notes k.d (size k) (λ i. nth ops (1 + i)) (λ i. nth ops (1 + i)) (in_ref k.d) S true (stage_shown (look_up k (nth ops 1))) (new_stage k ops REF)
      (pairs k.d + 2 * k.d - k.d) (omega (arith, ref_size k.d)) (λ wire i. refl))
  made-words OUT h = refl
