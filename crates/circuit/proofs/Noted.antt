-- The notes of a circuit, word by word: what they hold of each wire, and that they give every named wire its label.
use mathlib.Core.Path.{◌≡◌, refl, ap, ◌∙◌}
use mathlib.Core.Bool.{Bool, true, false, cond}
use mathlib.Core.List.{List, [], ◌∷◌, ◌++◌}
use Prim.Native.Nat.{ℕ, zero, suc, ◌+◌, ◌*◌, ◌%◌, ◌≤◌, ◌<◌}
use native.Mathlib.Omega.{arith}
use lib.ListN.{length, get_or, drop}
use Rattle.circuit.specs.Limits.{registered_note, inner_note, fewest_shares, most_shares}
use Rattle.circuit.specs.Lists.{nth}
use Rattle.circuit.specs.Wires.{Wire, named, inner, constant, is_stop, ◌placed◌}
use Rattle.circuit.specs.Gadgets.{c, S, in_and, in_ref}
use Rattle.circuit.specs.Kinds.{Kind}
use Rattle.circuit.specs.Circuit.{Circuit, size, wire_at, place, Lookup, found, hidden, showing, shown_by, look_up, label_shown, new_stage, made, extend}
use Rattle.circuit.specs.Answer.{note, notes_of, notes_after, label_noted}
use Rattle.circuit.specs.Composition.{Frame, Fits, fit-IN, fit-CON, fit-XOR, fit-NOT, fit-REG, fit-AND, fit-REF, fit-OUT, AllFit, build}
use Rattle.circuit.proofs.Base.{AllFrom, all_any}
use Rattle.circuit.proofs.Numbered.{all_get, at_all, all_default}
use Rattle.circuit.proofs.Building.{Lawful, step_all, build-all, gadget-all, named-made, label-told}

-- the words of what looking a wire up tells
abbrev pub first_note : Lookup → ℕ
first_note (found l t registered) = l + cond registered registered_note 0
first_note hidden = inner_note

abbrev pub second_note : Lookup → ℕ
second_note (found l t registered) = t
second_note hidden = inner_note

note-is : (p : Lookup) → note p ≡ first_note p ∷ second_note p ∷ []
note-is (found l t registered) = refl
note-is hidden = refl

pub notes-length : (ws : List Wire) → length (notes_of ws) ≡ 2 * length ws
notes-length [] = refl
notes-length (w ∷ ws) = rw (note-is (shown_by w)) (omega (arith, notes-length ws))

-- the words of wire x
abbrev shown_at : List Wire → ℕ → Lookup
shown_at ws x = shown_by (get_or ws x (constant false placed inner 0))

pub words-at : (ws : List Wire) (rest : List ℕ) (x : ℕ) → x < length ws
    → (nth (notes_of ws ++ rest) (2 * x) ≡ first_note (shown_at ws x)) × (nth (notes_of ws ++ rest) (2 * x + 1) ≡ second_note (shown_at ws x))
words-at [] rest x h = absurd (omega arith)
words-at (w ∷ ws) rest zero h = rw (note-is (shown_by w)) (refl, refl)
words-at (w ∷ ws) rest (suc x) h =
    let e : 2 * suc x ≡ suc (suc (2 * x)) = omega arith in
    let g : suc (suc (2 * x)) + 1 ≡ suc (suc (2 * x + 1)) = omega arith in
    rw (note-is (shown_by w), e, g) (words-at ws rest x (omega arith))

-- every label is a share
abbrev pub Labelled : Circuit → ℕ → Wire → Type 0
Labelled k x wire = label_shown (shown_by wire) < k.d

pub label_old : (k : Circuit) → 0 < k.d → Lawful Labelled k → (x : ℕ) → label_shown (look_up k x) < k.d
label_old k least law x = all_default (λ wire. label_shown (shown_by wire) < k.d) (constant false placed inner 0) least 0 k.wires x law

-- every frame keeps the law of labels
label_new : (k : Circuit) (ops : List ℕ) (kind : Kind) → fewest_shares ≤ k.d → Lawful Labelled k → Fits k kind ops → AllFrom (Labelled (extend k ops kind)) (size k) (made k ops kind)
unfolding made new_stage
label_new k _ _ ge h (fit-IN t o) = at_all (Labelled k) _ (size k) 0 k.d (λ i l. omega arith)
label_new k _ _ ge h (fit-CON l b t o p q) = (o, tt)
label_new k _ _ ge h (fit-XOR x y l t p q) = (label_old k (omega arith) h x, tt)
label_new k _ _ ge h (fit-NOT x l t p) = (label_old k (omega arith) h x, tt)
label_new k _ _ ge h (fit-REG x l t p o) = (label_old k (omega arith) h x, tt)
label_new k _ _ ge h (fit-AND ops t len first p q o) =
    gadget-all k.d (size k) _ _ (in_and k.d) c _ _ (Labelled k) (all_any _ (λ x z. omega arith) (size k) (in_and k.d)) (λ x i l g. g)
label_new k _ _ ge h (fit-REF ops t len first p o) =
    gadget-all k.d (size k) _ _ (in_ref k.d) S _ _ (Labelled k) (all_any _ (λ x z. omega arith) (size k) (in_ref k.d)) (λ x i l g. g)
label_new k _ _ ge h (fit-OUT ops t len p q) = tt

pub label_step : (k : Circuit) (ops : List ℕ) (kind : Kind) → fewest_shares ≤ k.d → Fits k kind ops → Lawful Labelled k → Lawful Labelled (extend k ops kind)
label_step = step_all Labelled (λ k ops kind x wire l h. h) label_new

pub build_labelled : {k : Circuit} (fs : List Frame) → fewest_shares ≤ k.d → AllFit k fs → Lawful Labelled k → Lawful Labelled (build k fs)
build_labelled fs ge fit h = build-all Labelled (λ k ops kind x wire l h. h) label_new fs ge fit h

-- and the notes give every named wire its label
pub label-noted : (k : Circuit) (notes : List ℕ) → k.d ≤ most_shares → Lawful Labelled k → (x l t : ℕ) → place k x ≡ named l t → label_noted (notes_after k notes) x ≡ l
unfolding notes_after
label-noted k notes most law x l t e =
    let least : 0 < k.d = omega (arith, all_get (Labelled k) 0 k.wires (constant false placed inner 0) law x (named-made k x l t e)) in
    let few : l < most_shares = omega (arith, label-told k x e, label_old k least law x) in
    ap (λ w. w % registered_note) ((words-at k.wires (drop (length (notes_of k.wires)) notes) x (named-made k x l t e)).0
    ∙ ap (λ p. first_note (showing p (is_stop (wire_at k x).gate))) e) ∙ word (is_stop (wire_at k x).gate) few
  where
    word : (registered : Bool) → l < most_shares → (l + cond registered registered_note 0) % registered_note ≡ l
    word true h = omega arith
    word false h = omega arith
