-- The code's tests of words are the definition's tests of frames, where all frames before are in sharings.
use mathlib.Core.Path.{◌≡◌, sym, ap, ◌∙◌}
use mathlib.Core.Bool.{Bool, true}
use mathlib.Core.List.{List, [], map}
use Prim.Native.Nat.{ℕ, ◌+◌, ◌*◌, ◌≤◌, ◌<◌}
use native.Mathlib.Omega.{arith}
use lib.Dec.{leb, eqb}
use lib.ListN.{length, get_or, take, drop, length-drop, length-map}
use lib.Seq.{get_or-drop, ext_get_or}
use borrow.Author.Tests.{le-leb}
use Rattle.circuit.specs.Lists.{nth, range}
use Rattle.circuit.specs.Wires.{named}
use Rattle.circuit.specs.Gadgets.{labels}
use Rattle.circuit.specs.Kinds.{Kind, words}
use Rattle.circuit.specs.Circuit.{Circuit, size, place}
use Rattle.circuit.specs.Composition.{Frame, frame, kind_word, words_of}
use Rattle.circuit.proofs.Base.{and_right, and_both, Every}
use Rattle.circuit.proofs.Numbered.{range_at, map_at}
use Rattle.circuit.proofs.Sizes.{range_length}
use Rattle.semantics.specs.Counts.{alike}
use Rattle.plain.specs.Sharings.{Plain, is_sharing}
use Rattle.plain.specs.Internal.Tests.{rising, alike_from}
use Rattle.plain.proofs.Kept.{InRow, Kept}
use Rattle.plain.proofs.Found.{in_a_row, range-map-at, every_found}
use Rattle.plain.proofs.Rising.{rises_each, each_rises, run_room}
use Rattle.plain.proofs.Words.{Sized, words-run, run-words, word_at}

-- a list by the numbers of its elements
by_number : {A : Type 0} (g : A → ℕ) (xs : List A) (z : A) (w : ℕ → ℕ) (n : ℕ) → length xs ≡ n → ((i : ℕ) → i < n → g (get_or xs i z) ≡ w i) → map g xs ≡ map w (labels n)
by_number g xs z w n e h = ext_get_or 0 (map g xs) (map w (labels n)) (length-map xs g ∙ e ∙ sym (length-map (labels n) w ∙ range_length 0 n))
    (λ i l. let m : i < n = omega (arith, length-map xs g) in
    map_at g xs i 0 z (omega (arith, length-map xs g)) ∙ h i m ∙ sym (range-map-at w 0 n i 0 m ∙ (let z : 0 + i ≡ i = omega arith in ap w z)))

-- wires in a row that are a sharing, and those that a sharing has
module _ (k : Circuit) (p : Plain) (kept : Kept k p) (w : ℕ → ℕ) where
  abbrev wires : List ℕ
  wires = map w (labels k.d)

  pub to_sharing : {t : ℕ} → place k (w 0) ≡ named 0 t → ((i : ℕ) → i < k.d → w i ≡ w 0 + i) → is_sharing wires p.sharings ≡ true
  to_sharing {t} here steps =
      let row : wires ≡ range (w 0) k.d = in_a_row w 0 (w 0) k.d (λ i l. (let z : 0 + i ≡ i = omega arith in ap w z) ∙ steps i l) in
      rw row (kept.firsts (w 0) t here)

  -- what a sharing's wires are
  pub record SharingOf : Type 0 where
    pub stage : ℕ
    pub steps : (i : ℕ) → i < k.d → w i ≡ w 0 + i
    pub placed : (i : ℕ) → i < k.d → place k (w i) ≡ named i stage

  pub from_sharing : 0 < k.d → is_sharing wires p.sharings ≡ true → SharingOf
  from_sharing some h =
      let o : InRow k wires = every_found (InRow k) wires p.sharings h kept.rows in
      let at : (i : ℕ) → i < k.d → w i ≡ o.first + i = λ i l. (let z : i ≡ 0 + i = omega arith in ap w z)
      ∙ sym (range-map-at w 0 k.d i 0 l) ∙ ap (λ l. nth l i) o.are ∙ range_at o.first k.d i l in
      record {
        stage = o.stage;
        steps = λ i l. at i l ∙ omega (arith, at 0 some);
        placed = λ i l. ap (place k) (at i l) ∙ o.placed i l;
      }

-- the words of a frame and of those behind it, at a place of the table
module _ (table : List ℕ) (at : ℕ) (fs : List Frame) (here : drop at table ≡ words_of fs) where
  pub word-is : (j : ℕ) → nth table (at + j) ≡ nth (words_of fs) j
  word-is j = sym (get_or-drop at table j 0) ∙ ap (λ l. nth l j) here

  -- frames of one kind stand there exactly where their kind words do
  module _ (d : ℕ) (kind : Kind) (sized : Sized d fs) where
    abbrev step : ℕ
    step = 1 + words d kind

    abbrev kinds_alike : List Frame → Bool
    kinds_alike run = alike eqb (map (λ f. kind_word f.kind) run) (map (λ i. kind_word kind) (labels d))

    pub record Standing : Type 0 where
      pub kinds : Every (λ g. g.kind ≡ kind) (take d fs)
      pub count : length (take d fs) ≡ d

    pub to_standing : at < length table → nth table at ≡ kind_word kind → alike_from table at step d ≡ true → Standing
    unfolding alike_from
    to_standing inside first h =
        let room : at + d * step ≤ length table = run_room table at step d h in
        let rises = rises_each table at step d 0 (and_right (leb (at + d * step) (length table)) (rising table at step d 0) h) in
        let (each, size) = words-run d kind d fs sized (omega (arith, length-drop at table, ap length here))
        (λ i l. sym (word-is (i * step)) ∙ rises i l ∙ omega (arith, first)) in
        record { kinds = each; count = size }

    pub from_standing : at < length table → nth table at ≡ kind_word kind → Standing → alike_from table at step d ≡ true
    unfolding alike_from
    from_standing inside first s = and_both (leb (at + d * step) (length table)) (rising table at step d 0)
        (le-leb (at + d * step) (length table) (omega (arith, length-drop at table, ap length here, run-words d kind d fs sized s.kinds s.count)))
        (each_rises table at step d 0 (λ i l. word-is (i * step) ∙ (word_at d kind d fs (frame kind []) sized s.kinds s.count i l).0 ∙ omega (arith, first)))

    -- and a word of each stands in its column
    pub column-is : Standing → (z : Frame) (c : ℕ) → c < words d kind → map (λ g. nth g.ops c) (take d fs) ≡ map (λ i. nth table (at + (1 + c) + i * step)) (labels d)
    column-is s z c l = by_number (λ g. nth g.ops c) (take d fs) z _ d s.count
        (λ i m. sym ((word_at d kind d fs z sized s.kinds s.count i m).1 c l)
        ∙ sym (word-is (1 + c + i * step)) ∙ (let e : at + (1 + c + i * step) ≡ at + (1 + c) + i * step = omega arith in ap (nth table) e))
