-- A run of frames that make one wire each: the wires, in order, with their gates and places; and what the test of a run shows.
use mathlib.Core.Path.{◌≡◌, refl, sym, ap, subst, ◌∙◌}
use mathlib.Core.Bool.{true}
use mathlib.Core.List.{List, [], ◌∷◌, ◌++◌, map}
use Prim.Native.Nat.{ℕ, suc, ◌+◌, ◌<◌}
use native.Mathlib.Nat.{zero-add}
use native.Mathlib.Omega.{arith}
use lib.Dec.{eqb}
use lib.ListN.{length, get_or}
use lib.Seq.{get_or-append_seam}
use Rattle.circuit.specs.Lists.{nth, range}
use Rattle.circuit.specs.Wires.{Gate, constant, reg, inverse, sum, named, ◌placed◌}
use Rattle.circuit.specs.Gadgets.{labels}
use Rattle.circuit.specs.Kinds.{Kind, CON, XOR, NOT, REG, kind_of, shape}
use Rattle.circuit.specs.Circuit.{Circuit, size, wire_at, place, is_set, shown_by, look_up, label_shown, stage_shown, new_stage, made, extend}
use Rattle.circuit.specs.Composition.{Frame, Fits, fit-CON, fit-XOR, fit-NOT, fit-REG, AllFit, done, next, build, kind_word}
use Rattle.circuit.proofs.Base.{and_left, and_right, and_both, Every, every_imp, AllFrom}
use Rattle.circuit.proofs.Numbered.{range_at, all_get, map_at}
use Rattle.circuit.proofs.Sizes.{range_length}
use Rattle.circuit.proofs.Building.{named-made, label-told, stage-told, size-extend, wire_kept}
use Rattle.circuit.proofs.Fitting.{kind-known}
use Rattle.semantics.specs.Counts.{alike}
use Rattle.semantics.proofs.Solving.{nothing}
use Rattle.plain.specs.Sharings.{Plain, is_run}
use Rattle.plain.proofs.Kept.{InRow}
use Rattle.semantics.proofs.Alike.{same_list, alike-itself}
use Rattle.plain.proofs.Found.{one_number, all-one-number, in_a_row, range-map-at}
use Rattle.plain.proofs.Growing.{Grown}

-- the kinds that make one wire, and its gate
pub data Single : Kind → Type 0 where
  one-CON : Single CON
  one-XOR : Single XOR
  one-NOT : Single NOT
  one-REG : Single REG

abbrev pub gate_by : {kind : Kind} → Single kind → List ℕ → Gate
gate_by one-CON ops = constant (is_set (nth ops 1))
gate_by one-XOR ops = sum (nth ops 0 ∷ nth ops 1 ∷ [])
gate_by one-NOT ops = inverse (nth ops 0)
gate_by one-REG ops = reg (nth ops 0)

-- and its label, in a circuit that has the wires it names
abbrev pub label_by : {kind : Kind} → Single kind → Circuit → List ℕ → ℕ
label_by one-CON k ops = nth ops 0
label_by one-XOR k ops = label_shown (look_up k (nth ops 0))
label_by one-NOT k ops = label_shown (look_up k (nth ops 0))
label_by one-REG k ops = label_shown (look_up k (nth ops 0))

-- the wire x is the one that a frame of the kind makes
pub record MadeBy (k : Circuit) {kind : Kind} (s : Single kind) (x : ℕ) (f : Frame) : Type 0 where
  pub is : wire_at k x ≡ (gate_by s f.ops placed named (label_by s k f.ops) (new_stage k f.ops kind))

single_size : (d : ℕ) {kind : Kind} → Single kind → (shape d kind).wires ≡ 1
unfolding shape
single_size d one-CON = refl
single_size d one-XOR = refl
single_size d one-NOT = refl
single_size d one-REG = refl

-- what a frame that fits makes, by its label and stage in a circuit that has the same wires and more
module _ (k after : Circuit) (old : (x : ℕ) → x < size k → wire_at after x ≡ wire_at k x) where
  shown-later : (x l t : ℕ) → place k x ≡ named l t → look_up k x ≡ look_up after x
  shown-later x l t h = ap shown_by (sym (old x (named-made k x l t h)))

  single_made : (ops : List ℕ) {kind : Kind} (s : Single kind) → Fits k kind ops → made k ops kind ≡ (gate_by s ops placed named (label_by s after ops) (new_stage after ops kind)) ∷ []
  unfolding made new_stage
  single_made _ one-CON (fit-CON l b t p q r) = refl
  single_made _ one-XOR (fit-XOR x y l t p q) = rw (shown-later x l t p)
  single_made _ one-NOT (fit-NOT x l t p) = rw (shown-later x l t p)
  single_made _ one-REG (fit-REG x l t p o) = rw (shown-later x l t p)

pub run-size : (k : Circuit) (fs : List Frame) {kind : Kind} → Single kind → Every (λ f. f.kind ≡ kind) fs → size (build k fs) ≡ size k + length fs
run-size k [] s h = omega arith
run-size k (f ∷ fs) s h = run-size (extend k f.ops f.kind) fs s h.1
    ∙ omega (arith, size-extend k f.ops f.kind, ap (λ kind. (shape k.d kind).wires) h.0, single_size k.d s)

pub run-wires : (k : Circuit) (fs : List Frame) {kind : Kind} (s : Single kind) → Every (λ f. f.kind ≡ kind) fs → AllFit k fs → AllFrom (MadeBy (build k fs) s) (size k) fs
run-wires k _ s h done = tt
run-wires k _ s h (next {f = f} {fs = fs} fits few more) =
    let one = extend k f.ops f.kind in
    let after = build one fs in
    let more_by_one : size one ≡ suc (size k) = size-extend k f.ops f.kind ∙ omega (arith, ap (λ kind. (shape k.d kind).wires) h.0, single_size k.d s) in
    let e = single_made k after (wire_kept k (f ∷ fs)) f.ops s (subst (λ kind. Fits k kind f.ops) h.0 fits) in (
      record {
        is = wire_kept one fs (size k) (omega arith) ∙ ap (λ ws. get_or (k.wires ++ ws) (size k) nothing) (ap (made k f.ops) h.0 ∙ e) ∙ get_or-append_seam k.wires _ [] nothing;
      },
      subst (λ (n : ℕ). AllFrom (MadeBy after s) n fs) more_by_one (run-wires one fs s h.1 more),
    )

-- what the test of a run shows
pub record Run (k : Circuit) (run : List Frame) (kind : Kind) : Type 0 where
  pub kinds : Every (λ f. f.kind ≡ kind) run
  pub count : length run ≡ k.d
  pub labelled : (i : ℕ) → i < k.d → label_shown (look_up (build k run) (size k + i)) ≡ i

pub same_kind : (one other : Kind) → kind_word one ≡ kind_word other → one ≡ other
same_kind one other e = sym (kind-known one) ∙ ap kind_of e ∙ kind-known other

pub run-shown : (k : Circuit) (p : Plain) (first : Frame) (rest : List Frame) → is_run k p first rest ≡ true → Run k (first ∷ rest) first.kind
run-shown k p first rest h =
    let run = first ∷ rest in
    let word : Frame → ℕ = λ f. kind_word f.kind in
    let (each, count) = one_number word (word first) run (labels k.d) (and_left _ _ h) in
    let label : ℕ → ℕ = λ x. label_shown (look_up (build k run) x) in
    let shown = same_list (map label (range (size k) k.d)) (labels k.d) (and_right (alike eqb (map word run) (map (λ i. word first) (labels k.d))) _ h) in
    record {
      kinds = every_imp _ _ run (λ f. same_kind f.kind first.kind) each;
      count = count ∙ range_length 0 k.d;
      labelled = λ i l. sym (range-map-at label (size k) k.d i 0 l) ∙ ap (λ xs. nth xs i) shown ∙ range_at 0 k.d i l ∙ zero-add i;
    }

pub run_holds : (k : Circuit) (p : Plain) (first : Frame) (rest : List Frame) → Run k (first ∷ rest) first.kind → is_run k p first rest ≡ true
run_holds k p first rest r =
    let run = first ∷ rest in
    and_both _ _
    (all-one-number (λ f. kind_word f.kind) (kind_word first.kind) run (labels k.d) (every_imp _ _ run (λ f. ap kind_word) r.kinds) (r.count ∙ sym (range_length 0 k.d)))
    (let e = in_a_row (λ x. label_shown (look_up (build k run) x)) (size k) 0 k.d (λ i l. r.labelled i l ∙ omega arith) in rw e (alike-itself (labels k.d)))

-- a run of d wires, labelled in order, whose frames have one stage
module _ (k : Circuit) (first : Frame) (rest : List Frame) {kind : Kind} (s : Single kind) (r : Run k (first ∷ rest) kind) (fit : AllFit k (first ∷ rest)) where
  abbrev run : List Frame
  run = first ∷ rest

  abbrev after : Circuit
  after = build k run

  abbrev ops_at : ℕ → List ℕ
  ops_at i = (get_or run i first).ops

  pub run-wire : (i : ℕ) → i < k.d → wire_at after (size k + i) ≡ (gate_by s (ops_at i) placed named i (new_stage after (ops_at i) kind))
  run-wire i l =
      let m = all_get (MadeBy after s) (size k) run first (run-wires k run s r.kinds fit) i (omega (arith, r.count)) in
      m.is ∙ ap (λ j. gate_by s (ops_at i) placed named j (new_stage after (ops_at i) kind)) (sym (label-told after (size k + i) (ap (λ w. w.place) m.is)) ∙ r.labelled i l)

  pub run_grown : (stage : ℕ) → ((i : ℕ) → i < k.d → new_stage after (ops_at i) kind ≡ stage) → Grown k run
  run_grown stage one = record {
    inside = 0;
    stage = stage;
    sized = run-size k run s r.kinds ∙ omega (arith, r.count);
    hidden = λ i l. absurd (omega arith);
    placed = λ i l. let n : size k + 0 + i ≡ size k + i = omega arith in ap (place after) n ∙ ap (λ w. w.place) (run-wire i l) ∙ ap (named i) (one i l);
  }

  -- the words of a column; where it is a row of wires, their stage
  pub column-at : (place i : ℕ) → i < k.d → nth (map (λ f. nth f.ops place) run) i ≡ nth (ops_at i) place
  column-at place i l = map_at (λ f. nth f.ops place) run i 0 first (omega (arith, r.count))

  pub column-stage : (o : InRow k (map (λ f. nth f.ops 0) run)) → (i : ℕ) → i < k.d → stage_shown (look_up after (nth (ops_at i) 0)) ≡ o.stage
  column-stage o i l =
      let here : nth (ops_at i) 0 ≡ o.first + i = sym (column-at 0 i l) ∙ ap (λ xs. nth xs i) o.are ∙ range_at o.first k.d i l in
      let there = o.placed i l in
      rw here (stage-told after (o.first + i) (ap (λ w. w.place) (wire_kept k run (o.first + i) (named-made k _ i _ there)) ∙ there))
