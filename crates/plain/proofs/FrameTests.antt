-- The code's tests of a row, of a run over rows and of a run of constants are the definition's.
use mathlib.Core.Path.{◌≡◌, sym, ap, subst, ◌∙◌}
use mathlib.Core.Bool.{Bool, true, ◌&&◌}
use mathlib.Core.List.{List, ◌∷◌, map}
use Prim.Native.Nat.{ℕ, suc, ◌+◌, ◌-◌, ◌*◌, ◌≤◌, ◌<◌}
use native.Mathlib.Omega.{arith}
use lib.Dec.{eqb}
use lib.ListN.{length, get_or, take, drop, length-drop, get_or-append, take-append-drop}
use borrow.Author.Tests.{eqb-true, eq-eqb}
use Rattle.circuit.specs.Limits.{fewest_shares}
use Rattle.circuit.specs.Lists.{nth}
use Rattle.circuit.specs.Wires.{named}
use Rattle.circuit.specs.Gadgets.{labels}
use Rattle.circuit.specs.Kinds.{Kind, words}
use Rattle.circuit.specs.Circuit.{Circuit, size, place, look_up, label_shown}
use Rattle.circuit.specs.Composition.{Frame, frame, Row, AllFit, build, kind_word, words_of}
use Rattle.circuit.proofs.Base.{and_left, and_right, and_both, Every}
use Rattle.circuit.proofs.Building.{named-made, label-told, fit-split, Lawful, InTime, wire_kept}
use Rattle.circuit.proofs.Numbered.{all_get, map_at}
use Rattle.semantics.specs.Counts.{alike}
use Rattle.semantics.proofs.Reading.{same_test}
use Rattle.circuit.specs.Answer.{label_noted}
use Rattle.plain.specs.Sharings.{Plain, is_sharing, is_run}
use Rattle.plain.specs.Internal.Tests.{rising, alike_from, over_row}
use Rattle.plain.proofs.Kept.{Kept}
use Rattle.semantics.proofs.Alike.{same_list, alike-itself}
use Rattle.plain.proofs.Found.{range-map-at}
use Rattle.plain.proofs.Rising.{rises_each, each_rises, maps_same, same_maps}
use Rattle.plain.proofs.Runs.{Single, label_by, MadeBy, Run, run-shown, run_holds, run-wires}
use Rattle.plain.proofs.Words.{Sized, fit-sized}
use Rattle.plain.proofs.Exactness.{to_sharing, SharingOf, from_sharing, word-is, Standing, to_standing, from_standing, column-is}

-- a frame of the kind with these words, behind the circuit k, at a place of the table, with others behind it
module _ (k : Circuit) (p : Plain) (kept : Kept k p) (ge : fewest_shares ≤ k.d) (time : Lawful InTime k) (table notes : List ℕ) (at : ℕ)
    (kind : Kind) (ops : List ℕ) (later : List Frame) (here : drop at table ≡ words_of (frame kind ops ∷ later)) (fit : AllFit k (frame kind ops ∷ later)) where
  abbrev d : ℕ
  d = k.d

  abbrev f : Frame
  f = frame kind ops

  sized : Sized d (f ∷ later)
  sized = fit-sized k (f ∷ later) ge time fit

  inside : at < length table
  inside = omega (arith, length-drop at table, ap length here)

  kind_at : nth table at ≡ kind_word kind
  kind_at = (let e : at ≡ at + 0 = omega arith in ap (nth table) e) ∙ word-is table at (f ∷ later) here 0

  op_at : (c : ℕ) → c < words d kind → nth table (at + (1 + c)) ≡ nth ops c
  op_at c l = word-is table at (f ∷ later) here (1 + c)
      ∙ (let e : 1 + c ≡ suc c = omega arith in ap (nth (words_of (f ∷ later))) e) ∙ get_or-append ops (words_of later) 0 c (omega (arith, sized.0))

  -- a row of d words
  pub row_exact : (from t : ℕ) → from + d ≤ words d kind → Row k ops from t → rising table (at + (1 + from)) 1 d 1 ≡ is_sharing (map (λ i. nth ops (from + i)) (labels d)) p.sharings
  row_exact from t room row =
      let w : ℕ → ℕ = λ i. nth ops (from + i) in
      let first : place k (w 0) ≡ named 0 t = row 0 (omega arith) in
      let word : (i : ℕ) → i < d → nth table (at + (1 + from) + i * 1) ≡ w i = λ i l.
      (let e : at + (1 + from) + i * 1 ≡ at + (1 + (from + i)) = omega arith in ap (nth table) e) ∙ op_at (from + i) (omega arith) in
      let start : nth table (at + (1 + from)) ≡ w 0 = op_at from (omega arith) ∙ (let e : from ≡ from + 0 = omega arith in ap (nth ops) e) in
      same_test _ _
      (λ h. to_sharing k p kept w first (λ i l. sym (word i l) ∙ rises_each table (at + (1 + from)) 1 d 1 h i l ∙ omega (arith, start)))
      (λ h. each_rises table (at + (1 + from)) 1 d 1 (λ i l. word i l ∙ (from_sharing k p kept w (omega arith) h).steps i l ∙ omega (arith, start)))

  -- a run of frames that make one wire each
  module _ (s : Single kind) where
    abbrev rest : List Frame
    rest = take (d - 1) later

    abbrev run : List Frame
    run = f ∷ rest

    abbrev step : ℕ
    step = 1 + words d kind

    taken : take d (f ∷ later) ≡ run
    taken = let e : d ≡ suc (d - 1) = omega arith in ap (λ n. take n (f ∷ later)) e

    abbrev Stands : Type 0
    Stands = Standing table at (f ∷ later) here d kind sized

    abbrev w : ℕ → ℕ → ℕ
    w c i = nth table (at + (1 + c) + i * step)

    column : Stands → (c : ℕ) → c < words d kind → map (λ g. nth g.ops c) run ≡ map (w c) (labels d)
    column h c l = ap (map (λ g. nth g.ops c)) (sym taken) ∙ column-is table at (f ∷ later) here d kind sized h f c l

    start : (c : ℕ) → c < words d kind → w c 0 ≡ nth ops c
    start c l = (let e : at + (1 + c) + 0 * step ≡ at + (1 + c) = omega arith in ap (nth table) e) ∙ op_at c l

    -- the frames as the definition has them
    abbrev after : Circuit
    after = build k run

    abbrev ops_at : ℕ → List ℕ
    ops_at i = (get_or run i f).ops

    run-fit : AllFit k run
    run-fit = (fit-split k run (drop (d - 1) later) (subst (λ fs. AllFit k (f ∷ fs)) (sym (take-append-drop (d - 1) later)) fit)).0

    to_stands : Run k run kind → Stands
    to_stands r = record { kinds = subst (Every (λ g. g.kind ≡ kind)) (sym taken) r.kinds; count = ap length taken ∙ r.count }

    label_of : Every (λ g. g.kind ≡ kind) run → (i : ℕ) → i < length run → label_shown (look_up after (size k + i)) ≡ label_by s after (ops_at i)
    label_of kinds i l = label-told after (size k + i) (ap (λ x. x.place) (all_get (MadeBy after s) (size k) run f (run-wires k run s kinds run-fit) i l).is)

    to_run : Stands → ((i : ℕ) → i < d → label_by s after (ops_at i) ≡ i) → Run k run kind
    to_run h e =
        let kinds = subst (Every (λ g. g.kind ≡ kind)) taken h.kinds in
        let count : length run ≡ d = sym (ap length taken) ∙ h.count in
        record { kinds = kinds; count = count; labelled = λ i l. label_of kinds i (omega arith) ∙ e i l }

    word_of : Stands → (c : ℕ) → c < words d kind → (i : ℕ) → i < d → nth (ops_at i) c ≡ w c i
    word_of h c m i l = sym (map_at (λ g. nth g.ops c) run i 0 f (omega (arith, sym (ap length taken) ∙ h.count))) ∙ ap (λ xs. nth xs i) (column h c m)
        ∙ range-map-at (w c) 0 d i 0 l ∙ (let z : 0 + i ≡ i = omega arith in ap (w c) z)

    -- the words of a column that rise, and the steps between them
    to_steps : (c : ℕ) → c < words d kind → rising table (at + (1 + c)) step d 1 ≡ true → (i : ℕ) → i < d → w c i ≡ w c 0 + i
    to_steps c m h i l = rises_each table (at + (1 + c)) step d 1 h i l ∙ omega (arith, start c m, op_at c m)

    from_steps : (c : ℕ) → c < words d kind → ((i : ℕ) → i < d → w c i ≡ w c 0 + i) → rising table (at + (1 + c)) step d 1 ≡ true
    from_steps c m h = each_rises table (at + (1 + c)) step d 1 (λ i l. h i l ∙ omega (arith, start c m, op_at c m))

    abbrev is_column : ℕ → Bool
    is_column c = is_sharing (map (λ g. nth g.ops c) run) p.sharings

    -- a column whose first wire has a label and a stage is a sharing exactly where the label is 0 and its words rise
    to_column : Stands → (c t : ℕ) → c < words d kind → place k (nth ops c) ≡ named 0 t → rising table (at + (1 + c)) step d 1 ≡ true → is_column c ≡ true
    to_column h c t m first rise = rw (column h c m) (to_sharing k p kept (w c) (ap (place k) (start c m) ∙ first) (to_steps c m rise))

    from-column : Stands → (c : ℕ) → c < words d kind → is_column c ≡ true → SharingOf k p kept (w c)
    from-column h c m one = from_sharing k p kept (w c) (omega arith) (rw (column h c m) at one)

    -- over one row: NOT, REG, and XOR by its first words
    module _ (some : 0 < words d kind) (names : (o : List ℕ) → label_by s after o ≡ label_shown (look_up after (nth o 0))) (l t : ℕ)
        (first : place k (nth ops 0) ≡ named l t) (marked : label_noted notes (nth ops 0) ≡ l) where
      over_to : over_row table notes at step d (nth ops 0) ≡ true → (is_run k p f rest && is_column 0) ≡ true
      unfolding over_row
      over_to h =
          let both = and_left (alike_from table at step d && eqb (label_noted notes (nth ops 0)) 0) (rising table (at + 1) step d 1) h in
          let stands : Stands = to_standing table at (f ∷ later) here d kind sized inside kind_at (and_left (alike_from table at step d) _ both) in
          let zeroth : l ≡ 0 = sym marked ∙ eqb-true _ 0 (and_right (alike_from table at step d) _ both) in
          let one = to_column stands 0 t some (first ∙ ap (λ j. named j t) zeroth) (and_right (alike_from table at step d && eqb (label_noted notes (nth ops 0)) 0) (rising table (at + 1) step d 1) h) in
          let of = from-column stands 0 some one in
          and_both (is_run k p f rest) (is_column 0) (run_holds k p f rest (to_run stands (λ i j.
          let there = of.placed i j in
          names (ops_at i) ∙ ap (λ x. label_shown (look_up after x)) (word_of stands 0 some i j)
          ∙ label-told after (w 0 i) (ap (λ x. x.place) (wire_kept k run (w 0 i) (named-made k _ i _ there)) ∙ there)))) one

      -- where the first words are a sharing, their label is 0
      first-share : (is_run k p f rest && is_column 0) ≡ true → Stands × (l ≡ 0)
      first-share h =
          let stands = to_stands (run-shown k p f rest (and_left (is_run k p f rest) (is_column 0) h)) in
          let of = from-column stands 0 some (and_right (is_run k p f rest) (is_column 0) h) in
          let there : named l t ≡ named 0 of.stage = sym first ∙ ap (place k) (sym (start 0 some)) ∙ of.placed 0 (omega arith) in
          (stands, cc)

      over_from : (is_run k p f rest && is_column 0) ≡ true → over_row table notes at step d (nth ops 0) ≡ true
      unfolding over_row
      over_from h =
          let (stands, zeroth) = first-share h in
          and_both (alike_from table at step d && eqb (label_noted notes (nth ops 0)) 0) (rising table (at + 1) step d 1)
          (and_both (alike_from table at step d) _ (from_standing table at (f ∷ later) here d kind sized inside kind_at stands) (eq-eqb _ 0 (marked ∙ zeroth)))
          (from_steps 0 some (from-column stands 0 some (and_right (is_run k p f rest) (is_column 0) h)).steps)

      pub over_exact : over_row table notes at step d (nth ops 0) ≡ (is_run k p f rest && is_column 0)
      over_exact = same_test _ _ over_to over_from

      -- over two rows: the second words too
      pub sum_exact : 1 < words d kind → place k (nth ops 1) ≡ named l t
          → (over_row table notes at step d (nth ops 0) && rising table (at + 2) step d 1) ≡ (is_run k p f rest && is_column 0 && is_column 1)
      sum_exact more second =
          let over = over_row table notes at step d (nth ops 0) in
          let whole = is_run k p f rest && is_column 0 in
          same_test _ _
          (λ h. let o = over_to (and_left over _ h) in let (stands, zeroth) = first-share o in
          and_both whole (is_column 1) o (to_column stands 1 t more (second ∙ ap (λ j. named j t) zeroth) (and_right over _ h)))
          (λ h. let o = and_left whole (is_column 1) h in
          and_both over _ (over_from o) (from_steps 1 more (from-column (first-share o).0 1 more (and_right whole (is_column 1) h)).steps))

    -- constants: labels from 0 on, and one stage
    module _ (many : 2 < words d kind) (tells : (o : List ℕ) → label_by s after o ≡ nth o 0) where
      abbrev labelled : Bool
      labelled = eqb (nth ops 0) 0 && alike_from table at step d && rising table (at + 1) step d 1

      abbrev one_stage : Bool
      one_stage = alike eqb (map (λ g. nth g.ops 2) run) (map (λ i. nth ops 2) (labels d))

      labels_to : labelled ≡ true → Stands × (is_run k p f rest ≡ true)
      labels_to h =
          let both = and_left (eqb (nth ops 0) 0 && alike_from table at step d) _ h in
          let stands : Stands = to_standing table at (f ∷ later) here d kind sized inside kind_at (and_right (eqb (nth ops 0) 0) _ both) in
          let zeroth : nth ops 0 ≡ 0 = eqb-true (nth ops 0) 0 (and_left (eqb (nth ops 0) 0) (alike_from table at step d) both) in (
            stands,
            run_holds k p f rest (to_run stands (λ i l. tells (ops_at i) ∙ word_of stands 0 (omega arith) i l
                ∙ to_steps 0 (omega arith) (and_right (eqb (nth ops 0) 0 && alike_from table at step d) _ h) i l ∙ omega (arith, start 0 (omega arith)))),
          )

      labels_from : is_run k p f rest ≡ true → Stands × (labelled ≡ true)
      labels_from h =
          let r = run-shown k p f rest h in
          let stands = to_stands r in
          let is : (i : ℕ) → i < d → w 0 i ≡ i = λ i l.
          sym (tells (ops_at i) ∙ word_of stands 0 (omega arith) i l) ∙ sym (label_of r.kinds i (omega (arith, r.count))) ∙ r.labelled i l in (
            stands,
            and_both (eqb (nth ops 0) 0 && alike_from table at step d) _
                (and_both (eqb (nth ops 0) 0) _ (eq-eqb _ 0 (sym (start 0 (omega arith)) ∙ is 0 (omega arith))) (from_standing table at (f ∷ later) here d kind sized inside kind_at stands))
                (from_steps 0 (omega arith) (λ i l. is i l ∙ omega (arith, is 0 (omega arith)))),
          )

      stage_exact : Stands → rising table (at + 3) step d 0 ≡ one_stage
      stage_exact stands = same_test _ _
          (λ h. rw (column stands 2 many, maps_same (w 2) (λ i. nth ops 2) d (λ i l. rises_each table (at + 3) step d 0 h i l ∙ omega (arith, op_at 2 many)))
          (alike-itself (map (λ i. nth ops 2) (labels d))))
          (λ h. each_rises table (at + 3) step d 0 (λ i l. same_maps (w 2) (λ i. nth ops 2) d (sym (column stands 2 many) ∙ same_list _ _ h) i l ∙ omega (arith, op_at 2 many)))

      pub constant_exact : (labelled && rising table (at + 3) step d 0) ≡ (is_run k p f rest && one_stage)
      constant_exact = same_test _ _
          (λ h. let (stands, r) = labels_to (and_left labelled _ h) in and_both (is_run k p f rest) one_stage r (sym (stage_exact stands) ∙ and_right labelled _ h))
          (λ h. let (stands, r) = labels_from (and_left (is_run k p f rest) one_stage h) in and_both labelled _ r (stage_exact stands ∙ and_right (is_run k p f rest) one_stage h))
