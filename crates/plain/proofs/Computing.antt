-- The sharings of an accepted table whose runs all fit compute its plain circuit: the added shares of every sharing and of every OUT are plain
-- values on the added inputs. By induction over the runs.
use mathlib.Core.Path.{◌≡◌, refl, sym, ap, ap₂, subst, ◌∙◌}
use mathlib.Core.Bool.{Bool, true, false}
use mathlib.Core.List.{List, [], ◌∷◌, ◌++◌, map, append-nil, append_assoc}
use Prim.Native.Nat.{ℕ, zero, suc, ◌+◌, ◌≤◌, ◌<◌}
use native.Mathlib.Nat.{zero-add, min-le_left}
use lib.ListN.{length, get_or, take, drop, length-take, take-append-drop}
use lib.Seq.{drop-nil}
use Rattle.circuit.specs.Lists.{nth}
use Rattle.circuit.specs.Circuit.{Circuit, empty, place}
use Rattle.circuit.specs.Rules.{Judgement, pass, refuse, need, checked}
use Rattle.circuit.specs.Composition.{Frame, Row, AllFit, build}
use Rattle.circuit.proofs.Numbered.{range_at, map_at}
use Rattle.circuit.proofs.Judging.{never, need-pass}
use Rattle.circuit.proofs.Building.{build-append, build-shares, fit-split}
use Rattle.circuit.proofs.Exact.{Accepted, sound}
use Rattle.semantics.specs.Values.{at}
use Rattle.plain.specs.Sharings.{constant, Plain, none, fits, joined, further, groups_from, Whole, going, whole_from, whole_of}
use Rattle.plain.specs.Plain.{out_rows, added_shares, rows_of, IsPlainOf}
use Rattle.plain.proofs.Kept.{InRow, Kept}
use Rattle.plain.proofs.Framed.{frames_in_lem}
use Rattle.plain.proofs.Found.{every_at}
use Rattle.plain.proofs.Keeping.{kept_start, kept_next}
use Rattle.plain.proofs.Valued.{Given, values}
use Rattle.plain.proofs.Summing.{Sums, sums_next}

-- what a group that does not end the walk shows
going-pass : (j : Judgement) (p : Plain) (w : Whole) → (going j p w).judgement ≡ pass → (j ≡ pass) × (going j p w ≡ w)
going-pass pass p w h = (refl, refl)
going-pass (refuse rule frame word) p w h = never rule frame word h

module _ (on : Given) where
  open on use {d, fs}

  -- of the frames before a place, and their plain circuit
  record Right (before : List Frame) (p : Plain) : Type 0 where
    kept : Kept (build (empty d) before) p
    sums : Sums on before p

  right-next : (before : List Frame) (p : Plain) (first : Frame) (rest after : List Frame) → fs ≡ before ++ ((first ∷ rest) ++ after) → length rest ≤ further d first.kind
      → let k = build (empty d) before in fits k p first rest first.kind ≡ true → Right before p → Right (before ++ (first ∷ rest)) (joined k p first rest first.kind)
  right-next before p first rest after split l e h =
      let k = build (empty d) before in
      let run = first ∷ rest in
      let same-shares : k.d ≡ d = build-shares (empty d) before in
      let few : length rest ≤ further k.d first.kind = rw same-shares l in
      let fit-run = (fit-split k run after (fit-split (empty d) before (run ++ after) (subst (AllFit (empty d)) split on.fit)).1).0 in
      record {
        kept = rw (build-append (empty d) before run) (kept_next k p first rest fit-run few h.kept e);
        sums = sums_next on before p h.sums first.ops rest after first.kind split few e;
      }

  -- all groups, `passed` frames going with one before them
  right-all : (before : List Frame) (f passed : ℕ) (gs : List Frame) (p : Plain) → fs ≡ before ++ drop passed gs → Right before p
      → let w = whole_from (build (empty d) before) p (groups_from d f passed gs) in w.judgement ≡ pass → Right fs w.plain
  unfolding groups_from whole_from
  right-all before f passed [] p split h e = let all : fs ≡ before = split ∙ rw drop-nil (append-nil before) in subst (λ (l : List Frame). Right l p) (sym all) h
  right-all before f (suc n) (x ∷ gs) p split h e = right-all before (suc f) n gs p split h e
  right-all before f zero (x ∷ gs) p split h e =
      let n = further d x.kind in
      let rest = take n gs in
      let run = x ∷ rest in
      let k = build (empty d) before in
      let more = joined k p x rest x.kind in
      let rs = groups_from d (suc f) n gs in
      let (j, goes) = going-pass (need (fits k p x rest x.kind) 26 f 0) p (whole_from (build k run) more rs) e in
      let parts : fs ≡ before ++ (run ++ drop n gs) = split ∙ ap (λ (l : List Frame). before ++ (x ∷ l)) (sym (take-append-drop n gs)) in
      let same = build-append (empty d) before run in
      let right = right-next before p x rest (drop n gs) parts (rw length-take (min-le_left n (length gs))) (need-pass _ 26 f 0 j) h in
      let all = right-all (before ++ run) (suc f) n gs more (parts ∙ sym (append_assoc before run (drop n gs))) right
      (subst (λ (c : Circuit). (whole_from c more rs).judgement ≡ pass) (sym same) (sym (ap (λ w. w.judgement) goes) ∙ e)) in
      subst (λ (w : Whole). Right fs w.plain) (sym goes) (subst (λ (c : Circuit). Right fs (whole_from c more rs).plain) same all)

  right : (whole_from (empty d) none (groups_from d 1 0 fs)).judgement ≡ pass → Right fs (whole_from (empty d) none (groups_from d 1 0 fs)).plain
  right = right-all [] 1 0 fs none refl (record { kept = kept_start d; sums = record { sound = refl; bounded = tt; outs = refl } })

-- the wires of each sharing, by their labels and stage
rows_placed : (k : Circuit) (p : Plain) → Kept k p → (n : ℕ) → n < length p.sharings → (t : ℕ) × Row k (get_or (rows_of p) n []) 0 t
rows_placed k p h n l =
    let s = get_or p.sharings n (record { wires = []; gate = constant false }) in
    let r = every_at (λ s. InRow k s.wires) p.sharings h.rows n _ l in
    let same : get_or (rows_of p) n [] ≡ s.wires = map_at (λ s. s.wires) p.sharings n [] _ l in (
      r.stage,
      λ i m.
          let e : nth (get_or (rows_of p) n []) (0 + i) ≡ r.first + i = ap₂ nth (same ∙ r.are) (zero-add i) ∙ range_at r.first k.d i m in
          ap (place k) e ∙ r.placed i m,
    )

-- the theorem
module _ (table : List ℕ) (room : ℕ) (accepted : (checked table room).judgement ≡ pass) (fitting : (whole_of table).judgement ≡ pass) where
  abbrev a : Accepted table room
  a = sound table room accepted

  abbrev given : (shares tape : List Bool) → Given
  given shares tape = record { d = a.d; fs = a.fs; least = a.least; fit = a.fit; shares = shares; tape = tape }

  walk : whole_of table ≡ whole_from (empty a.d) none (groups_from a.d 1 0 a.fs)
  unfolding whole_of
  walk = ap₂ (λ (n : ℕ) (l : List Frame). whole_from (empty n) none (groups_from n 1 0 l)) (ap (λ t. nth t 1) a.table_is) (frames_in_lem a)

  all_right : (shares tape : List Bool) → Right (given shares tape) a.fs (whole_of table).plain
  all_right shares tape = rw walk (right (given shares tape) (rw walk at fitting))

  pub is_plain : IsPlainOf table (checked table room).circuit (whole_of table).plain
  is_plain = rw a.circuit_is (record {
    each_once = (all_right [] []).kept.each_once;
    in_rows = rows_placed _ (whole_of table).plain (all_right [] []).kept;
    sharings_add = λ shares tape. (all_right shares tape).sums.sound;
    outputs_add = λ shares tape. let s = (all_right shares tape).sums in
        ap (λ fs. added_shares (out_rows fs) (values (given shares tape))) (frames_in_lem a) ∙ s.outs ∙ ap (λ bs. map (at bs) (whole_of table).plain.outputs) s.sound;
  })
