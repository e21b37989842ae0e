-- Frames whose last d wires are a row, and whose wires before those are inner, leave sharings kept with that row as one sharing more.
use mathlib.Core.Path.{◌≡◌, refl, sym, ap, ap₂, subst, ◌∙◌}
use mathlib.Core.Bool.{Bool, true, false}
use mathlib.Core.List.{List, [], ◌∷◌, ◌++◌, map, map-append, append-nil}
use Prim.Native.Nat.{ℕ, ◌+◌, ◌-◌, ◌≤◌, ◌<◌}
use native.Mathlib.Nat.{zero-add}
use native.Mathlib.Omega.{arith}
use lib.Dec.{ltb}
use lib.ListN.{length, get_or, length-append, length-map, get_or-append}
use lib.Seq.{get_or-append-add}
use borrow.Author.Tests.{ltb-true, ltb-false}
use Rattle.circuit.specs.Lists.{range, filter, concat_map}
use Rattle.circuit.specs.Wires.{named, Wire}
use Rattle.circuit.specs.Gadgets.{labels}
use Rattle.circuit.specs.Kinds.{Kind}
use Rattle.circuit.specs.Circuit.{Circuit, size, place, shown_by, look_up, is_named, made}
use Rattle.circuit.specs.Composition.{Frame, frame, build}
use Rattle.circuit.proofs.Base.{cases, clash, every_append, every_imp, concat_map-append, all_map, all_any}
use Rattle.circuit.proofs.Numbered.{all_default}
use Rattle.circuit.proofs.Sizes.{labels-map}
use Rattle.circuit.proofs.Building.{named-made, named-told, build-shares, wire_kept}
use Rattle.semantics.proofs.Solving.{nothing}
use Rattle.gadgets.proofs.Ranges.{range_split, filter-append, filter-all, filter_none}
use Rattle.plain.specs.Sharings.{PlainGate, Sharing, Plain, is_sharing}
use Rattle.plain.specs.Plain.{rows_of}
use Rattle.plain.proofs.Kept.{InRow, Kept}
use Rattle.plain.proofs.Found.{range-map-at, filter_same, is_more, is_last}

-- what frames add: wires that are not named, and behind them d wires with the labels 0 to d−1 and one stage
pub record Grown (k : Circuit) (run : List Frame) : Type 0 where
  pub inside : ℕ
  pub stage : ℕ
  pub sized : size (build k run) ≡ size k + inside + k.d
  pub hidden : (i : ℕ) → i < inside → is_named (look_up (build k run) (size k + i)) ≡ false
  pub placed : (i : ℕ) → i < k.d → place (build k run) (size k + inside + i) ≡ named i stage

module _ (k : Circuit) (run : List Frame) where
  abbrev after : Circuit
  after = build k run

  row_kept : (ws : List ℕ) → InRow k ws → InRow after ws
  row_kept ws r = record {
    first = r.first;
    stage = r.stage;
    are = r.are ∙ ap (range r.first) (sym (build-shares k run));
    placed = λ i l. let here = r.placed i (omega (arith, build-shares k run)) in ap (λ w. w.place) (wire_kept k run _ (named-made k _ i _ here)) ∙ here;
  }

  module _ (g : Grown k run) (p : Plain) (h : Kept k p) (gate : PlainGate) where
    abbrev new : Sharing
    new = record { wires = range (size after - k.d) k.d; gate = gate }

    abbrev more : Plain
    more = record { sharings = p.sharings ++ (new ∷ []); outputs = p.outputs }

    start : size after - k.d ≡ size k + g.inside
    start = omega (arith, g.sized)

    new_row : InRow after new.wires
    new_row = record {
      first = size k + g.inside;
      stage = g.stage;
      are = ap₂ range start (sym (build-shares k run));
      placed = λ i l. g.placed i (omega (arith, build-shares k run));
    }

    hidden_at : (x : ℕ) → size k ≤ x → x < size k + g.inside → is_named (look_up after x) ≡ false
    hidden_at x a b = let e : size k + (x - size k) ≡ x = omega arith in rw e at (g.hidden (x - size k) (omega arith))

    placed_at : (x : ℕ) → size k + g.inside ≤ x → x < size k + g.inside + k.d → place after x ≡ named (x - (size k + g.inside)) g.stage
    placed_at x a b =
        let i = x - (size k + g.inside) in
        let e : size k + g.inside + i ≡ x = omega arith in
        subst (λ (y : ℕ). place after y ≡ named i g.stage) e (g.placed i (omega arith))

    named-at : (x : ℕ) → size k + g.inside ≤ x → x < size k + g.inside + k.d → is_named (look_up after x) ≡ true
    named-at x a b = named-told after x (placed_at x a b)

    new_firsts : (x t : ℕ) → place after x ≡ named 0 t → is_sharing (range x after.d) more.sharings ≡ true
    new_firsts x t e = rw (build-shares k run) (cases (ltb x (size k))
        (λ l. is_more _ p.sharings _ (h.firsts x t (sym (ap (λ w. w.place) (wire_kept k run x (ltb-true x (size k) l))) ∙ e)))
        (λ l. cases (ltb x (size k + g.inside))
        (λ m. clash (named-told after x e) (hidden_at x (ltb-false _ _ l) (ltb-true _ _ m)))
        (λ m. let here : x ≡ size after - k.d = last (ltb-false _ _ m) in rw here (is_last p.sharings new))))
      where
        last : size k + g.inside ≤ x → x ≡ size after - k.d
        last m =
            let there = placed_at x m (omega (arith, named-made after x 0 t e, g.sized)) in
            let z : x - (size k + g.inside) ≡ 0 = cc in
            omega (arith, start)

    -- the named wires: those that were there, none inside, and the new row
    abbrev is_now : ℕ → Bool
    is_now x = is_named (look_up after x)

    parts : filter is_now (range 0 (size after)) ≡ (filter is_now (range 0 (size k)) ++ filter is_now (range (size k) g.inside)) ++ filter is_now (range (size k + g.inside) k.d)
    parts = ap (λ n. filter is_now (range 0 n)) g.sized ∙ simp (range_split 0 (size k + g.inside) k.d, range_split 0 (size k) g.inside, zero-add, filter-append)

    new_once : concat_map (rows_of more) (λ ws. ws) ≡ filter is_now (range 0 (size after))
    new_once =
        ap (λ l. concat_map l (λ ws. ws)) (map-append (λ s. s.wires) p.sharings (new ∷ [])) ∙ concat_map-append (rows_of p) (new.wires ∷ []) (λ ws. ws)
        ∙ ap₂ (λ xs ys. xs ++ ys)
        (h.each_once ∙ filter_same _ is_now 0 (size k) (λ x l m. ap (λ w. is_named (shown_by w)) (sym (wire_kept k run x (omega arith))))
        ∙ sym (append-nil _) ∙ ap (λ l. filter is_now (range 0 (size k)) ++ l) (sym (filter_none is_now (size k) g.inside hidden_at)))
        (append-nil new.wires ∙ ap (λ n. range n k.d) start ∙ sym (filter-all is_now (size k + g.inside) k.d named-at))
        ∙ sym parts

    pub kept_more : Kept after more
    kept_more = record {
      rows = every_append (λ s. InRow after s.wires) p.sharings (new ∷ []) (every_imp _ _ p.sharings (λ s. row_kept s.wires) h.rows) (new_row, tt);
      firsts = new_firsts;
      each_once = new_once;
    }

-- frames that make no wire leave sharings kept
pub kept_same : (k : Circuit) (run : List Frame) (p : Plain) (outputs : List ℕ) → (build k run).wires ≡ k.wires → Kept k p
    → Kept (build k run) (record { sharings = p.sharings; outputs = outputs })
kept_same k run p outputs e h = record {
  rows = every_imp _ _ p.sharings (λ s. row_kept k run s.wires) h.rows;
  firsts = λ x t n. rw (build-shares k run) (h.firsts x t (subst (λ (ws : List Wire). (get_or ws x nothing).place ≡ named 0 t) e n));
  each_once = h.each_once ∙ rw e;
}

-- one frame, whose wires are given in two parts
pub grown_by : {A : Type 0} (k : Circuit) (kind : Kind) (ops : List ℕ) (inside : List A) (part : A → Wire) (out : ℕ → Wire) (stage : ℕ)
    → made k ops kind ≡ map part inside ++ map out (labels k.d) → ((a : A) → is_named (shown_by (part a)) ≡ false) → ((i : ℕ) → (out i).place ≡ named i stage)
    → Grown k (frame kind ops ∷ [])
grown_by k kind ops inside part out stage e dark bright = record {
  inside = length inside;
  stage = stage;
  sized = length-append k.wires (made k ops kind)
      ∙ omega (arith, ap length e, length-append (map part inside) (map out (labels k.d)), length-map inside part, labels-map k.d out);
  hidden = λ i l. ap (λ w. is_named (shown_by w)) (get_or-append-add k.wires (made k ops kind) i nothing ∙ ap (λ ws. get_or ws i nothing) e
      ∙ get_or-append (map part inside) (map out (labels k.d)) nothing i (omega (arith, length-map inside part)))
      ∙ all_default (λ w. is_named (shown_by w) ≡ false) nothing refl 0 (map part inside) i (all_map _ part 0 inside (all_any _ (λ x a. dark a) 0 inside));
  placed = λ i l. let n : size k + length inside + i ≡ size k + (length (map part inside) + i) = omega (arith, length-map inside part) in
      ap (λ w. w.place) (ap (λ x. get_or (k.wires ++ made k ops kind) x nothing) n ∙ get_or-append-add k.wires (made k ops kind) (length (map part inside) + i) nothing
      ∙ ap (λ ws. get_or ws (length (map part inside) + i) nothing) e ∙ get_or-append-add (map part inside) (map out (labels k.d)) i nothing ∙ range-map-at out 0 k.d i nothing l)
      ∙ bright (0 + i) ∙ ap (λ j. named j stage) (zero-add i);
}
