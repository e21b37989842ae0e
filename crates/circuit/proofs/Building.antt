-- Laws of every wire of a circuit of frames that fit, frame by frame. First of them: there are at most 8,192 wires, and no stage is over 255.
use mathlib.Core.Path.{◌≡◌, refl, sym, ap, subst, subst₂, ◌∙◌}
use mathlib.Core.Bool.{Bool, true, false}
use mathlib.Core.List.{List, [], ◌∷◌, ◌++◌, map, append-nil, append_assoc}
use Prim.Native.Nat.{ℕ, suc, ◌+◌, ◌≤◌, ◌<◌}
use native.Mathlib.Omega.{arith}
use lib.Dec.{ltb}
use lib.ListN.{length, get_or, length-append, length-map, get_or-append, get_or-eq_default}
use lib.Seq.{get_or-append-add}
use borrow.Author.Tests.{ltb-true, ltb-false}
use Rattle.circuit.specs.Limits.{wire_limit, stage_limit, fewest_shares}
use Rattle.circuit.specs.Lists.{nth}
use Rattle.circuit.specs.Wires.{constant, is_stop, Place, named, inner, Wire, ◌placed◌}
use Rattle.circuit.specs.Gadgets.{Part, r, R, B, m, M, u, U, v, V', w, W, c, s, S, labels, gate, delay, in_and, in_ref, index, gadget}
use Rattle.circuit.specs.Kinds.{Kind, shape}
use Rattle.circuit.specs.Circuit.{Circuit, size, empty, wire_at, place, showing, look_up, is_named, label_shown, stage_shown, is_registered, stage_of, new_stage, made, extend}
use Rattle.circuit.proofs.Base.{cases, AllFrom, Has, all_append, all_left, all_right, all_map, all_unmap, all_of, all_any}
use Rattle.circuit.proofs.Numbered.{get_all, all-below, all-at, at_all, all_default}
use Rattle.circuit.proofs.Parts.{index_at, InREF, fresh, added, ref_parts}
use Rattle.circuit.proofs.Sizes.{made-size}
use Rattle.circuit.specs.Composition.{Frame, Row, Fits, fit-IN, fit-CON, fit-XOR, fit-NOT, fit-REG, fit-AND, fit-REF, fit-OUT, AllFit, done, next, build}

-- the wires of a gadget: its parts, then its outputs
module _ (d first : ℕ) (a b : ℕ → ℕ) (inside : List Part) (out : ℕ → Part) (start end : ℕ) where
  abbrev part_of : Part → Wire
  part_of p = gate d a b (λ q. first + index q inside) p placed inner (start + delay p)

  abbrev output_of : ℕ → Wire
  output_of i = gate d a b (λ q. first + index q inside) (out i) placed named i end

  module _ (Q : ℕ → Wire → Type 0) where
    pub gadget-all : AllFrom (λ x p. Q x (part_of p)) first inside → ((x i : ℕ) → first + length inside ≤ x → i < d → Q x (output_of i))
        → AllFrom Q first (gadget d first a b inside out start end)
    unfolding gadget
    gadget-all parts outputs = all_append Q first (map part_of inside) (map output_of (labels d)) (all_map Q part_of first inside parts)
        (at_all Q output_of _ 0 d (λ i l. outputs _ (0 + i) (omega (arith, length-map inside part_of)) (omega arith)))

    pub gadget_parts : AllFrom Q first (gadget d first a b inside out start end) → AllFrom (λ x p. Q x (part_of p)) first inside
    unfolding gadget
    gadget_parts h = all_unmap Q part_of first inside (all_left Q first (map part_of inside) (map output_of (labels d)) h)

    pub gadget-outputs : AllFrom Q first (gadget d first a b inside out start end) → (i : ℕ) → i < d → Q (first + length inside + i) (output_of i)
    unfolding gadget
    gadget-outputs h i l = subst₂ (λ x j. Q (first + x + i) (output_of j)) (length-map inside part_of) (omega arith)
        (all-at Q output_of (first + length (map part_of inside)) 0 d (all_right Q first (map part_of inside) (map output_of (labels d)) h) i l)

-- behind other wires, the wire of the number of a part is that part's, and the outputs come after the parts
module _ (ws : List Wire) (d : ℕ) (a b : ℕ → ℕ) (inside : List Part) (out : ℕ → Part) (start end : ℕ) (z : Wire) where
  abbrev made_by : List Wire
  made_by = gadget d (length ws) a b inside out start end

  wires-at : AllFrom (λ x wire. get_or (ws ++ made_by) x z ≡ wire) (length ws) made_by
  wires-at = get_all (λ x wire. get_or (ws ++ made_by) x z ≡ wire) (length ws) made_by z (λ i l. get_or-append-add ws made_by i z)

  pub part_at : (p : Part) → Has p inside → get_or (ws ++ made_by) (length ws + index p inside) z ≡ part_of d (length ws) a b inside out start end p
  part_at p h = index_at (λ x q. get_or (ws ++ made_by) x z ≡ part_of d (length ws) a b inside out start end q) (length ws) inside p h
      (gadget_parts d (length ws) a b inside out start end (λ x wire. get_or (ws ++ made_by) x z ≡ wire) wires-at)

  pub output-at : (i : ℕ) → i < d → get_or (ws ++ made_by) (length ws + length inside + i) z ≡ output_of d (length ws) a b inside out start end i
  output-at = gadget-outputs d (length ws) a b inside out start end (λ x wire. get_or (ws ++ made_by) x z ≡ wire) wires-at

-- a wire that is named has been made
pub named-made : (k : Circuit) (x l t : ℕ) → place k x ≡ named l t → x < size k
named-made k x l t h = cases (ltb x (size k)) (ltb-true x (size k))
    (λ e. let z : place k x ≡ inner 0 = ap (λ wire. wire.place) (get_or-eq_default k.wires (constant false placed inner 0) (ltb-false x (size k) e)) in
    absurd (let y : ◌≡◌ {A = ℕ} 0 1 = cc in omega arith))

-- and looking it up tells its label, its stage, whether it is registered, and that it is named
pub label-told : (k : Circuit) (x : ℕ) {l t : ℕ} → place k x ≡ named l t → label_shown (look_up k x) ≡ l
label-told k x h = ap (λ p. label_shown (showing p (is_stop (wire_at k x).gate))) h

pub stage-told : (k : Circuit) (x : ℕ) {l t : ℕ} → place k x ≡ named l t → stage_shown (look_up k x) ≡ t
stage-told k x h = ap (λ p. stage_shown (showing p (is_stop (wire_at k x).gate))) h

pub registered-told : (k : Circuit) (x : ℕ) {l t : ℕ} → place k x ≡ named l t → is_registered (look_up k x) ≡ is_stop (wire_at k x).gate
registered-told k x h = ap (λ p. is_registered (showing p (is_stop (wire_at k x).gate))) h

pub named-told : (k : Circuit) (x : ℕ) {l t : ℕ} → place k x ≡ named l t → is_named (look_up k x) ≡ true
named-told k x h = ap (λ p. is_named (showing p (is_stop (wire_at k x).gate))) h

-- the places of a frame
pub place_old : (k : Circuit) (ops : List ℕ) (kind : Kind) (x : ℕ) → x < size k → place (extend k ops kind) x ≡ place k x
place_old k ops kind x l = ap (λ wire. wire.place) (get_or-append k.wires (made k ops kind) (constant false placed inner 0) x l)

pub row_first : (k : Circuit) (ops : List ℕ) (from t : ℕ) → fewest_shares ≤ k.d → Row k ops from t → stage_shown (look_up k (nth ops from)) ≡ t
row_first k ops from t ge h = subst (λ (n : ℕ). stage_shown (look_up k (nth ops n)) ≡ t) (omega arith) (stage-told k _ (h 0 (omega arith)))

-- a law of wires that every frame keeps, and whose wires follow it
module _ (Q : Circuit → ℕ → Wire → Type 0) where
  abbrev pub Lawful : Circuit → Type 0
  Lawful k = AllFrom (Q k) 0 k.wires

  module _ (old : (k : Circuit) (ops : List ℕ) (kind : Kind) (x : ℕ) (wire : Wire) → x < size k → Q k x wire → Q (extend k ops kind) x wire)
      (new : (k : Circuit) (ops : List ℕ) (kind : Kind) → fewest_shares ≤ k.d → Lawful k → Fits k kind ops → AllFrom (Q (extend k ops kind)) (size k) (made k ops kind)) where
    pub step_all : (k : Circuit) (ops : List ℕ) (kind : Kind) → fewest_shares ≤ k.d → Fits k kind ops → Lawful k → Lawful (extend k ops kind)
    step_all k ops kind ge fits h = all_append (Q (extend k ops kind)) 0 k.wires (made k ops kind)
        (all-below (Q k) (Q (extend k ops kind)) 0 k.wires (λ x wire l. old k ops kind x wire (omega arith)) h)
        (subst (λ (n : ℕ). AllFrom (Q (extend k ops kind)) n (made k ops kind)) (omega arith) (new k ops kind ge h fits))

    pub build-all : {k : Circuit} (fs : List Frame) → fewest_shares ≤ k.d → AllFit k fs → Lawful k → Lawful (build k fs)
    build-all _ ge done h = h
    build-all _ ge (next {k} {f} fits few more) h = build-all _ ge more (step_all k f.ops f.kind ge fits h)

-- frames add wires behind those that are there
pub build_more : (k : Circuit) (fs : List Frame) → (more : List Wire) × ((build k fs).wires ≡ k.wires ++ more)
build_more k [] = ([], sym (append-nil k.wires))
build_more k (f ∷ fs) = let (more, e) = build_more (extend k f.ops f.kind) fs in
    (made k f.ops f.kind ++ more, e ∙ append_assoc k.wires (made k f.ops f.kind) more)

-- so a wire stays as it is
pub wire_kept : (k : Circuit) (fs : List Frame) (x : ℕ) → x < size k → wire_at (build k fs) x ≡ wire_at k x
wire_kept k fs x l = let (new, e) = build_more k fs in ap (λ ws. get_or ws x (constant false placed inner 0)) e ∙ get_or-append k.wires new (constant false placed inner 0) x l

-- frames before and after a place
pub build-append : (k : Circuit) (fs gs : List Frame) → build k (fs ++ gs) ≡ build (build k fs) gs
build-append k [] gs = refl
build-append k (f ∷ fs) gs = build-append (extend k f.ops f.kind) fs gs

pub build-shares : (k : Circuit) (fs : List Frame) → (build k fs).d ≡ k.d
build-shares k [] = refl
build-shares k (f ∷ fs) = build-shares (extend k f.ops f.kind) fs

pub fit-split : (k : Circuit) (fs gs : List Frame) → AllFit k (fs ++ gs) → AllFit k fs × AllFit (build k fs) gs
fit-split k [] gs h = (done, h)
fit-split k (f ∷ fs) gs (next fits few more) = let (p, q) = fit-split (extend k f.ops f.kind) fs gs more in (next fits few p, q)

-- at most 8,192 wires
pub size-extend : (k : Circuit) (ops : List ℕ) (kind : Kind) → size (extend k ops kind) ≡ size k + (shape k.d kind).wires
size-extend k ops kind = length-append k.wires (made k ops kind) ∙ ap (λ (n : ℕ). size k + n) (made-size k ops kind)

pub build-size : {k : Circuit} (fs : List Frame) → AllFit k fs → size k ≤ wire_limit → size (build k fs) ≤ wire_limit
build-size _ done h = h
build-size _ (next {k} {f} fits few more) h = build-size _ more (omega (arith, size-extend k f.ops f.kind))

-- no stage over 255
abbrev pub InTime : Circuit → ℕ → Wire → Type 0
InTime k x wire = stage_of wire.place ≤ stage_limit

delay_le : (p : Part) → delay p ≤ 2
delay_le (r i j) = omega arith
delay_le (R i j) = omega arith
delay_le (B i) = omega arith
delay_le (m i) = omega arith
delay_le (M i) = omega arith
delay_le (u i j) = omega arith
delay_le (U i j) = omega arith
delay_le (v i j) = omega arith
delay_le (V' i j) = omega arith
delay_le (w i j) = omega arith
delay_le (W i j) = omega arith
delay_le (c i) = omega arith
delay_le (s i) = omega arith
delay_le (S i) = omega arith

delay_ref : {d : ℕ} {p : Part} → InREF d p → delay p ≡ 0
delay_ref (fresh i j o l) = refl
delay_ref (added i l) = refl

-- the stage that a named wire shows is the stage at which it stands
shown_le : (p : Place) (registered : Bool) → stage_shown (showing p registered) ≤ stage_of p
shown_le (named l t) registered = omega arith
shown_le (inner t) registered = omega arith

pub stage_le : (k : Circuit) → Lawful InTime k → (x : ℕ) → stage_of (place k x) ≤ stage_limit
stage_le k h x = all_default (λ wire. stage_of wire.place ≤ stage_limit) (constant false placed inner 0) (omega arith) 0 k.wires x h

pub shown-limit : (k : Circuit) → Lawful InTime k → (x : ℕ) → stage_shown (look_up k x) ≤ stage_limit
shown-limit k h x = omega (arith, shown_le (place k x) (is_stop (wire_at k x).gate), stage_le k h x)

intime_new : (k : Circuit) (ops : List ℕ) (kind : Kind) → fewest_shares ≤ k.d → Lawful InTime k → Fits k kind ops → AllFrom (InTime (extend k ops kind)) (size k) (made k ops kind)
unfolding made new_stage
intime_new k _ _ ge h (fit-IN t o) = at_all (InTime k) _ (size k) 0 k.d (λ i l. o)
intime_new k _ _ ge h (fit-CON l b t o p q) = (q, tt)
intime_new k _ _ ge h (fit-XOR x y l t p q) = (shown-limit k h x, tt)
intime_new k _ _ ge h (fit-NOT x l t p) = (shown-limit k h x, tt)
intime_new k _ _ ge h (fit-REG x l t p o) = (omega (arith, stage-told k _ p), tt)
intime_new k _ _ ge h (fit-AND ops t len first p q o) =
    gadget-all k.d (size k) _ _ (in_and k.d) c _ _ (InTime k)
    (all_any _ (λ x z. omega (arith, row_first k ops (1 + k.d) t ge q, delay_le z)) (size k) (in_and k.d))
    (λ x i l g. omega (arith, row_first k ops 1 (suc t) ge p))
intime_new k _ _ ge h (fit-REF ops t len first p o) =
    gadget-all k.d (size k) _ _ (in_ref k.d) S _ _ (InTime k)
    (all_of _ (InREF k.d) (size k) (in_ref k.d) (λ x z l i. omega (arith, row_first k ops 1 t ge p, delay_ref i)) (ref_parts k.d))
    (λ x i l g. omega (arith, row_first k ops 1 t ge p))
intime_new k _ _ ge h (fit-OUT ops t len p q) = tt

-- one frame more, and frames
pub intime_step : (k : Circuit) (ops : List ℕ) (kind : Kind) → fewest_shares ≤ k.d → Fits k kind ops → Lawful InTime k → Lawful InTime (extend k ops kind)
intime_step = step_all InTime (λ k ops kind x wire l h. h) intime_new

pub build_intime : (d : ℕ) (fs : List Frame) → fewest_shares ≤ d → AllFit (empty d) fs → Lawful InTime (build (empty d) fs)
build_intime d fs ge fit = build-all InTime (λ k ops kind x wire l h. h) intime_new fs ge fit tt
