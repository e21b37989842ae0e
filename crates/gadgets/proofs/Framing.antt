-- A frame that fits a circuit: what its code rests on, and the gates of its wires.
use mathlib.Core.Path.{◌≡◌, refl, sym, ap, subst, ◌∙◌}
use mathlib.Core.Bool.{false}
use mathlib.Core.List.{List, [], ◌∷◌, ◌++◌, map}
use Prim.Native.Nat.{ℕ, suc, ◌+◌, ◌*◌, ◌-◌, ◌≤◌, ◌<◌}
use native.Mathlib.Omega.{arith}
use lib.ListN.{length, get_or, length-append, length-map, get_or-append}
use lib.Seq.{get_or-append-add}
use Rattle.circuit.specs.Lists.{nth}
use Rattle.circuit.specs.Wires.{Gate, input, constant, reg, inverse, sum, named, inner, Wire, ◌placed◌}
use Rattle.circuit.specs.Gadgets.{Part, labels, gate, delay, in_and, index, gadget}
use Rattle.circuit.specs.Kinds.{Kind, HEAD, IN, CON, XOR, NOT, REG, AND, REF, OUT, shape}
use Rattle.circuit.specs.Circuit.{Circuit, size, place, shown_by, look_up, is_named, stage_shown, is_set, new_stage, made, extend}
use Rattle.circuit.specs.Composition.{Frame, Fits, fit-IN, fit-CON, fit-XOR, fit-NOT, fit-REG, fit-AND, fit-REF, fit-OUT, build}
use Rattle.circuit.proofs.Base.{AllFrom, all_map, all_any}
use Rattle.circuit.proofs.Building.{named-made, size-extend}
use Rattle.circuit.proofs.Numbered.{all-at, get_all, all_default}
use Rattle.circuit.proofs.Sizes.{made-size, and-size}
use Rattle.frames.specs.Walk.{kind_code, frame_code}
use Rattle.gadgets.specs.Internal.Places.{word_a, word_b, cross_start}
use Rattle.semantics.proofs.Solving.{nothing, gate_at}
use Rattle.gadgets.specs.Internal.Gates.{FrameGates}
use Rattle.gadgets.specs.Internal.Frames.{frame_wires, FrameEarly, FrameSupplied, FrameNames, FrameHides}
use Rattle.gadgets.proofs.Placed.{and-gates, ref_gates}

-- the numbers of a circuit grow
pub inputs_more : (k : Circuit) (fs : List Frame) → k.inputs ≤ (build k fs).inputs
inputs_more k [] = omega arith
inputs_more k (f ∷ fs) = omega (arith, inputs_more (extend k f.ops f.kind) fs)

pub randoms_more : (k : Circuit) (fs : List Frame) → k.randoms ≤ (build k fs).randoms
randoms_more k [] = omega arith
randoms_more k (f ∷ fs) = omega (arith, randoms_more (extend k f.ops f.kind) fs)

-- each IN makes a wire for each share
brings_most : (d : ℕ) (kind : Kind) → d * (shape d kind).inputs ≤ (shape d kind).wires
unfolding shape
brings_most d = elim [ HEAD ↦ omega arith | IN ↦ omega arith | CON ↦ omega arith | XOR ↦ omega arith | NOT ↦ omega arith | REG ↦ omega arith | AND ↦ omega arith | REF ↦ omega arith | OUT ↦ omega arith ]

pub inputs_few : (k : Circuit) (fs : List Frame) → k.inputs * k.d ≤ size k → (build k fs).inputs * (build k fs).d ≤ size (build k fs)
inputs_few k [] h = h
inputs_few k (f ∷ fs) h = inputs_few (extend k f.ops f.kind) fs (omega (arith, brings_most k.d f.kind, size-extend k f.ops f.kind))

-- a frame makes as many wires as its kind
pub wires-same : (d : ℕ) (ops : List ℕ) (kind : Kind) → frame_wires (frame_code (kind_code kind) ops) d ≡ (shape d kind).wires
unfolding shape
wires-same d ops = elim [ HEAD ↦ refl | IN ↦ refl | CON ↦ refl | XOR ↦ refl | NOT ↦ refl | REG ↦ refl | AND ↦ refl | REF ↦ refl | OUT ↦ refl ]

-- one of at most one wire takes neither shares nor random bits
pub few_takes : (d : ℕ) → 2 ≤ d → (kind : Kind) → (shape d kind).wires ≤ 1 → ((shape d kind).inputs ≡ 0) × ((shape d kind).randoms ≡ 0)
unfolding shape
few_takes d h = elim [ HEAD ↦ (λ l. (refl, refl)) | IN ↦ (λ l. absurd (omega arith)) | CON ↦ (λ l. (refl, refl)) | XOR ↦ (λ l. (refl, refl)) | NOT ↦ (λ l. (refl, refl)) | REG ↦ (λ l. (refl, refl)) | AND ↦ (λ l. absurd (omega arith)) | REF ↦ (λ l. absurd (omega arith)) | OUT ↦ (λ l. (refl, refl)) ]

-- its wires are earlier ones, and it has a share for each wire of an IN and a random bit for each pair of a gadget
pub frame-early : (k : Circuit) (kind : Kind) (ops : List ℕ) → Fits k kind ops → FrameEarly (frame_code (kind_code kind) ops) k.d (size k) ops
frame-early k _ _ (fit-IN t o) = tt
frame-early k _ _ (fit-CON l b t p q o) = tt
frame-early k _ _ (fit-XOR x y l t p q) = (named-made k x l t p, named-made k y l t q)
frame-early k _ _ (fit-NOT x l t p) = named-made k x l t p
frame-early k _ _ (fit-REG x l t p o) = named-made k x l t p
frame-early k _ _ (fit-AND ops t len first p q o) = (len, (λ i l. named-made k (nth ops (1 + i)) i (suc t) (p i l)), (λ i l. named-made k (nth ops (1 + k.d + i)) i t (q i l)))
frame-early k _ _ (fit-REF ops t len first p o) = (omega (arith, len), (λ i l. named-made k (nth ops (1 + i)) i t (p i l)))
frame-early k _ _ (fit-OUT ops t len p q) = tt

-- what holds of every wire that is named holds of those that it names
pub frame_names : (k : Circuit) (P : ℕ → Type 0) → ((x l t : ℕ) → place k x ≡ named l t → P x) → (kind : Kind) (ops : List ℕ) → Fits k kind ops → FrameNames (frame_code (kind_code kind) ops) k.d ops P
frame_names k P told _ _ (fit-IN t o) = tt
frame_names k P told _ _ (fit-CON l b t p q o) = tt
frame_names k P told _ _ (fit-XOR x y l t p q) = (told x l t p, told y l t q)
frame_names k P told _ _ (fit-NOT x l t p) = told x l t p
frame_names k P told _ _ (fit-REG x l t p o) = told x l t p
frame_names k P told _ _ (fit-AND ops t len first p q o) = ((λ i l. told _ i (suc t) (p i l)), (λ i l. told _ i t (q i l)))
frame_names k P told _ _ (fit-REF ops t len first p o) = λ i l. told _ i t (p i l)
frame_names k P told _ _ (fit-OUT ops t len p q) = tt

pub frame-supplied : (d from used shares tape : ℕ) (ops : List ℕ) (kind : Kind) → from + d * (shape d kind).inputs ≤ shares → used + (shape d kind).randoms ≤ tape
    → FrameSupplied (frame_code (kind_code kind) ops) d from used shares tape
unfolding shape
frame-supplied d from used shares tape ops = elim [
  | HEAD ↦ λ s r. tt
  | IN ↦ λ s r. omega arith
  | CON ↦ λ s r. tt
  | XOR ↦ λ s r. tt
  | NOT ↦ λ s r. tt
  | REG ↦ λ s r. tt
  | AND ↦ λ s r. r
  | REF ↦ λ s r. r
  | OUT ↦ λ s r. tt
]

-- the gates of a frame's wires, other wires behind them
module _ (k : Circuit) (ops : List ℕ) (kind : Kind) (more : List Wire) where
  abbrev all : List Wire
  all = (k.wires ++ made k ops kind) ++ more

  in_all : (i : ℕ) → i < length (made k ops kind) → gate_at all (size k + i) ≡ gate_at (made k ops kind) i
  in_all i l = ap (λ x. x.gate) (get_or-append (k.wires ++ made k ops kind) more nothing (size k + i) (omega (arith, length-append k.wires (made k ops kind)))
      ∙ get_or-append-add k.wires (made k ops kind) i nothing)

-- the only wire of a gate
pub one-gate : (k : Circuit) (ops : List ℕ) (kind : Kind) (more : List Wire) (g : Gate) → 0 < length (made k ops kind) → gate_at (made k ops kind) 0 ≡ g → gate_at (all k ops kind more) (size k) ≡ g
one-gate k ops kind more g l e = let z : size k + 0 ≡ size k = omega arith in sym (ap (gate_at (all k ops kind more)) z) ∙ in_all k ops kind more 0 l ∙ e

-- the wires of an IN
pub input-gate : (k : Circuit) (ops : List ℕ) (more : List Wire) (q : ℕ) → q < k.d → gate_at (all k ops IN more) (size k + q) ≡ input (k.inputs * k.d + q)
unfolding made
input-gate k ops more q l =
    let f : ℕ → Wire = λ i. input (k.inputs * k.d + i) placed named i (new_stage k ops IN) in
    let here : AllFrom (λ x w. get_or (map f (labels k.d)) x nothing ≡ w) 0 (map f (labels k.d)) = get_all (λ x w. get_or (map f (labels k.d)) x nothing ≡ w) 0 (map f (labels k.d)) nothing (λ i h. let z : 0 + i ≡ i = omega arith in ap (λ n. get_or (map f (labels k.d)) n nothing) z) in
    let e : get_or (map f (labels k.d)) (0 + q) nothing ≡ f (0 + q) = all-at (λ x w. get_or (map f (labels k.d)) x nothing ≡ w) f 0 0 k.d here q l in
    let z : 0 + q ≡ q = omega arith in
    in_all k ops IN more q (subst (λ (n : ℕ). q < n) (sym (made-size k ops IN)) (unfold shape in l)) ∙ ap (λ x. x.gate) (sym (ap (λ n. get_or (map f (labels k.d)) n nothing) z) ∙ e) ∙ ap (λ n. input (k.inputs * k.d + n)) z

-- the gates of a frame's wires
pub frame-gates : (k : Circuit) (ops : List ℕ) (more : List Wire) (kind : Kind)
    → FrameGates (frame_code (kind_code kind) ops) k.d (size k) (k.inputs * k.d) ops (gate_at ((k.wires ++ made k ops kind) ++ more))
unfolding made
frame-gates k ops more HEAD = tt
frame-gates k ops more IN = input-gate k ops more
frame-gates k ops more CON = one-gate k ops CON more (constant (is_set (nth ops 1))) (omega arith) refl
frame-gates k ops more XOR = one-gate k ops XOR more (sum (nth ops 0 ∷ nth ops 1 ∷ [])) (omega arith) refl
frame-gates k ops more NOT = one-gate k ops NOT more (inverse (nth ops 0)) (omega arith) refl
frame-gates k ops more REG = one-gate k ops REG more (reg (nth ops 0)) (omega arith) refl
frame-gates k ops more AND = and-gates k.wires more k.d (word_a ops) (word_b k.d ops) _ _
frame-gates k ops more REF = ref_gates k.wires more k.d (word_a ops) (word_a ops) _ _
frame-gates k ops more OUT = tt

-- the wires inside AND are hidden
and_hides : (k : Circuit) (ops : List ℕ) (more : List Wire) (x : ℕ) → size k ≤ x → x < size k + cross_start k.d k.d → is_named (shown_by (get_or ((k.wires ++ made k ops AND) ++ more) x nothing)) ≡ false
unfolding made gadget shape
and_hides k ops more x l u =
    let i = x - size k in
    let e : x ≡ size k + i = omega arith in
    let inside = in_and k.d in
    let inner-few : i < length inside = omega (arith, and-size k.d) in
    let part : Part → Wire = λ p. gate k.d (λ j. nth ops (1 + j)) (λ j. nth ops (1 + k.d + j)) (λ q. size k + index q inside) p placed inner (stage_shown (look_up k (nth ops (1 + k.d))) + delay p) in
    ap (λ n. is_named (shown_by (get_or ((k.wires ++ made k ops AND) ++ more) n nothing))) e
    ∙ ap (λ w. is_named (shown_by w)) (get_or-append (k.wires ++ made k ops AND) more nothing (size k + i) (omega (arith, length-append k.wires (made k ops AND), made-size k ops AND))
    ∙ get_or-append-add k.wires (made k ops AND) i nothing ∙ get_or-append (map part inside) _ nothing i (omega (arith, length-map inside part)))
    ∙ all_default (λ w. is_named (shown_by w) ≡ false) nothing refl 0 (map part inside) i (all_map _ part 0 inside (all_any _ (λ y p. refl) 0 inside))

pub frame_hides : (k : Circuit) (ops : List ℕ) (more : List Wire) (kind : Kind)
    → FrameHides (frame_code (kind_code kind) ops) k.d (size k) (λ x. is_named (shown_by (get_or ((k.wires ++ made k ops kind) ++ more) x nothing)) ≡ false)
frame_hides k ops more = elim [ HEAD ↦ tt | IN ↦ tt | CON ↦ tt | XOR ↦ tt | NOT ↦ tt | REG ↦ tt | AND ↦ and_hides k ops more | REF ↦ tt | OUT ↦ tt ]
