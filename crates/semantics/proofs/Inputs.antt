-- In a circuit of frames, the number of an IN wire's share is the number of IN wires before it: the shares are numbered in the order of their wires.
use mathlib.Core.Path.{◌≡◌, refl, sym, ap, ap₂, subst, ◌∙◌}
use mathlib.Core.Bool.{true, false}
use mathlib.Core.List.{List, [], ◌∷◌, ◌++◌, map}
use Prim.Native.Nat.{ℕ, ◌+◌, ◌*◌, ◌<◌}
use native.Mathlib.Omega.{arith}
use lib.ListN.{length, take, length-append}
use Rattle.circuit.specs.Lists.{nth}
use Rattle.circuit.specs.Wires.{Gate, input, named, inner, Wire, ◌placed◌}
use Rattle.circuit.specs.Gadgets.{Part, r, R, B, m, M, u, U, v, V', w, W, c, s, S, labels, gate, delay, index, gadget}
use Rattle.circuit.specs.Kinds.{Kind, HEAD, IN, CON, XOR, NOT, REG, AND, REF, OUT, shape}
use Rattle.circuit.specs.Circuit.{Circuit, size, empty, made, extend}
use Rattle.circuit.specs.Composition.{Frame, build}
use Rattle.circuit.proofs.Base.{concat_map-append, AllFrom, all_append}
use Rattle.circuit.proofs.Numbered.{all_get, at_all}
use Rattle.circuit.proofs.Sizes.{labels-map}
use Rattle.semantics.specs.Clock.{is_input}
use Rattle.semantics.proofs.Solving.{gate_at}
use Rattle.semantics.proofs.Listed.{count_where, listed, listed_at, listed_lt, listed-length, listed-all, listed-none}

-- the gates of IN wires
abbrev input_gates : List Wire → List Gate
input_gates = listed is_input (λ w. w.gate)

-- n shares in a row, from number b on
abbrev Shares : (b n : ℕ) → List Gate → Type 0
Shares b n gs = (length gs ≡ n) × AllFrom (λ i g. g ≡ input i) b gs

shares-append : (n o : ℕ) (gs more : List Gate) → Shares 0 n gs → Shares n o more → Shares 0 (n + o) (gs ++ more)
shares-append n o gs more p q = (
  length-append gs more ∙ ap₂ (λ x y. x + y) p.0 q.0,
  all_append (λ i g. g ≡ input i) 0 gs more p.1 (subst (λ (b : ℕ). AllFrom (λ i g. g ≡ input i) b more) (omega (arith, p.0)) q.1),
)

-- a gadget has no IN wire
module _ (d : ℕ) (a b : ℕ → ℕ) (wire : Part → ℕ) where
  part_no_input : (p : Part) → is_input (gate d a b wire p) ≡ false
  part_no_input (r i j) = refl
  part_no_input (R i j) = refl
  part_no_input (B i) = refl
  part_no_input (m i) = refl
  part_no_input (M i) = refl
  part_no_input (u i j) = refl
  part_no_input (U i j) = refl
  part_no_input (v i j) = refl
  part_no_input (V' i j) = refl
  part_no_input (w i j) = refl
  part_no_input (W i j) = refl
  part_no_input (c i) = refl
  part_no_input (s i) = refl
  part_no_input (S i) = refl

gadget_no_input : (d first : ℕ) (a b : ℕ → ℕ) (inside : List Part) (out : ℕ → Part) (start end : ℕ) → input_gates (gadget d first a b inside out start end) ≡ []
unfolding gadget
gadget_no_input d first a b inside out start end =
    let wire : Part → ℕ = λ p. first + index p inside in
    let part : Part → Wire = λ p. gate d a b wire p placed inner (start + delay p) in
    let output : ℕ → Wire = λ i. gate d a b wire (out i) placed named i end in
    concat_map-append (map part inside) (map output (labels d)) _
    ∙ ap₂ (λ x y. x ++ y) (listed-none is_input (λ w. w.gate) part (part_no_input d a b wire) inside) (listed-none is_input (λ w. w.gate) output (λ i. part_no_input d a b wire (out i)) (labels d))

-- a frame adds the shares that follow
made-shares : (k : Circuit) (ops : List ℕ) (kind : Kind) → Shares (k.inputs * k.d) ((shape k.d kind).inputs * k.d) (input_gates (made k ops kind))
unfolding made shape
made-shares k ops HEAD = (omega arith, tt)
made-shares k ops IN = rw (listed-all is_input (λ w. w.gate) (λ i. input (k.inputs * k.d + i) placed named i (nth ops 0)) (λ i. refl) (labels k.d))
    (labels-map k.d _ ∙ omega arith, at_all (λ i g. g ≡ input i) _ (k.inputs * k.d) 0 k.d (λ i l. ap input (omega arith)))
made-shares k ops CON = (omega arith, tt)
made-shares k ops XOR = (omega arith, tt)
made-shares k ops NOT = (omega arith, tt)
made-shares k ops REG = (omega arith, tt)
made-shares k ops AND = rw gadget_no_input (omega arith, tt)
made-shares k ops REF = rw gadget_no_input (omega arith, tt)
made-shares k ops OUT = (omega arith, tt)

build-inputs : (k : Circuit) (fs : List Frame) → Shares 0 (k.inputs * k.d) (input_gates k.wires) → Shares 0 ((build k fs).inputs * (build k fs).d) (input_gates (build k fs).wires)
build-inputs k [] h = h
build-inputs k (f ∷ fs) h =
    let new = made k f.ops f.kind in
    let e : k.inputs * k.d + (shape k.d f.kind).inputs * k.d ≡ (k.inputs + (shape k.d f.kind).inputs) * k.d = omega arith in
    build-inputs (extend k f.ops f.kind) fs (rw (concat_map-append k.wires new, ← e) (shares-append _ _ (input_gates k.wires) (input_gates new) h (made-shares k f.ops f.kind)))

-- so there are as many IN wires as shares
pub input-count : (d : ℕ) (fs : List Frame) → let k = build (empty d) fs in count_where is_input k.wires ≡ k.inputs * k.d
input-count d fs = sym (listed-length is_input (λ w. w.gate) (build (empty d) fs).wires) ∙ (build-inputs (empty d) fs (omega arith, tt)).0

-- and the number of a share is the count of IN wires before its own
pub input-number : (d : ℕ) (fs : List Frame) (x : ℕ) {n : ℕ} → let k = build (empty d) fs in x < size k → gate_at k.wires x ≡ input n → count_where is_input (take x k.wires) ≡ n
input-number d fs x {n} l e =
    let k = build (empty d) fs in
    let test : is_input (gate_at k.wires x) ≡ true = rw e in
    let count = count_where is_input (take x k.wires) in
    let here = all_get (λ i g. g ≡ input i) 0 (input_gates k.wires) (input 0) (build-inputs (empty d) fs (omega arith, tt)).1 count (listed_lt is_input (λ w. w.gate) k.wires x l test) in
    let same : 0 + count ≡ n = cc (listed_at is_input (λ w. w.gate) k.wires x (input 0) l test) in
    omega arith
