-- How many random bits each kind takes: the numbers of document 01's table.
use mathlib.Core.Path.{◌≡◌, refl, ap, ap₂, ◌∙◌}
use mathlib.Core.Bool.{false, cond}
use mathlib.Core.List.{List, [], ◌∷◌, ◌++◌, map, map-append}
use Prim.Native.Nat.{ℕ, suc, ◌+◌}
use native.Mathlib.Omega.{arith}
use Rattle.circuit.specs.Wires.{Gate, Wire, named, inner, ◌placed◌}
use Rattle.circuit.specs.Gadgets.{Part, c, s, S, labels, gate, delay, index, gadget}
use Rattle.circuit.specs.Kinds.{Kind, HEAD, IN, CON, XOR, NOT, REG, AND, REF, OUT, shape}
use Rattle.circuit.specs.Circuit.{Circuit, size, made, extend}
use Rattle.circuit.proofs.Base.{cases}
use Rattle.circuit.proofs.Sizes.{of_and, of_ref}
use Rattle.circuit.specs.Composition.{Frame, build}
use Rattle.semantics.specs.Values.{is_random}

-- the number of random gates among wires
abbrev pub randoms_in : List Wire → ℕ
randoms_in [] = 0
randoms_in (x ∷ xs) = cond (is_random x.gate) (suc (randoms_in xs)) (randoms_in xs)

pub randoms-append : (xs ys : List Wire) → randoms_in (xs ++ ys) ≡ randoms_in xs + randoms_in ys
randoms-append [] ys = omega arith
randoms-append (x ∷ xs) ys = cases (is_random x.gate) (λ e. rw e (omega (arith, randoms-append xs ys))) (λ e. rw e (randoms-append xs ys))

-- wires none of which is random
dry : {A : Type 0} (f : A → Wire) → ((i : A) → is_random (f i).gate ≡ false) → (is : List A) → randoms_in (map f is) ≡ 0
dry f h [] = refl
dry f h (i ∷ is) = rw (h i) (dry f h is)

module _ (d first : ℕ) (a b : ℕ → ℕ) (inside : List Part) (start end : ℕ) where
  abbrev gate_of : Part → Gate
  gate_of = gate d a b (λ p. first + index p inside)

  abbrev drawn : List Part → ℕ
  drawn ps = randoms_in (map (λ p. gate_of p placed inner (start + delay p)) ps)

  drawn-append : (xs ys : List Part) → drawn (xs ++ ys) ≡ drawn xs + drawn ys
  drawn-append xs ys = ap randoms_in (map-append (λ p. gate_of p placed inner (start + delay p)) xs ys)
      ∙ randoms-append (map (λ p. gate_of p placed inner (start + delay p)) xs) (map (λ p. gate_of p placed inner (start + delay p)) ys)

  gadget-drawn : (out : ℕ → Part) → ((i : ℕ) → is_random (gate_of (out i)) ≡ false) → randoms_in (gadget d first a b inside out start end) ≡ drawn inside
  unfolding gadget
  gadget-drawn out h = omega (
    arith,
    randoms-append (map (λ p. gate_of p placed inner (start + delay p)) inside) (map (λ i. gate_of (out i) placed named i end) (labels d)),
    dry (λ i. gate_of (out i) placed named i end) h (labels d),
  )

  drawn-sums : (is : List ℕ) → drawn (map s is) ≡ 0
  drawn-sums [] = refl
  drawn-sums (i ∷ is) = drawn-sums is

-- every kind makes as many random bits as the table says
pub made-randoms : (k : Circuit) (ops : List ℕ) (kind : Kind) → randoms_in (made k ops kind) ≡ (shape k.d kind).randoms
unfolding made shape
made-randoms k ops HEAD = refl
made-randoms k ops IN = dry _ (λ i. refl) (labels k.d)
made-randoms k ops CON = refl
made-randoms k ops XOR = refl
made-randoms k ops NOT = refl
made-randoms k ops REG = refl
made-randoms k ops AND = gadget-drawn k.d (size k) _ _ _ _ _ c (λ i. refl)
    ∙ of_and (drawn k.d (size k) _ _ _ _ 0) refl (drawn-append k.d (size k) _ _ _ _ 0) k.d 1 0 0 (λ i j. refl) (λ i. refl) (λ i j. refl) ∙ omega arith
made-randoms k ops REF = gadget-drawn k.d (size k) _ _ _ _ _ S (λ i. refl)
    ∙ of_ref (drawn k.d (size k) _ _ _ _ 0) refl (drawn-append k.d (size k) _ _ _ _ 0) k.d 1 0 (λ i j. refl) (drawn-sums k.d (size k) _ _ _ _ 0 (labels k.d)) ∙ omega arith
made-randoms k ops OUT = refl

-- a circuit has as many random gates as it counts
pub build-randoms : (k : Circuit) (fs : List Frame) → randoms_in k.wires ≡ k.randoms → randoms_in (build k fs).wires ≡ (build k fs).randoms
build-randoms k [] h = h
build-randoms k (f ∷ fs) h = build-randoms (extend k f.ops f.kind) fs
    (randoms-append k.wires (made k f.ops f.kind) ∙ ap₂ (λ x y. x + y) h (made-randoms k f.ops f.kind))
