-- The values of a circuit meet its equations: each wire has the value of its gate, from the values of all and the tape from the
-- random bits before it on.
use mathlib.Core.Path.{◌≡◌, refl, sym, ap, ap₂, subst, ◌∙◌}
use mathlib.Core.Bool.{Bool, true, false, cond, not, ◌&&◌}
use mathlib.Core.List.{List, [], ◌∷◌, ◌++◌}
use Prim.Native.Nat.{ℕ, zero, suc, ◌+◌, ◌<◌}
use native.Mathlib.Nat.{zero-add}
use native.Mathlib.Numerals.{add-one}
use native.Mathlib.Omega.{arith}
use lib.ListN.{length, get_or, take, drop, length-append, get_or-append}
use lib.Seq.{drop-drop, take-suc, get_or-append-add}
use Rattle.circuit.specs.Lists.{◌⊕◌}
use Rattle.circuit.specs.Wires.{Gate, input, constant, random, reg, inverse, sum, product, and_not, inner, Wire, ◌placed◌}
use Rattle.circuit.proofs.Base.{Every, every_imp, AllFrom}
use Rattle.semantics.specs.Values.{at, xor_sum, value, is_random, values_from, values_of}
use Rattle.semantics.specs.Probes.{operands}
use Rattle.semantics.proofs.Randoms.{randoms_in, randoms-append}
use Rattle.semantics.proofs.Earlier.{OperandsBefore}

-- the gate of a wire; a constant, where there is no such wire
abbrev pub nothing : Wire
nothing = constant false placed inner 0

abbrev pub gate_at : List Wire → ℕ → Gate
gate_at ws x = (get_or ws x nothing).gate

-- from wire n on, every gate takes earlier wires
abbrev pub OrderedFrom : ℕ → List Wire → Type 0
OrderedFrom n ws = AllFrom (λ x wire. OperandsBefore x wire.gate) n ws

-- a gate's value depends on the values of the wires it takes alone
xor_sum-same : (f g : ℕ → Bool) (xs : List ℕ) → Every (λ y. f y ≡ g y) xs → xor_sum xs f ≡ xor_sum xs g
xor_sum-same f g [] h = refl
xor_sum-same f g (x ∷ xs) h = ap₂ (λ p q. p ⊕ q) h.0 (xor_sum-same f g xs h.1)

pub value_same : (g : Gate) (f f' : ℕ → Bool) (shares tape : List Bool) → Every (λ y. f y ≡ f' y) (operands g) → value g f shares tape ≡ value g f' shares tape
value_same (input n) f f' shares tape h = refl
value_same (constant b) f f' shares tape h = refl
value_same random f f' shares tape h = refl
value_same (reg x) f f' shares tape h = h.0
value_same (inverse x) f f' shares tape h = ap not h.0
value_same (sum xs) f f' shares tape h = xor_sum-same f f' xs h
value_same (product x y) f f' shares tape h = ap₂ (λ p q. p && q) h.0 h.1.0
value_same (and_not x y) f f' shares tape h = ap₂ (λ p q. not p && q) h.0 h.1.0

module _ (sh : List Bool) where
  -- the values that are there stay
  before_same : (ws : List Wire) (t before : List Bool) (x : ℕ) → x < length before → at (values_from sh t before ws) x ≡ at before x
  before_same [] t before x l = refl
  before_same (w ∷ ws) t before x l =
      let b = value w.gate (at before) sh t in
      before_same ws (cond (is_random w.gate) (drop 1 t) t) (before ++ (b ∷ [])) x (omega (arith, length-append before (b ∷ [])))
      ∙ get_or-append before (b ∷ []) false x l

  wire-value : (ws : List Wire) (t before : List Bool) → OrderedFrom (length before) ws → (i : ℕ) → i < length ws
      → let f = at (values_from sh t before ws) in f (length before + i) ≡ value (gate_at ws i) f sh (drop (randoms_in (take i ws)) t)
  wire-value [] t before h i l = absurd (omega arith)
  wire-value (w ∷ ws) t before h zero l =
      let b = value w.gate (at before) sh t in
      let rest = cond (is_random w.gate) (drop 1 t) t in
      let f : ℕ → Bool = at (values_from sh rest (before ++ (b ∷ [])) ws) in
      let n = length-append before (b ∷ []) in
      before_same ws rest (before ++ (b ∷ [])) (length before + 0) (omega (arith, n)) ∙ get_or-append-add before (b ∷ []) 0 false
      ∙ value_same w.gate (at before) f sh t (every_imp (λ y. y < length before) (λ y. at before y ≡ f y) (operands w.gate)
      (λ y k. sym (before_same (w ∷ ws) t before y k)) h.0)
  wire-value (w ∷ ws) t before h (suc i) l =
      let b = value w.gate (at before) sh t in
      let rest = cond (is_random w.gate) (drop 1 t) t in
      let f : ℕ → Bool = at (values_from sh rest (before ++ (b ∷ [])) ws) in
      let n : length (before ++ (b ∷ [])) ≡ suc (length before) = length-append before (b ∷ []) ∙ omega arith in
      let e : length before + suc i ≡ suc (length before) + i = omega arith in
      let ih = wire-value ws rest (before ++ (b ∷ [])) (subst (λ (m : ℕ). OrderedFrom m ws) (sym n) h.1) i (omega arith) in
      ap f (e ∙ ap (λ (m : ℕ). m + i) (sym n)) ∙ ih ∙ ap (value (gate_at ws i) f sh) (left (is_random w.gate) (randoms_in (take i ws)))
    where
      left : (r : Bool) (m : ℕ) → drop m (cond r (drop 1 t) t) ≡ drop (cond r (suc m) m) t
      left true m = let e : 1 + m ≡ suc m = omega arith in drop-drop m 1 t ∙ ap (λ k. drop k t) e
      left false m = refl

  pub solved : (ws : List Wire) (t : List Bool) → OrderedFrom 0 ws → (x : ℕ) → x < length ws
      → let f = at (values_of ws sh t) in f x ≡ value (gate_at ws x) f sh (drop (randoms_in (take x ws)) t)
  solved ws t h x l = simp zero-add at (wire-value ws t [] h x l)

-- the random bits before the next wire
pub rank-next : (ws : List Wire) (x : ℕ) {g : Gate} → x < length ws → gate_at ws x ≡ g → randoms_in (take (x + 1) ws) ≡ randoms_in (take x ws) + cond (is_random g) 1 0
rank-next ws x l e = rw (add-one, take-suc ws x nothing, randoms-append, e)
