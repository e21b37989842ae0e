-- Document 01, "Inside the gadgets": the parts of AND and REF, in its order, with its equations.
use Rattle.std.specs.Prelude.{cond, not, List, [], ◌∷◌, ◌++◌, map, ℕ, suc, ◌+◌, ltb, eqb}
use Rattle.std.proofs.Math.Decide.{ℕ_discrete}
use Rattle.circuit.specs.Lists.{range, filter, concat_map}
use Rattle.circuit.specs.Wires.{Gate, random, reg, sum, product, and_not, named, inner, Wire, ◌placed◌}

-- the labels 0 to d−1; those above i; those other than i
abbrev pub labels : ℕ → List ℕ
labels d = range 0 d

abbrev pub above : ℕ → ℕ → List ℕ
above d i = filter (ltb i) (labels d)

abbrev pub others : ℕ → ℕ → List ℕ
others d i = filter (λ j. not (eqb i j)) (labels d)

-- the wires of AND and REF by document 01's names; capital letters are registers
pub data Part : Type 0 where
  r R : ℕ → ℕ → Part  -- for each pair i<j
  B m M : ℕ → Part  -- for each i
  u U v V' w W : ℕ → ℕ → Part  -- for each i≠j (V' is V, a letter that antt reserves)
  c : ℕ → Part  -- the outputs of AND
  s S : ℕ → Part  -- the sums and the outputs of REF
  deriving Discrete as same

-- r(i,j) = r(j,i), and so R
abbrev pub sorted : (ℕ → ℕ → Part) → ℕ → ℕ → Part
sorted p i j = cond (ltb i j) (p i j) (p j i)

-- the gate of a part, from the wires a(i) and b(i) that the gadget is given (REF: a alone) and the wires of its own parts
module _ (d : ℕ) (a b : ℕ → ℕ) (wire : Part → ℕ) where
  abbrev pub gate : Part → Gate
  -- AND; r is REF's too
  gate (r i j) = random
  gate (R i j) = reg (wire (r i j))
  gate (B i) = reg (b i)
  gate (m i) = product (a i) (wire (B i))
  gate (M i) = reg (wire (m i))
  gate (u i j) = and_not (a i) (wire (sorted R i j))
  gate (U i j) = reg (wire (u i j))
  gate (v i j) = sum (b j ∷ wire (sorted r i j) ∷ [])
  gate (V' i j) = reg (wire (v i j))
  gate (w i j) = product (a i) (wire (V' i j))
  gate (W i j) = reg (wire (w i j))
  gate (c i) = sum (wire (M i) ∷ map (λ j. wire (U i j)) (others d i) ++ map (λ j. wire (W i j)) (others d i))
  -- REF
  gate (s i) = sum (a i ∷ map (λ j. wire (sorted r i j)) (others d i))
  gate (S i) = reg (wire (s i))

-- how many clocks a part stands after b's wires (REF: after its wires)
abbrev pub delay : Part → ℕ
delay (r i j) = 0
delay (R i j) = 1
delay (B i) = 1
delay (m i) = 1
delay (M i) = 2
delay (u i j) = 1
delay (U i j) = 2
delay (v i j) = 0
delay (V' i j) = 1
delay (w i j) = 1
delay (W i j) = 2
delay (c i) = 2
delay (s i) = 0
delay (S i) = 1

-- the inner parts of AND and of REF, in the order made; the outputs come after them
unfoldable pub in_and : ℕ → List Part
in_and d = concat_map (labels d) (λ i. concat_map (above d i) (λ j. r i j ∷ R i j ∷ []))
    ++ concat_map (labels d) (λ i. B i ∷ m i ∷ M i ∷ [])
    ++ concat_map (labels d) (λ i. concat_map (others d i) (λ j. u i j ∷ U i j ∷ v i j ∷ V' i j ∷ w i j ∷ W i j ∷ []))

unfoldable pub in_ref : ℕ → List Part
in_ref d = concat_map (labels d) (λ i. concat_map (above d i) (λ j. r i j ∷ [])) ++ map s (labels d)

-- where a part first stands on a list
unfoldable pub index : Part → List Part → ℕ
unfolding ℕ_discrete
index p [] = 0
index p (q ∷ qs) = elim (same ℕ_discrete p q) [ yes _ ↦ 0 | no _ ↦ suc (index p qs) ]

-- the wires of a gadget, numbered from `first` on: its inner parts, then its outputs. `start` is the stage of b's wires
-- (REF: of its wires), `end` that of the outputs
unfoldable pub gadget : (d first : ℕ) (a b : ℕ → ℕ) → List Part → (ℕ → Part) → (start end : ℕ) → List Wire
gadget d first a b inside out start end =
    let g : Part → Gate = gate d a b (λ p. first + index p inside) in
    map (λ p. g p placed inner (start + delay p)) inside ++ map (λ i. g (out i) placed named i end) (labels d)
