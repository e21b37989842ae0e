-- The gadgets compute what they are named for: AND's outputs add up to the product of its added wires, REF's to its added wires.
use mathlib.Core.Path.{◌≡◌, refl, ap, ap₂, ◌∙◌}
use mathlib.Core.Bool.{Bool, false, not, ◌&&◌}
use mathlib.Core.List.{List, [], ◌∷◌, ◌++◌, map}
use Prim.Native.Nat.{ℕ, ◌+◌, ◌<◌}
use native.Mathlib.Omega.{arith}
use lib.Dec.{eqb, ltb}
use lib.ListN.{length}
use borrow.Author.Tests.{ltb-true}
use Rattle.circuit.specs.Lists.{◌⊕◌, nth}
use Rattle.circuit.specs.Wires.{Gate, Wire}
use Rattle.circuit.specs.Gadgets.{Part, r, R, B, m, M, u, U, v, V', w, W, c, s, S, labels, others, sorted, gate, in_and, in_ref, index}
use Rattle.circuit.specs.Kinds.{AND, REF}
use Rattle.circuit.specs.Circuit.{Circuit, size, stage_shown, new_stage, empty, made, look_up}
use Rattle.circuit.proofs.Base.{cases, no_flip, ltb_other, AllFrom}
use Rattle.circuit.proofs.Parts.{index_at, Pair, other, label_lt, others_pair, InAND, is_R, is_B, is_m, is_M, is_u, is_U, is_v, is_V, is_w, is_W, and_has, added as is-s, ref_has}
use Rattle.circuit.proofs.Building.{build-shares, gadget_parts, gadget-outputs}
use Rattle.circuit.specs.Composition.{Frame, build, frame}
use Rattle.semantics.specs.Values.{at, xor_sum, value, is_random, values_of}
use Rattle.secrecy.specs.Gadgets.{added, output}
use Rattle.secrecy.proofs.Coupled.{Values, Low}
use Rattle.secrecy.proofs.Totals.{xor_sum_ext, xor_sum-append, xor_sum-map, output as shared, multiplied, refreshed}
use Rattle.secrecy.proofs.Equations.{Meets, made-meets}

-- r(i,j) and r(j,i) are one wire
sorted_swap : (p : ℕ → ℕ → Part) (i j : ℕ) → eqb i j ≡ false → sorted p i j ≡ sorted p j i
sorted_swap p i j e = cases (ltb i j)
    (λ l. cases (ltb j i) (λ k. absurd (omega (arith, ltb-true i j l, ltb-true j i k))) (λ k. rw (l, k)))
    (λ l. rw (l, ltb_other i j e l))

-- AND, from the wire `first` on, whose wires meet their equations
module _ (d first : ℕ) (a b : ℕ → ℕ) (f : Values) (sh : List Bool) where
  -- the number and the gate of a part, and the bit r(i,j)
  abbrev wire : Part → ℕ
  wire p = first + index p (in_and d)

  abbrev gate_of : Part → Gate
  gate_of = gate d a b wire

  abbrev ρ : ℕ → ℕ → Bool
  ρ i j = f (wire (sorted r i j))

  ρ_swap : (i j : ℕ) → eqb i j ≡ false → ρ i j ≡ ρ j i
  ρ_swap i j e = ap (λ p. f (wire p)) (sorted_swap r i j e)

  module _ (inside : AllFrom (λ x p. Meets f sh x (gate_of p)) first (in_and d)) (outs : (i : ℕ) → i < d → Meets f sh (first + length (in_and d) + i) (gate_of (c i))) where
    -- the value of a part that is no random bit
    is : (p : Part) → InAND d p → is_random (gate_of p) ≡ false → f (wire p) ≡ value (gate_of p) f sh []
    is p o = index_at (λ x p. Meets f sh x (gate_of p)) first (in_and d) p (and_has d o) inside

    M_is : (i : ℕ) → i < d → f (wire (M i)) ≡ (f (a i) && f (b i))
    M_is i l = is (M i) (is_M i l) refl ∙ is (m i) (is_m i l) refl ∙ ap (λ z. f (a i) && z) (is (B i) (is_B i l) refl)

    R_is : (i j : ℕ) → Pair d i j → f (wire (sorted R i j)) ≡ ρ i j
    R_is i j o = cases (ltb i j) (λ l. rw l (is (R i j) (is_R i j o l) refl)) (λ l. rw l (is (R j i) (is_R j i (other o) (ltb_other i j o.apart l)) refl))

    U_is : (i j : ℕ) → Pair d i j → f (wire (U i j)) ≡ (not (f (a i)) && ρ i j)
    U_is i j o = is (U i j) (is_U i j o) refl ∙ is (u i j) (is_u i j o) refl ∙ ap (λ z. not (f (a i)) && z) (R_is i j o)

    W_is : (i j : ℕ) → Pair d i j → f (wire (W i j)) ≡ (f (a i) && (f (b j) ⊕ ρ i j))
    W_is i j o = is (W i j) (is_W i j o) refl ∙ is (w i j) (is_w i j o) refl
        ∙ ap (λ z. f (a i) && z) (is (V' i j) (is_V i j o) refl ∙ is (v i j) (is_v i j o) refl ∙ ap (λ z. f (b j) ⊕ z) (no_flip (ρ i j)))

    -- the output i, from the bits a, b and r
    c_is : (i : ℕ) → i < d → f (first + length (in_and d) + i) ≡ shared d ρ ρ_swap (λ i. f (a i)) (λ i. f (b i)) i
    c_is i l =
        let us = map (λ j. wire (U i j)) (others d i) in
        let ws = map (λ j. wire (W i j)) (others d i) in
        outs i l refl ∙ ap₂ (λ p q. p ⊕ q) (M_is i l) (xor_sum-append f us ws ∙ ap₂ (λ p q. p ⊕ q)
        (xor_sum-map f (λ j. wire (U i j)) (others d i) ∙ xor_sum_ext _ (λ j. not (f (a i)) && ρ i j) (others d i) (λ j k. U_is i j (others_pair d i j l k)))
        (xor_sum-map f (λ j. wire (W i j)) (others d i) ∙ xor_sum_ext _ (λ j. f (a i) && (f (b j) ⊕ ρ i j)) (others d i) (λ j k. W_is i j (others_pair d i j l k))))

    and-adds : xor_sum (map (λ i. first + length (in_and d) + i) (labels d)) f ≡ (xor_sum (map a (labels d)) f && xor_sum (map b (labels d)) f)
    and-adds = rw (xor_sum-map f (λ i. first + length (in_and d) + i) (labels d), xor_sum-map f a (labels d), xor_sum-map f b (labels d))
        (xor_sum_ext _ (shared d ρ ρ_swap (λ i. f (a i)) (λ i. f (b i))) (labels d) (λ i h. c_is i (label_lt d i h)) ∙ multiplied d ρ ρ_swap (λ i. f (a i)) (λ i. f (b i)))

-- REF, from the wire `first` on, whose wires meet their equations
module _ (d first : ℕ) (a : ℕ → ℕ) (f : Values) (sh : List Bool) where
  -- the same of REF
  abbrev ref_wire : Part → ℕ
  ref_wire p = first + index p (in_ref d)

  abbrev ref_gate : Part → Gate
  ref_gate = gate d a a ref_wire

  abbrev fresh : ℕ → ℕ → Bool
  fresh i j = f (ref_wire (sorted r i j))

  module _ (inside : AllFrom (λ x p. Meets f sh x (ref_gate p)) first (in_ref d)) (outs : (i : ℕ) → i < d → Meets f sh (first + length (in_ref d) + i) (ref_gate (S i))) where
    S_is : (i : ℕ) → i < d → f (first + length (in_ref d) + i) ≡ (f (a i) ⊕ xor_sum (others d i) (fresh i))
    S_is i l = outs i l refl ∙ index_at (λ x p. Meets f sh x (ref_gate p)) first (in_ref d) (s i) (ref_has d (is-s i l)) inside refl
        ∙ ap (λ z. f (a i) ⊕ z) (xor_sum-map f (λ j. ref_wire (sorted r i j)) (others d i))

    ref_adds : xor_sum (map (λ i. first + length (in_ref d) + i) (labels d)) f ≡ xor_sum (map a (labels d)) f
    ref_adds = rw (xor_sum-map f (λ i. first + length (in_ref d) + i) (labels d), xor_sum-map f a (labels d))
        (xor_sum_ext _ (λ i. f (a i) ⊕ xor_sum (others d i) (fresh i)) (labels d) (λ i h. S_is i (label_lt d i h))
        ∙ refreshed d fresh (λ i j e. ap (λ p. f (ref_wire p)) (sorted_swap r i j e)) (λ i. f (a i)))

-- a frame in a circuit whose gates take earlier wires: fs are its frames, k the circuit before this one
module _ (d : ℕ) (fs before after : List Frame) (ops : List ℕ) (shares tape : List Bool) (ordered : AllFrom (λ x w. Low x w.gate) 0 (build (empty d) fs).wires) where
  abbrev k : Circuit
  k = build (empty d) before

  abbrev values : List Bool
  values = values_of (build (empty d) fs).wires shares tape

  abbrev a : ℕ → ℕ
  a i = nth ops (1 + i)

  abbrev Q : ℕ → Wire → Type 0
  Q x wire = Meets (at values) shares x wire.gate

  pub product-of : fs ≡ before ++ (frame AND ops ∷ after) → added d (output d before (in_and d)) values ≡ (added d a values && added d (λ i. nth ops (1 + d + i)) values)
  unfolding made
  product-of e =
      let b : ℕ → ℕ = λ i. nth ops (1 + k.d + i) in
      let meets = made-meets d before (frame AND ops) after e ordered shares tape in
      rw (build-shares (empty d) before) at (and-adds k.d (size k) a b (at values) shares
      (gadget_parts k.d (size k) a b (in_and k.d) c (stage_shown (look_up k (nth ops (1 + k.d)))) (new_stage k ops AND) Q meets)
      (gadget-outputs k.d (size k) a b (in_and k.d) c (stage_shown (look_up k (nth ops (1 + k.d)))) (new_stage k ops AND) Q meets))

  pub refresh_of : fs ≡ before ++ (frame REF ops ∷ after) → added d (output d before (in_ref d)) values ≡ added d a values
  unfolding made
  refresh_of e =
      let meets = made-meets d before (frame REF ops) after e ordered shares tape in
      rw (build-shares (empty d) before) at (ref_adds k.d (size k) a (at values) shares
      (gadget_parts k.d (size k) a a (in_ref k.d) S (stage_shown (look_up k (nth ops 1))) (new_stage k ops REF) Q meets)
      (gadget-outputs k.d (size k) a a (in_ref k.d) S (stage_shown (look_up k (nth ops 1))) (new_stage k ops REF) Q meets))
