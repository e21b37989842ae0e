-- A term stands for a wire of AND where the word of the wire is what the term's sums give, variables having words of their own.
use mathlib.Core.Path.{◌≡◌, refl, sym, ap, ap₂, ◌∙◌}
use mathlib.Core.Bool.{Bool, true}
use mathlib.Core.List.{List, map}
use Prim.Native.Nat.{ℕ, zero, suc, ◌+◌, ◌*◌, ◌-◌, ◌/◌, ◌%◌, ◌^◌, ◌≤◌, ◌<◌}
use native.Mathlib.Omega.{arith}
use lib.Bits.{bit_and, bit_xor, xor_zero_r}
use lib.Dec.{ltb}
use lib.ListN.{get_or, get_or-map}
use borrow.Author.Tests.{ltb-true, ltb-false}
use Rattle.circuit.specs.Lists.{nth, range}
use Rattle.circuit.specs.Gadgets.{others}
use Rattle.circuit.specs.Kinds.{pairs}
use Rattle.circuit.proofs.Base.{cases}
use Rattle.circuit.proofs.Parts.{label_lt}
use Rattle.circuit.proofs.Sizes.{pairs_twice}
use Rattle.gadgets.specs.Internal.Places.{word_a, word_b, pair_site, pair_at, product_at, cross_start, cross_at, out_at, mask_at}
use Rattle.gadgets.proofs.Sites.{pair_lt}
use Rattle.simulation.specs.Internal.Filling.{Values, AndValues}
use Rattle.simulation.specs.Internal.Evaluating.{packed}
use Rattle.simulation.proofs.Adding.{word_sum_ext}
use Rattle.simulation.proofs.Equations.{apart}
use Rattle.symbolic.specs.declared.gadget.Term.{Term}
use Rattle.symbolic.specs.Internal.Sums.{added}
use Rattle.symbolic.specs.Internal.Inside.{product_wire, cross_wire}
use Rattle.symbolic.specs.Internal.Terms.{one, alone, times, sum_with, wire_term, inner_term, output_term}
use Rattle.symbolic.proofs.Masks.{added_none, added-xor, added-sum, added-one}
use Rattle.symbolic.proofs.Products.{output-is}
use Rattle.symbolic.proofs.Inside.{decoded, inner_mask, inner-share, inner_pair}

-- the word of a term
abbrev pub term_value : Values → Term → ℕ
term_value f t = bit_xor (bit_and (added t.one f) (added t.other f)) (added t.more f)

-- and of its product, which is a variable's where the term is the sum with that variable
abbrev pub product_value : Values → Term → ℕ
product_value f t = bit_and (added t.one f) (added t.other f)

pub term-sum : (f : Values) (s : ℕ) (t : Term) → s < 64 → f s ≡ product_value f t → term_value f t ≡ added (sum_with s t) f
term-sum f s t l e = ap (λ x. bit_xor x (added t.more f)) (sym e ∙ sym (added-one 64 s f l)) ∙ sym (added-xor 64 (2 ^ s) t.more f)

alone-value : (f : Values) (m : ℕ) → term_value f (alone m) ≡ added m f
alone-value f m = ap (λ x. bit_xor (bit_and x x) (added m f)) (added_none 64 f)

times-value : (f : Values) (x y : ℕ) → term_value f (times x y) ≡ bit_and (added x f) (added y f)
times-value f x y = ap (bit_xor (bit_and (added x f) (added y f))) (added_none 64 f) ∙ xor_zero_r _

-- words of a list of sums
pub words-at : (f : Values) (sums : List ℕ) (i : ℕ) → nth (map (λ m. added m f) sums) i ≡ added (nth sums i) f
words-at f sums i = ap (get_or (map (λ m. added m f) sums) i) (sym (added_none 64 f)) ∙ get_or-map (λ m. added m f) sums i 0

-- the word of the sum that is 1
pub one-is : (f : Values) → added one f ≡ f 17
one-is f = added-one 64 17 f (omega arith)

-- n evaluations at once; g has the bit of each wire in each of them
module _ (n : ℕ) (g : ℕ → ℕ → Bool) (f : Values) (full : f 17 ≡ packed n (λ l. true)) where
  abbrev v : Values
  v x = packed n (λ l. g l x)

  abbrev ones : ℕ
  ones = packed n (λ l. true)

  module _ (d first : ℕ) (ops sums tape : List ℕ) (used : ℕ) (w : AndValues ones d first (word_a ops) (word_b d ops) (map (λ m. added m f) tape) used v)
      (is-a : (i : ℕ) → i < d → v (word_a ops i) ≡ added (nth sums (word_a ops i)) f) (is_b : (i : ℕ) → i < d → v (word_b d ops i) ≡ added (nth sums (word_b d ops i)) f) where
    abbrev a : ℕ → ℕ
    a = word_a ops

    abbrev b : ℕ → ℕ
    b = word_b d ops

    mask_is : (i j : ℕ) → i < d → j < d → (j ≡ i → ⊥) → v (pair_at d first i j) ≡ added (nth tape (mask_at d used i j)) f
    mask_is i j l k ne = (w.drawn (pair_site d i j) (pair_lt d i j l k ne)).0 ∙ words-at f tape (mask_at d used i j)

    pub output-right : (i : ℕ) → i < d → v (out_at d first i) ≡ term_value f (output_term d ops sums tape used i)
    output-right i l =
        w.multiplied.out i l
        ∙ ap₂ bit_xor (w.products i l).2 (word_sum_ext _ _ (others d i) (λ j h. let (k, ne) = apart d i j l h in rw (w.products j k).0))
        ∙ output-is n d i (λ e. g e (a i)) (λ j e. g e (b j)) (λ j e. g e (pair_at d first i j)) l
        ∙ sym (ap₂ bit_xor (ap₂ bit_and (sym (is-a i l))
        (added-sum 64 (λ j. nth sums (b j)) f (range 0 d) ∙ word_sum_ext _ (λ j. v (b j)) (range 0 d) (λ j h. sym (is_b j (label_lt d j h)))))
        (added-sum 64 (λ j. nth tape (mask_at d used i j)) f (others d i)
        ∙ word_sum_ext _ (λ j. v (pair_at d first i j)) (others d i) (λ j h. let (k, ne) = apart d i j l h in sym (mask_is i j l k ne))))

    -- r and R
    drawn-right : (o : ℕ) → o < d * (d - 1) → v (first + o) ≡ term_value f (alone (nth tape (used + o / 2)))
    drawn-right o l =
        let q = o / 2 in
        let h : q < pairs d = omega (arith, pairs_twice d) in
        part (o % 2) refl (w.drawn q h) ∙ words-at f tape (used + q) ∙ sym (alone-value f _)
      where
        part : (r : ℕ) → o % 2 ≡ r → (v (first + 2 * (o / 2)) ≡ nth (map (λ m. added m f) tape) (used + o / 2))
            × (v (first + 2 * (o / 2) + 1) ≡ nth (map (λ m. added m f) tape) (used + o / 2)) → v (first + o) ≡ nth (map (λ m. added m f) tape) (used + o / 2)
        part zero e p = let z : first + o ≡ first + 2 * (o / 2) = omega arith in ap v z ∙ p.0
        part (suc zero) e p = let z : first + o ≡ first + 2 * (o / 2) + 1 = omega arith in ap v z ∙ p.1
        part (suc (suc r)) e p = absurd (omega arith)

    -- B, m and M
    share-right : (i part : ℕ) → i < d → part < 3 → v (product_at d first i + part) ≡ term_value f (wire_term d ops sums tape used (product_wire i part))
    share-right i zero l h = (let z : product_at d first i + 0 ≡ product_at d first i = omega arith in ap v z) ∙ (w.products i l).0 ∙ is_b i l ∙ sym (alone-value f _)
    share-right i (suc zero) l h = (w.products i l).1 ∙ ap₂ bit_and (is-a i l) (is_b i l) ∙ sym (times-value f _ _)
    share-right i (suc (suc zero)) l h = (w.products i l).2 ∙ ap₂ bit_and (is-a i l) (is_b i l) ∙ sym (times-value f _ _)
    share-right i (suc (suc (suc p))) l h = absurd (omega arith)

    -- u, U, v, V, w and W
    module _ (i j : ℕ) (l : i < d) (k : j < d) (ne : j ≡ i → ⊥) where
      abbrev α : ℕ
      α = nth sums (a i)

      abbrev β : ℕ
      β = nth sums (b j)

      abbrev ρ : ℕ
      ρ = nth tape (mask_at d used i j)

      is_u : bit_and (bit_xor ones (v (a i))) (v (pair_at d first i j)) ≡ term_value f (times (bit_xor one α) ρ)
      is_u = ap₂ bit_and (ap₂ bit_xor (sym full ∙ sym (one-is f)) (is-a i l) ∙ sym (added-xor 64 one α f)) (mask_is i j l k ne) ∙ sym (times-value f _ _)

      is_sum : bit_xor (v (product_at d first j)) (v (pair_at d first i j)) ≡ added (bit_xor β ρ) f
      is_sum = ap₂ bit_xor ((w.products j k).0 ∙ is_b j k) (mask_is i j l k ne) ∙ sym (added-xor 64 β ρ f)

      is_w : bit_and (v (a i)) (bit_xor (v (product_at d first j)) (v (pair_at d first i j))) ≡ term_value f (times α (bit_xor β ρ))
      is_w = ap₂ bit_and (is-a i l) is_sum ∙ sym (times-value f _ _)

      pair_right : (part : ℕ) → part < 6 → v (cross_at d first i j + part) ≡ term_value f (wire_term d ops sums tape used (cross_wire i j part))
      pair_right zero h = (let z : cross_at d first i j + 0 ≡ cross_at d first i j = omega arith in ap v z) ∙ (w.multiplied.crossed i l j k ne).0 ∙ is_u
      pair_right (suc zero) h = (w.multiplied.crossed i l j k ne).1 ∙ is_u
      pair_right (suc (suc zero)) h = (w.multiplied.crossed i l j k ne).2 ∙ is_sum ∙ sym (alone-value f _)
      pair_right (suc (suc (suc zero))) h = (w.multiplied.crossed i l j k ne).3 ∙ is_sum ∙ sym (alone-value f _)
      pair_right (suc (suc (suc (suc zero)))) h = (w.multiplied.crossed i l j k ne).4 ∙ is_w
      pair_right (suc (suc (suc (suc (suc zero))))) h = (w.multiplied.crossed i l j k ne).5 ∙ is_w
      pair_right (suc (suc (suc (suc (suc (suc p)))))) h = absurd (omega arith)

    pub inner-right : (o : ℕ) → 2 ≤ d → o < cross_start d d → v (first + o) ≡ term_value f (inner_term d ops sums tape used o)
    inner-right o two h = cases (ltb o (d * (d - 1)))
        (λ e. let l = ltb-true o (d * (d - 1)) e in drawn-right o l ∙ ap (λ w. term_value f (wire_term d ops sums tape used w)) (sym (inner_mask d o l)))
        (λ e. let l = ltb-false o (d * (d - 1)) e in cases (ltb o (d * (d - 1) + 3 * d))
        (λ e'. let u = ltb-true o (d * (d - 1) + 3 * d) e' in
        let p = o - d * (d - 1) in
        let z : first + o ≡ product_at d first (p / 3) + p % 3 = omega arith in
        ap v z ∙ share-right (p / 3) (p % 3) (omega arith) (omega arith) ∙ ap (λ w. term_value f (wire_term d ops sums tape used w)) (sym (inner-share d o l u)))
        (λ e'. let u = ltb-false o (d * (d - 1) + 3 * d) e' in
        let p = o - (d * (d - 1) + 3 * d) in
        let t = decoded d first p two (omega arith) in
        let z : first + o ≡ first + cross_start d 0 + p = omega arith in
        ap v (z ∙ t.place) ∙ pair_right _ _ t.few t.other t.apart _ (omega arith) ∙ ap (λ w. term_value f (wire_term d ops sums tape used w)) (sym (inner_pair d o u))))
