-- Words multiplied and added: an output of AND is the product of a(i) and the added b, with its random bits added.
use mathlib.Core.Path.{◌≡◌, refl, sym, ap, ap₂, fun_ext, ◌∙◌}
use mathlib.Core.Bool.{Bool, true, false, ◌&&◌}
use mathlib.Core.List.{List, [], ◌∷◌, ◌++◌}
use Prim.Native.Nat.{ℕ, zero, suc, ◌+◌, ◌*◌, ◌-◌, ◌/◌, ◌%◌, min, ◌<◌}
use native.Mathlib.Omega.{arith}
use lib.Arith.{bin_ind}
use lib.Bits.{bit_and, bit_xor, differ, and_step, xor_step, and_shr, xor_shr, xor_comm, and_zero_r}
use Rattle.circuit.specs.Lists.{◌⊕◌, range}
use Rattle.circuit.specs.Gadgets.{others}
use Rattle.gadgets.proofs.Ranges.{range_split, range_turn, others-split}
use Rattle.simulation.specs.Internal.Filling.{Values, word_sum, crossing}
use Rattle.simulation.specs.Internal.Evaluating.{packed}
use Rattle.simulation.proofs.Adding.{low, xor_assoc, word_sum-append, word_sum_ext, word_sum-xor}
use Rattle.simulation.proofs.Packing.{packed-xor, packed-and}

-- a product of a sum
digit_over : (x y z : ℕ) → x < 2 → y < 2 → z < 2 → min x (differ y z) ≡ differ (min x y) (min x z)
digit_over zero zero zero h k l = refl
digit_over zero zero (suc zero) h k l = refl
digit_over zero zero (suc (suc z)) h k l = absurd (omega arith)
digit_over zero (suc zero) zero h k l = refl
digit_over zero (suc zero) (suc zero) h k l = refl
digit_over zero (suc zero) (suc (suc z)) h k l = absurd (omega arith)
digit_over zero (suc (suc y)) z h k l = absurd (omega arith)
digit_over (suc zero) zero zero h k l = refl
digit_over (suc zero) zero (suc zero) h k l = refl
digit_over (suc zero) zero (suc (suc z)) h k l = absurd (omega arith)
digit_over (suc zero) (suc zero) zero h k l = refl
digit_over (suc zero) (suc zero) (suc zero) h k l = refl
digit_over (suc zero) (suc zero) (suc (suc z)) h k l = absurd (omega arith)
digit_over (suc zero) (suc (suc y)) z h k l = absurd (omega arith)
digit_over (suc (suc x)) y z h k l = absurd (omega arith)

and_low : (a b : ℕ) → bit_and a b % 2 ≡ min (a % 2) (b % 2)
and_low a b = omega (arith, and_step a b)

pub and_over : (a b e : ℕ) → bit_and a (bit_xor b e) ≡ bit_xor (bit_and a b) (bit_and a e)
and_over = bin_ind (λ (a : ℕ). (b e : ℕ) → bit_and a (bit_xor b e) ≡ bit_xor (bit_and a b) (bit_and a e)) (λ b e. refl) (λ a same b e.
    and_step a (bit_xor b e)
    ∙ ap₂ (λ (x y : ℕ). x * 2 + y)
    (rw (xor_shr b e 1, and_shr a b 1, and_shr a e 1) (same (b / 2) (e / 2)))
    (rw (low b e, and_low a b, and_low a e) (digit_over (a % 2) (b % 2) (e % 2) (omega arith) (omega arith) (omega arith)))
    ∙ sym (xor_step (bit_and a b) (bit_and a e)))

pub and-sum : (a : ℕ) (f : Values) (xs : List ℕ) → bit_and a (word_sum xs f) ≡ word_sum xs (λ x. bit_and a (f x))
and-sum a f [] = and_zero_r a
and-sum a f (x ∷ xs) = and_over a (f x) (word_sum xs f) ∙ ap (bit_xor (bit_and a (f x))) (and-sum a f xs)

-- the sum over all shares is that of one and the others
pub one-and-others : (d i : ℕ) (f : Values) → i < d → word_sum (range 0 d) f ≡ bit_xor (f i) (word_sum (others d i) f)
one-and-others d i f l =
    let lower = range 0 (i - 0) in
    let upper = range (i + 1) (d - (i + 1)) in
    let X = word_sum lower f in
    let Y = word_sum upper f in
    let e : d ≡ i - 0 + (d - i) = omega arith in
    let z : 0 + (i - 0) ≡ i = omega arith in
    ap (λ n. word_sum (range 0 n) f) e ∙ ap (λ r. word_sum r f) (range_split 0 (i - 0) (d - i) ∙ ap (λ n. lower ++ range n (d - i)) z ∙ ap (λ r. lower ++ r) (range_turn d i l))
    ∙ word_sum-append f lower (i ∷ upper) ∙ sym (xor_assoc X (f i) Y) ∙ ap (λ w. bit_xor w Y) (xor_comm X (f i)) ∙ xor_assoc (f i) X Y
    ∙ ap (bit_xor (f i)) (sym (ap (λ r. word_sum r f) (others-split d i l) ∙ word_sum-append f lower upper))

-- u + w, where every word has a bit for each of n evaluations
crossed : (a b r : Bool) → (((true ⊕ a) && r) ⊕ (a && (b ⊕ r))) ≡ ((a && b) ⊕ r)
crossed true true true = refl
crossed true true false = refl
crossed true false true = refl
crossed true false false = refl
crossed false b true = refl
crossed false b false = refl

pub crossing_is : (n : ℕ) (a b r : ℕ → Bool) → crossing (packed n (λ l. true)) (packed n a) (packed n b) (packed n r) ≡ bit_xor (bit_and (packed n a) (packed n b)) (packed n r)
crossing_is n a b r =
    rw (
      ← packed-xor n (λ l. true) a,
      ← packed-and n (λ l. true ⊕ a l) r,
      ← packed-xor n b r,
      ← packed-and n a (λ l. b l ⊕ r l),
      ← packed-and n a b,
      ← packed-xor n (λ l. (true ⊕ a l) && r l) (λ l. a l && (b l ⊕ r l)),
      ← packed-xor n (λ l. a l && b l) r,
    )
    (ap (packed n) (fun_ext (λ l. crossed (a l) (b l) (r l))))

-- an output, from words of a(i), b and the random bits
pub output-is : (n d i : ℕ) (a : ℕ → Bool) (b r : ℕ → ℕ → Bool) → i < d
    → bit_xor (bit_and (packed n a) (packed n (b i))) (word_sum (others d i) (λ j. crossing (packed n (λ l. true)) (packed n a) (packed n (b j)) (packed n (r j))))
    ≡ bit_xor (bit_and (packed n a) (word_sum (range 0 d) (λ j. packed n (b j)))) (word_sum (others d i) (λ j. packed n (r j)))
output-is n d i a b r l =
    let A = packed n a in
    let B : Values = λ j. packed n (b j) in
    let R : Values = λ j. packed n (r j) in
    let P : Values = λ j. bit_and A (B j) in
    ap (bit_xor (P i)) (word_sum_ext _ (λ j. bit_xor (P j) (R j)) (others d i) (λ j h. crossing_is n a (b j) (r j)) ∙ word_sum-xor P R (others d i))
    ∙ sym (xor_assoc (P i) (word_sum (others d i) P) (word_sum (others d i) R))
    ∙ ap (λ w. bit_xor w (word_sum (others d i) R)) (sym (and-sum A B (range 0 d) ∙ one-and-others d i P l))
