-- Sums modulo 2 of words, bit by bit: what is added so far, and what is left.
use mathlib.Core.Path.{◌≡◌, refl, sym, ap, ap₂, ◌∙◌}
use mathlib.Core.List.{List, [], ◌∷◌, ◌++◌, map}
use Prim.Native.Nat.{ℕ, zero, suc, ◌+◌, ◌-◌, ◌*◌, ◌/◌, ◌%◌, ◌≤◌, ◌<◌}
use native.Mathlib.Nat.{sub-zero}
use native.Mathlib.Omega.{arith}
use lib.Dec.{eqb}
use mathlib.Core.Bool.{not}
use borrow.Author.Tests.{ne_eqb}
use lib.Arith.{bin_ind}
use lib.Bits.{bit_xor, differ, xor_step, xor_comm, xor_zero_r, xor_shr}
use Rattle.circuit.specs.Lists.{range, filter}
use Rattle.circuit.specs.Gadgets.{others}
use Rattle.circuit.proofs.Base.{In, in_head, in_tail, eqb_sym, eqb_refl}
use Rattle.gadgets.proofs.Ranges.{range_turn, range_end, others-split}
use Rattle.simulation.specs.Internal.Filling.{Values, word_sum}

-- the sum of two digits is one, and it does not matter in which order three are added
pub digit : (x y : ℕ) → x < 2 → y < 2 → differ x y < 2
digit zero y h k = k
digit (suc zero) zero h k = h
digit (suc zero) (suc zero) h k = omega arith
digit (suc zero) (suc (suc y)) h k = absurd (omega arith)
digit (suc (suc x)) y h k = absurd (omega arith)

digit_assoc : (x y z : ℕ) → x < 2 → y < 2 → z < 2 → differ (differ x y) z ≡ differ x (differ y z)
digit_assoc zero y z h k l = refl
digit_assoc (suc zero) zero z h k l = refl
digit_assoc (suc zero) (suc zero) zero h k l = refl
digit_assoc (suc zero) (suc zero) (suc zero) h k l = refl
digit_assoc (suc zero) (suc zero) (suc (suc z)) h k l = absurd (omega arith)
digit_assoc (suc zero) (suc (suc y)) z h k l = absurd (omega arith)
digit_assoc (suc (suc x)) y z h k l = absurd (omega arith)

pub low : (a b : ℕ) → bit_xor a b % 2 ≡ differ (a % 2) (b % 2)
low a b = omega (arith, xor_step a b, digit (a % 2) (b % 2) (omega arith) (omega arith))

pub xor_assoc : (a b e : ℕ) → bit_xor (bit_xor a b) e ≡ bit_xor a (bit_xor b e)
xor_assoc = bin_ind (λ (a : ℕ). (b e : ℕ) → bit_xor (bit_xor a b) e ≡ bit_xor a (bit_xor b e)) (λ b e. refl) (λ a same b e.
    xor_step (bit_xor a b) e
    ∙ ap₂ (λ (x y : ℕ). x * 2 + y)
    (rw (xor_shr a b 1, xor_shr b e 1) (same (b / 2) (e / 2)))
    (rw (low a b, low b e) (digit_assoc (a % 2) (b % 2) (e % 2) (omega arith) (omega arith) (omega arith)))
    ∙ sym (xor_step a (bit_xor b e)))

-- sums of many
pub word_sum_ext : (f g : Values) (xs : List ℕ) → ((i : ℕ) → In i xs → f i ≡ g i) → word_sum xs f ≡ word_sum xs g
word_sum_ext f g [] h = refl
word_sum_ext f g (x ∷ xs) h = ap₂ bit_xor (h x (in_head x xs)) (word_sum_ext f g xs (λ i k. h i (in_tail i x xs k)))

pub word_sum-append : (f : Values) (xs ys : List ℕ) → word_sum (xs ++ ys) f ≡ bit_xor (word_sum xs f) (word_sum ys f)
word_sum-append f [] ys = refl
word_sum-append f (x ∷ xs) ys = ap (bit_xor (f x)) (word_sum-append f xs ys) ∙ sym (xor_assoc (f x) (word_sum xs f) (word_sum ys f))

pub word_sum-map : (f : Values) (g : ℕ → ℕ) (xs : List ℕ) → word_sum (map g xs) f ≡ word_sum xs (λ i. f (g i))
word_sum-map f g [] = refl
word_sum-map f g (x ∷ xs) = ap (bit_xor (f (g x))) (word_sum-map f g xs)

-- (a + b) + (e + h) = (a + e) + (b + h)
pub middle : (a b e h : ℕ) → bit_xor (bit_xor a b) (bit_xor e h) ≡ bit_xor (bit_xor a e) (bit_xor b h)
middle a b e h = xor_assoc a b (bit_xor e h) ∙ ap (bit_xor a) (sym (xor_assoc b e h) ∙ ap (λ z. bit_xor z h) (xor_comm b e) ∙ xor_assoc e b h) ∙ sym (xor_assoc a e (bit_xor b h))

pub word_sum-xor : (f g : Values) (xs : List ℕ) → word_sum xs (λ i. bit_xor (f i) (g i)) ≡ bit_xor (word_sum xs f) (word_sum xs g)
word_sum-xor f g [] = refl
word_sum-xor f g (x ∷ xs) = ap (bit_xor (bit_xor (f x) (g x))) (word_sum-xor f g xs) ∙ middle (f x) (g x) (word_sum xs f) (word_sum xs g)

-- a sum is a part of a whole, and the rest is still to be added: of the numbers from j on
module _ {whole : ℕ} (sum : ℕ) (f : Values) (d j : ℕ) (so_far : whole ≡ bit_xor sum (word_sum (range j (d - j)) f)) where
  pub adds_turn : j < d → whole ≡ bit_xor (bit_xor sum (f j)) (word_sum (range (j + 1) (d - (j + 1))) f)
  adds_turn h = so_far ∙ ap (λ l. bit_xor sum (word_sum l f)) (range_turn d j h) ∙ sym (xor_assoc sum (f j) (word_sum (range (j + 1) (d - (j + 1))) f))

  pub adds_end : d ≤ j → sum ≡ whole
  adds_end h = sym (so_far ∙ ap (λ l. bit_xor sum (word_sum l f)) (range_end d j h) ∙ xor_zero_r sum)

-- the others are those below and those above
pub add_others : (f : Values) (word d i : ℕ) → i < d → bit_xor (bit_xor word (word_sum (range 0 (i - 0)) f)) (word_sum (range (i + 1) (d - (i + 1))) f) ≡ bit_xor word (word_sum (others d i) f)
add_others f word d i l =
    let lower = range 0 (i - 0) in
    let upper = range (i + 1) (d - (i + 1)) in
    xor_assoc word (word_sum lower f) (word_sum upper f) ∙ ap (bit_xor word) (sym (ap (λ r. word_sum r f) (others-split d i l) ∙ word_sum-append f lower upper))

-- the same of the numbers other than i
abbrev pub rest : (d i j : ℕ) → List ℕ
rest d i j = filter (λ k. not (eqb i k)) (range j (d - j))

module _ {whole : ℕ} (sum : ℕ) (f : Values) (d i : ℕ) where
  pub rest_start : whole ≡ bit_xor sum (word_sum (others d i) f) → whole ≡ bit_xor sum (word_sum (rest d i 0) f)
  rest_start e = simp sub-zero e

  module _ (j : ℕ) (so_far : whole ≡ bit_xor sum (word_sum (rest d i j) f)) where
    pub rest_itself : j < d → j ≡ i → whole ≡ bit_xor sum (word_sum (rest d i (j + 1)) f)
    rest_itself l e = so_far ∙ ap (λ xs. bit_xor sum (word_sum (filter (λ k. not (eqb i k)) xs) f)) (range_turn d j l) ∙ rw (e, eqb_refl i)

    pub rest_turn : j < d → (j ≡ i → ⊥) → whole ≡ bit_xor (bit_xor sum (f j)) (word_sum (rest d i (j + 1)) f)
    rest_turn l ne = so_far ∙ ap (λ xs. bit_xor sum (word_sum (filter (λ k. not (eqb i k)) xs) f)) (range_turn d j l)
        ∙ rw (eqb_sym i j, ne_eqb j i ne) (sym (xor_assoc sum (f j) (word_sum (rest d i (j + 1)) f)))

    pub rest_end : d ≤ j → sum ≡ whole
    rest_end h = sym (so_far ∙ ap (λ xs. bit_xor sum (word_sum (filter (λ k. not (eqb i k)) xs) f)) (range_end d j h) ∙ xor_zero_r sum)
