-- Sums of variables: two added, one variable alone, the lowest taken out.
use mathlib.Core.Path.{◌≡◌, refl, sym, ap, ap₂, ◌∙◌}
use mathlib.Core.Bool.{cond}
use mathlib.Core.List.{List, [], ◌∷◌}
use Prim.Native.Nat.{ℕ, zero, suc, ◌-◌, ◌/◌, ◌%◌, ◌^◌, ◌<◌}
use native.Mathlib.Nat.{pow-suc}
use native.Mathlib.Omega.{arith}
use lib.Bits.{bit_and, bit_xor, differ, and_zero_r, and_self, and_shr, and_mod, xor_shr, xor_zero_r, xor_self}
use lib.Count.{count_trailing_zeros}
use Rattle.circuit.specs.Circuit.{is_set}
use Rattle.simulation.specs.Internal.Filling.{Values, word_sum}
use Rattle.simulation.proofs.Adding.{low, xor_assoc, middle}
use Rattle.symbolic.specs.Internal.Sums.{added_in}

-- a word that is added, or not
abbrev one : (digit word : ℕ) → ℕ
one d w = cond (is_set d) w 0

-- the digits of a number, by halves
digit : (n : ℕ) → n % 2 < 2
digit n = omega arith

-- of no variable
pub added_none : (n : ℕ) (f : Values) → added_in n 0 f ≡ 0
unfolding added_in
added_none zero f = refl
added_none (suc n) f = added_none n (λ s. f (suc s))

-- words that are the same below a place, for a sum of variables before it
pub added-same : (n k m : ℕ) (f g : Values) → m < 2 ^ k → ((s : ℕ) → s < k → f s ≡ g s) → added_in n m f ≡ added_in n m g
unfolding added_in
added-same zero k m f g l h = refl
added-same (suc n) zero m f g l h = let z : m ≡ 0 = omega arith in rw z (added_none n (λ s. f (suc s)) ∙ sym (added_none n (λ s. g (suc s))))
added-same (suc n) (suc k) m f g l h =
    ap₂ bit_xor (ap (one (m % 2)) (h 0 (omega arith)))
    (added-same n k (m / 2) (λ s. f (suc s)) (λ s. g (suc s)) (let e = pow-suc 2 k in omega (arith, rw e at l)) (λ s z. h (suc s) (omega arith)))

-- the sum of two sums, and of many
digits : (x y w : ℕ) → x < 2 → y < 2 → one (differ x y) w ≡ bit_xor (one x w) (one y w)
digits zero y w h k = refl
digits (suc zero) zero w h k = sym (xor_zero_r w)
digits (suc zero) (suc zero) w h k = sym (xor_self w)
digits (suc zero) (suc (suc y)) w h k = absurd (omega arith)
digits (suc (suc x)) y w h k = absurd (omega arith)

pub added-xor : (n a b : ℕ) (f : Values) → added_in n (bit_xor a b) f ≡ bit_xor (added_in n a f) (added_in n b f)
unfolding added_in
added-xor zero a b f = refl
added-xor (suc n) a b f =
    ap₂ bit_xor (ap (λ d. one d (f 0)) (low a b) ∙ digits (a % 2) (b % 2) (f 0) (digit a) (digit b))
    (ap (λ m. added_in n m (λ s. f (suc s))) (xor_shr a b 1) ∙ added-xor n (a / 2) (b / 2) (λ s. f (suc s)))
    ∙ middle (one (a % 2) (f 0)) (one (b % 2) (f 0)) (added_in n (a / 2) (λ s. f (suc s))) (added_in n (b / 2) (λ s. f (suc s)))

pub added-sum : (n : ℕ) (g : Values) (f : Values) (xs : List ℕ) → added_in n (word_sum xs g) f ≡ word_sum xs (λ x. added_in n (g x) f)
added-sum n g f [] = added_none n f
added-sum n g f (x ∷ xs) = added-xor n (g x) (word_sum xs g) f ∙ ap (bit_xor (added_in n (g x) f)) (added-sum n g f xs)

-- one variable alone
pub added-one : (n s : ℕ) (f : Values) → s < n → added_in n (2 ^ s) f ≡ f s
unfolding added_in
added-one zero s f l = absurd (omega arith)
added-one (suc n) zero f l = ap (bit_xor (f 0)) (added_none n (λ t. f (suc t))) ∙ xor_zero_r (f 0)
added-one (suc n) (suc s) f l =
    let p = pow-suc 2 s in
    let half : 2 ^ suc s / 2 ≡ 2 ^ s = rw p (omega arith) in
    let even : 2 ^ suc s % 2 ≡ 0 = rw p (omega arith) in
    rw (half, even) (added-one n s (λ t. f (suc t)) (omega arith))

-- the lowest variable taken out: a number and the one before it have in common all digits that are set but the lowest
pub record Lowest (n m : ℕ) (f : Values) (s : ℕ) : Type 0 where
  pub inside : s < n
  pub left : added_in n m f ≡ bit_xor (f s) (added_in n (bit_and m (m - 1)) f)

lowest_next : (n m : ℕ) (f : Values) → 0 < m → (0 < m / 2 → Lowest n (m / 2) (λ s. f (suc s)) (count_trailing_zeros n (m / 2))) → (d : ℕ)
    → m % 2 ≡ d → Lowest (suc n) m f (count_trailing_zeros (suc n) m)
unfolding count_trailing_zeros added_in
lowest_next n m f h ih zero e =
    let rest = ih (omega arith) in
    let before : (m - 1) / 2 ≡ m / 2 - 1 = omega arith in
    let half : bit_and m (m - 1) / 2 ≡ bit_and (m / 2) (m / 2 - 1) = and_shr m (m - 1) 1 ∙ ap (bit_and (m / 2)) before in
    let even : bit_and m (m - 1) % 2 ≡ 0 = and_mod m (m - 1) 1 ∙ ap (λ d. bit_and d ((m - 1) % 2)) e in
    rw e (record { inside = omega (arith, rest.inside); left = rw (e, half, even) rest.left })
lowest_next n m f h ih (suc d) e =
    let same : (m - 1) / 2 ≡ m / 2 = omega arith in
    let none : (m - 1) % 2 ≡ 0 = omega arith in
    let half : bit_and m (m - 1) / 2 ≡ m / 2 = and_shr m (m - 1) 1 ∙ ap (bit_and (m / 2)) same ∙ and_self (m / 2) in
    let even : bit_and m (m - 1) % 2 ≡ 0 = and_mod m (m - 1) 1 ∙ ap (bit_and (m % 2)) none ∙ and_zero_r (m % 2) in
    rw e (record { inside = omega arith; left = rw (e, half, even) })

pub lowest : (n m : ℕ) (f : Values) → 0 < m → m < 2 ^ n → Lowest n m f (count_trailing_zeros n m)
lowest zero m f h l = absurd (omega arith)
lowest (suc n) m f h l = lowest_next n m f h (λ k. lowest n (m / 2) (λ s. f (suc s)) k (let p = pow-suc 2 n in omega (arith, rw p at l))) (m % 2) refl

-- what is added so far, and what is left, make up a sum
pub record AddedTo (m : ℕ) (f : Values) (sum rest : ℕ) : Type 0 where
  pub left : added_in 64 m f ≡ bit_xor sum (added_in 64 rest f)

pub added_start : (m : ℕ) (f : Values) → AddedTo m f 0 m
added_start m f = record { left = refl }

pub added_next : {m : ℕ} {f : Values} {sum rest s new word : ℕ} → AddedTo m f sum rest → Lowest 64 rest f s → new ≡ bit_xor sum word → word ≡ f s → AddedTo m f new (bit_and rest (rest - 1))
added_next {f = f} {sum} {rest} {s} a l e at = record {
  left = a.left ∙ ap (bit_xor sum) l.left ∙ sym (xor_assoc sum (f s) (added_in 64 (bit_and rest (rest - 1)) f))
      ∙ ap (λ n. bit_xor n (added_in 64 (bit_and rest (rest - 1)) f)) (sym (e ∙ ap (bit_xor sum) at));
}

pub added_end : {m : ℕ} {f : Values} {sum rest : ℕ} → AddedTo m f sum rest → rest ≡ 0 → sum ≡ added_in 64 m f
added_end {f = f} {sum} a e = sym (a.left ∙ ap (λ n. bit_xor sum (added_in 64 n f)) e ∙ ap (bit_xor sum) (added_none 64 f) ∙ xor_zero_r sum)
