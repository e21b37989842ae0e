-- Sums modulo 2 of variables. A sum is a number: the digit of each variable that is added is set. A variable has a word, with a bit
-- for each evaluation.
use Rattle.std.specs.Prelude.{◌≡◌, cond, List, ℕ, zero, suc, ◌+◌, ◌*◌, ◌/◌, ◌%◌, ◌^◌, ◌≤◌, ◌<◌, length, set}
use Rattle.std.specs.Int.Bits.{bit_and, bit_xor}
use Rattle.circuit.specs.Lists.{nth}
use Rattle.circuit.specs.Circuit.{is_set}
use Rattle.simulation.specs.Internal.Filling.{Values}
use Rattle.symbolic.specs.declared.evaluate.Four.{Four as FourCode}

-- the sum of the words of variables: of n digits, those that are set
unfoldable pub added_in : (n sum : ℕ) → Values → ℕ
added_in zero m f = 0
added_in (suc n) m f = bit_xor (cond (is_set (m % 2)) (f 0) 0) (added_in n (m / 2) (λ s. f (suc s)))

abbrev pub added : (sum : ℕ) → Values → ℕ
added m f = added_in 64 m f

-- the variables that are products of two sums come behind 18 others: two numbers for each
abbrev pub term_word : (terms : List ℕ) (n : ℕ) → Values → ℕ
term_word terms n f = bit_and (added (nth terms (2 * n)) f) (added (nth terms (2 * n + 1)) f)

-- their sums are of variables before them
pub record Before (terms : List ℕ) (n : ℕ) : Type 0 where
  pub one : nth terms (2 * n) < 2 ^ (18 + n)
  pub other : nth terms (2 * n + 1) < 2 ^ (18 + n)

abbrev pub BoundedTerms : (terms : List ℕ) (from to : ℕ) → Type 0
BoundedTerms terms from to = (n : ℕ) → from ≤ n → n < to → Before terms n

-- a buffer with four words for each variable; the words of one kind
abbrev pub words_at : (w : ℕ) → List ℕ → Values
words_at w words s = nth words (4 * s + w)

-- four words that are those of a function
abbrev pub FourOf : FourCode → Values → Type 0
FourOf s f = (s.a ≡ f 0) × (s.b ≡ f 1) × (s.c ≡ f 2) × (s.d ≡ f 3)

-- four words written from a place on
abbrev pub four_at : (old : List ℕ) (at x y z u : ℕ) → List ℕ
four_at old at x y z u = set (set (set (set old at x) (at + 1) y) (at + 2) z) (at + 3) u

-- the words of such variables, from one to another, are written; the rest is as it was
pub record Runs (terms : List ℕ) (from to : ℕ) (old new : List ℕ) : Type 0 where
  pub are : (n w : ℕ) → from ≤ n → n < to → w < 4 → nth new (4 * (18 + n) + w) ≡ term_word terms n (words_at w new)
  pub below : (x : ℕ) → x < 4 * (18 + from) → nth new x ≡ nth old x
  pub above : (x : ℕ) → 4 * (18 + to) ≤ x → nth new x ≡ nth old x
  pub sized : length new ≡ length old

-- the words of wires on a list
pub record Shows (sums read : List ℕ) (found : ℕ) (words shown : List ℕ) : Type 0 where
  pub are : (i w : ℕ) → i < found → w < 4 → nth shown (4 * i + w) ≡ added (nth sums (nth read i)) (words_at w words)
  pub sized : length shown ≡ 32
