-- Hexadecimal digits and words, as the code reads them.
use mathlib.Core.Path.{◌≡◌, sym, ap, ◌∙◌}
use mathlib.Core.Bool.{true, ◌&&◌, false≢true}
use mathlib.Core.List.{List, [], ◌∷◌}
use Prim.Native.Nat.{ℕ, suc, ◌+◌, ◌*◌, ◌≤◌}
use native.Mathlib.Omega.{arith}
use lib.Dec.{leb, eqb}
use lib.ListN.{length, get_or, drop, length-drop}
use lib.Seq.{drop-cons}
use borrow.Author.Tests.{leb-true, le-leb, lt-leb}
use Rattle.circuit.proofs.Base.{cases, and_left, and_right}
use Rattle.text.specs.Lines.{line_feed, is_decimal, is_letter, is_digit, digit, are_digits, word}
use Rattle.text.specs.Internal.Scan.{is_mark, feed_of, no_code, digit_code, mark_code, pair_code, Coded, is_word, value_in}

digit-small : (b : ℕ) → is_digit b ≡ true → digit b ≤ 15
digit-small b h = cases (is_decimal b)
    (λ e. let l = leb-true b 57 (and_right (leb 48 b) (leb b 57) e) in rw e (omega arith))
    (λ e. let k : is_letter b ≡ true = rw e at h in
    let l = leb-true b 70 (and_right (leb 65 b) (leb b 70) k) in rw e (omega arith))

-- the codes of a byte
pub digit_most : (b : ℕ) → digit_code b ≤ 4096
unfolding digit_code
digit_most b = cases (is_digit b) (λ e. rw e (omega (arith, digit-small b e))) (λ e. rw e (omega arith))

pub feed_most : (b : ℕ) → feed_of b ≤ 1
feed_most b = cases (eqb b line_feed) (λ e. rw e (omega arith)) (λ e. rw e (omega arith))

pub mark_most : (b : ℕ) → mark_code b ≤ 4096
unfolding mark_code
mark_most b = cases (is_mark b) (λ e. rw e (omega (arith, feed_most b))) (λ e. rw e (omega arith))

-- a digit, whose code is its value
pub record Known (b : ℕ) : Type 0 where
  pub is : is_digit b ≡ true
  pub value : digit_code b ≡ digit b
  pub small : digit b ≤ 15

known : (b : ℕ) → is_digit b ≡ true → Known b
unfolding digit_code
known b h = record { is = h; value = rw h; small = digit-small b h }

-- two digits
pair_value : {a b : ℕ} → Known a → Known b → (pair_code a b ≡ digit a * 16 + digit b) × (pair_code a b ≤ 255)
pair_value p q = (omega (arith, p.value, q.value), omega (arith, p.value, q.value))

-- the four digits of a word
pub record Digits (a b c e : ℕ) : Type 0 where
  pub first : Known a
  pub second : Known b
  pub third : Known c
  pub last : Known e

pub digits : (a b c e : ℕ) → are_digits a b c e ≡ true → Digits a b c e
digits a b c e h =
    let k = and_left (is_digit a && is_digit b && is_digit c) (is_digit e) h in
    let l = and_left (is_digit a && is_digit b) (is_digit c) k in
    record {
      first = known a (and_left (is_digit a) (is_digit b) l);
      second = known b (and_right (is_digit a) (is_digit b) l);
      third = known c (and_right (is_digit a && is_digit b) (is_digit c) k);
      last = known e (and_right (is_digit a && is_digit b && is_digit c) (is_digit e) h);
    }

-- a word's codes are 511 at most together, those of other bytes are more
sum-of_codes : (a b c e s : ℕ) → leb (pair_code a b + pair_code c e + mark_code s) 511 ≡ (are_digits a b c e && is_mark s)
unfolding digit_code mark_code
sum-of_codes a b c e s = cases (is_digit a)
    (λ p. cases (is_digit b)
    (λ q. cases (is_digit c)
    (λ r. cases (is_digit e)
    (λ t. cases (is_mark s)
    (λ m. rw (p, q, r, t, m) (le-leb (digit a * 16 + digit b + (digit c * 16 + digit e) + feed_of s) 511
    (omega (arith, digit-small a p, digit-small b q, digit-small c r, digit-small e t, feed_most s))))
    (λ m. rw (p, q, r, t, m) (lt-leb (digit a * 16 + digit b + (digit c * 16 + digit e) + no_code) 511 (omega arith))))
    (λ t. rw (p, q, r, t) (lt-leb (digit a * 16 + digit b + (digit c * 16 + no_code) + mark_code s) 511 (omega arith))))
    (λ r. rw (p, q, r) (lt-leb (digit a * 16 + digit b + (no_code * 16 + digit_code e) + mark_code s) 511 (omega arith))))
    (λ q. rw (p, q) (lt-leb (digit a * 16 + no_code + (digit_code c * 16 + digit_code e) + mark_code s) 511 (omega arith))))
    (λ p. rw p (lt-leb (no_code * 16 + digit_code b + (digit_code c * 16 + digit_code e) + mark_code s) 511 (omega arith)))

-- five bytes at a place of a text
pub five : (l : List ℕ) (i : ℕ) → i + 5 ≤ length l
    → drop i l ≡ get_or l i 0 ∷ get_or l (i + 1) 0 ∷ get_or l (i + 2) 0 ∷ get_or l (i + 3) 0 ∷ get_or l (i + 4) 0 ∷ drop (i + 5) l
five l i h =
    let e₁ : suc i ≡ i + 1 = omega arith in
    let e₂ : suc (i + 1) ≡ i + 2 = omega arith in
    let e₃ : suc (i + 2) ≡ i + 3 = omega arith in
    let e₄ : suc (i + 3) ≡ i + 4 = omega arith in
    let e₅ : suc (i + 4) ≡ i + 5 = omega arith in
    drop-cons l i 0 (omega arith)
    ∙ ap (λ (r : List ℕ). get_or l i 0 ∷ r) (ap (λ (n : ℕ). drop n l) e₁ ∙ drop-cons l (i + 1) 0 (omega arith)
    ∙ ap (λ (r : List ℕ). get_or l (i + 1) 0 ∷ r) (ap (λ (n : ℕ). drop n l) e₂ ∙ drop-cons l (i + 2) 0 (omega arith)
    ∙ ap (λ (r : List ℕ). get_or l (i + 2) 0 ∷ r) (ap (λ (n : ℕ). drop n l) e₃ ∙ drop-cons l (i + 3) 0 (omega arith)
    ∙ ap (λ (r : List ℕ). get_or l (i + 3) 0 ∷ r) (ap (λ (n : ℕ). drop n l) e₄ ∙ drop-cons l (i + 4) 0 (omega arith)
    ∙ ap (λ (r : List ℕ). get_or l (i + 4) 0 ∷ r) (ap (λ (n : ℕ). drop n l) e₅)))))

-- a word at a place: its test, and once it is one, that it lies in the text, its digits and its value
pub word_test : (l : List ℕ) (i : ℕ) → i + 5 ≤ length l
    → is_word (drop i l) ≡ (are_digits (get_or l i 0) (get_or l (i + 1) 0) (get_or l (i + 2) 0) (get_or l (i + 3) 0) && is_mark (get_or l (i + 4) 0))
unfolding is_word
word_test l i h = rw (five l i h)

pub word_long : (bytes : List ℕ) → is_word bytes ≡ true → 5 ≤ length bytes
unfolding is_word
word_long [] h = absurd (false≢true h)
word_long (a ∷ []) h = absurd (false≢true h)
word_long (a ∷ b ∷ []) h = absurd (false≢true h)
word_long (a ∷ b ∷ c ∷ []) h = absurd (false≢true h)
word_long (a ∷ b ∷ c ∷ e ∷ []) h = absurd (false≢true h)
word_long (a ∷ b ∷ c ∷ e ∷ s ∷ rest) h = omega arith

module _ (l : List ℕ) (i : ℕ) (h : is_word (drop i l) ≡ true) where
  pub word-inside : i + 5 ≤ length l
  word-inside = omega (arith, word_long (drop i l) h, length-drop i l)

  tests : (are_digits (get_or l i 0) (get_or l (i + 1) 0) (get_or l (i + 2) 0) (get_or l (i + 3) 0) && is_mark (get_or l (i + 4) 0)) ≡ true
  tests = rw (word_test l i word-inside) at h

  pub word-digits : Digits (get_or l i 0) (get_or l (i + 1) 0) (get_or l (i + 2) 0) (get_or l (i + 3) 0)
  word-digits = digits _ _ _ _ (and_left (are_digits (get_or l i 0) (get_or l (i + 1) 0) (get_or l (i + 2) 0) (get_or l (i + 3) 0)) (is_mark (get_or l (i + 4) 0)) tests)

  -- the mark tells whether the line ends
  pub word_mark : mark_code (get_or l (i + 4) 0) ≡ feed_of (get_or l (i + 4) 0)
  unfolding mark_code
  word_mark = rw (and_right (are_digits (get_or l i 0) (get_or l (i + 1) 0) (get_or l (i + 2) 0) (get_or l (i + 3) 0)) (is_mark (get_or l (i + 4) 0)) tests)

  pub word_value_lem : value_in (drop i l) ≡ word (get_or l i 0) (get_or l (i + 1) 0) (get_or l (i + 2) 0) (get_or l (i + 3) 0)
  unfolding value_in
  word_value_lem = rw (five l i word-inside)

-- the codes of five bytes: the test tells whether they are a word's, and a word's give its value and whether the line ends
module _ {bytes : List ℕ} {high low mark : ℕ} (k : Coded bytes high low mark) where
  pub coded_word : leb (high + low + mark) 511 ≡ is_word bytes
  coded_word = rw (k.first, k.second, k.behind) (sum-of_codes _ _ _ _ _ ∙ sym (word_test bytes 0 k.inside))

  pub coded_value : is_word bytes ≡ true → (high ≤ 255) × (low ≤ 255) × (high * 256 + low ≡ value_in bytes)
  coded_value h =
      let p = pair_value (word-digits bytes 0 h).first (word-digits bytes 0 h).second in
      let q = pair_value (word-digits bytes 0 h).third (word-digits bytes 0 h).last in
      (omega arith, omega arith, omega (arith, word_value_lem bytes 0 h))

  pub coded_mark : is_word bytes ≡ true → mark ≡ feed_of (get_or bytes 4 0)
  coded_mark h = k.behind ∙ word_mark bytes 0 h
