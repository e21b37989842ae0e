-- A word's digits: by its two bytes, and words and their digits tell each other.
use mathlib.Core.Path.{◌≡◌, refl}
use mathlib.Core.Bool.{true}
use mathlib.Core.List.{[], ◌∷◌}
use Prim.Native.Nat.{ℕ, ◌+◌, ◌-◌, ◌/◌, ◌%◌, ◌≤◌, ◌<◌}
use native.Mathlib.Omega.{arith}
use lib.Dec.{leb}
use borrow.Author.Tests.{leb-true, leb-false, le-leb, lt-leb}
use Rattle.circuit.proofs.Base.{cases, and_left, and_right}
use Rattle.text.specs.Lines.{is_decimal, is_letter, is_digit, digit, are_digits, word}
use Rattle.text.proofs.Hex.{Digits, digits}
use Rattle.writer.specs.Writer.{digit_byte, digits_of}
use Rattle.writer.specs.Internal.Line.{pair_of}

pub byte_small : (n : ℕ) → n < 16 → digit_byte n < 128
byte_small n h = cases (leb n 9) (λ e. rw e (omega arith)) (λ e. rw e (omega arith))

-- the two digits of a byte
module _ (n : ℕ) (h : n < 256) where
  pub pair_first : pair_of n % 256 ≡ digit_byte (n / 16)
  pair_first = omega (arith, byte_small (n / 16) (omega arith), byte_small (n % 16) (omega arith))

  pub pair_second : pair_of n / 256 ≡ digit_byte (n % 16)
  pair_second = omega (arith, byte_small (n / 16) (omega arith), byte_small (n % 16) (omega arith))

-- the four digits of a word, by its two bytes
pub word-pairs : (x : ℕ) → x < 65536
    → digits_of x ≡ pair_of (x / 256) % 256 ∷ pair_of (x / 256) / 256 ∷ pair_of (x % 256) % 256 ∷ pair_of (x % 256) / 256 ∷ []
word-pairs x h =
    let a : x / 256 / 16 ≡ x / 4096 = omega arith in
    let b : x % 256 / 16 ≡ x / 16 % 16 = omega arith in
    let c : x % 256 % 16 ≡ x % 16 = omega arith in
    rw (pair_first (x / 256) (omega arith), pair_second (x / 256) (omega arith), pair_first (x % 256) (omega arith), pair_second (x % 256) (omega arith), a, b, c)

-- what reading a byte tells, by where it stands: a digit up to 9, or a letter
decimal_read : (b n : ℕ) → b ≡ 48 + n → n ≤ 9 → (is_digit b ≡ true) × (digit b ≡ n)
decimal_read b n e h = rw (le-leb 48 b (omega arith), le-leb b 57 (omega arith)) (refl, omega arith)

letter_read : (b n : ℕ) → b ≡ 55 + n → 9 < n → n < 16 → (is_digit b ≡ true) × (digit b ≡ n)
letter_read b n e h l =
    rw (le-leb 48 b (omega arith), lt-leb b 57 (omega arith), le-leb 65 b (omega arith), le-leb b 70 (omega arith)) (refl, omega arith)

-- a digit's byte is read as the digit
byte_read : (n : ℕ) → n < 16 → (is_digit (digit_byte n) ≡ true) × (digit (digit_byte n) ≡ n)
byte_read n h = cases (leb n 9)
    (λ e. decimal_read (digit_byte n) n (rw e (omega arith)) (leb-true n 9 e))
    (λ e. letter_read (digit_byte n) n (rw e (omega arith)) (leb-false n 9 e) h)

-- and a byte that is a digit is that of the digit read
digit_back : (b : ℕ) → is_digit b ≡ true → digit_byte (digit b) ≡ b
digit_back b h = cases (is_decimal b)
    (λ e. let l = leb-true 48 b (and_left (leb 48 b) (leb b 57) e) in
    let m = leb-true b 57 (and_right (leb 48 b) (leb b 57) e) in
    rw (e, le-leb (b - 48) 9 (omega arith)) (omega arith))
    (λ e. let k : is_letter b ≡ true = rw e at h in
    let l = leb-true 65 b (and_left (leb 65 b) (leb b 70) k) in
    rw (e, lt-leb (b - 55) 9 (omega arith)) (omega arith))

-- a word is read from its digits
pub word_read : (x : ℕ) → x < 65536 → let a = digit_byte (x / 4096) in let b = digit_byte (x / 256 % 16) in let c = digit_byte (x / 16 % 16) in let e = digit_byte (x % 16) in
    (are_digits a b c e ≡ true) × (word a b c e ≡ x)
word_read x h =
    let p = byte_read (x / 4096) (omega arith) in
    let q = byte_read (x / 256 % 16) (omega arith) in
    let r = byte_read (x / 16 % 16) (omega arith) in
    let s = byte_read (x % 16) (omega arith) in
    (rw (p.0, q.0, r.0, s.0), rw (p.1, q.1, r.1, s.1) (omega arith))

-- and four digits are those of the word that is read from them
pub digits_back : (a b c e : ℕ) → are_digits a b c e ≡ true → digits_of (word a b c e) ≡ a ∷ b ∷ c ∷ e ∷ []
digits_back a b c e h =
    let k : Digits a b c e = digits a b c e h in
    let x = word a b c e in
    let t : x / 4096 ≡ digit a = omega arith in
    let u : x / 256 % 16 ≡ digit b = omega arith in
    let v : x / 16 % 16 ≡ digit c = omega arith in
    let z : x % 16 ≡ digit e = omega arith in
    rw (t, u, v, z, digit_back a k.first.is, digit_back b k.second.is, digit_back c k.third.is, digit_back e k.last.is)
