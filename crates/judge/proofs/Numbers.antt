-- Numbers in decimal: the last digit and those in front of it, and how many digits there are at most.
use mathlib.Core.Path.{◌≡◌, sym, ap, ◌∙◌}
use mathlib.Core.List.{List, [], ◌∷◌, ◌++◌}
use Prim.Native.Nat.{ℕ, zero, suc, ◌+◌, ◌/◌, ◌%◌, ◌^◌, ◌≤◌, ◌<◌}
use native.Mathlib.Nat.{div-lt_self, div-lt_iff_lt-mul, pow-succ'}
use native.Mathlib.Omega.{arith}
use lib.Dec.{ltb}
use lib.ListN.{length, length-append}
use borrow.Author.Tests.{lt-ltb, le-ltb, ltb-true, ltb-false}
use Rattle.circuit.proofs.Base.{cases}
use Rattle.judge.specs.Printed.{digit, digits, decimal}

-- a number below ten is one digit
small : (k n : ℕ) → n < 10 → digits (suc k) n ≡ digit n ∷ []
unfolding digits
small k n h = rw (lt-ltb n 10 h)

-- another is the digits of its tenth, and the last
large : (k n : ℕ) → 10 ≤ n → digits (suc k) n ≡ digits k (n / 10) ++ digit (n % 10) ∷ []
unfolding digits
large k n h = rw (le-ltb n 10 h)

pub tenth_less : (n : ℕ) → 10 ≤ n → n / 10 < n
tenth_less n h = div-lt_self (omega arith) (omega arith)

-- the bound on the number of digits does not matter where it is large enough
enough : (j k n : ℕ) → n < j → n < k → digits j n ≡ digits k n
enough zero k n h l = absurd (omega arith)
enough (suc j) zero n h l = absurd (omega arith)
enough (suc j) (suc k) n h l =
    cases (ltb n 10)
    (λ e. let s : n < 10 = ltb-true n 10 e in small j n s ∙ sym (small k n s))
    (λ e. let s : 10 ≤ n = ltb-false n 10 e in let t = tenth_less n s in
    large j n s ∙ ap (λ (ds : List ℕ). ds ++ digit (n % 10) ∷ []) (enough j k (n / 10) (omega arith) (omega arith)) ∙ sym (large k n s))

pub one-digit : (n : ℕ) → n < 10 → decimal n ≡ digit n ∷ []
unfolding decimal
one-digit n h = small n n h

pub last_digit : (n : ℕ) → 10 ≤ n → decimal n ≡ decimal (n / 10) ++ digit (n % 10) ∷ []
unfolding decimal
last_digit n h = large n n h
    ∙ ap (λ (ds : List ℕ). ds ++ digit (n % 10) ∷ []) (enough n (suc (n / 10)) (n / 10) (tenth_less n h) (omega arith))

pub length_last : (n : ℕ) → 10 ≤ n → length (decimal n) ≡ length (decimal (n / 10)) + 1
length_last n h = ap length (last_digit n h) ∙ length-append (decimal (n / 10)) (digit (n % 10) ∷ [])

-- a number has a digit
pub some_digit : (n : ℕ) → 0 < length (decimal n)
some_digit n = cases (ltb n 10)
    (λ e. rw (one-digit n (ltb-true n 10 e)) (omega arith))
    (λ e. omega (arith, length_last n (ltb-false n 10 e)))

tenth_below : (k n : ℕ) → n < 10 ^ suc (suc k) → n / 10 < 10 ^ suc k
tenth_below k n h = (div-lt_iff_lt-mul {k = 10} {x = n} {y = 10 ^ suc k} (omega arith)).1 (omega (arith, pow-succ' 10 (suc k)))

-- a number below a power of ten has no more digits than the power says
pub few-digits : (k n : ℕ) → n < 10 ^ suc k → length (decimal n) ≤ suc k
few-digits zero n h = rw (one-digit n h) (omega arith)
few-digits (suc k) n h =
    cases (ltb n 10)
    (λ e. rw (one-digit n (ltb-true n 10 e)) (omega arith))
    (λ e. let s : 10 ≤ n = ltb-false n 10 e in
    rw (last_digit n s) (simp length-append (omega (arith, few-digits k (n / 10) (tenth_below k n h)))))

-- a number of 64 bits has at most twenty
pub twenty_digits : (n : ℕ) → n < 2 ^ 64 → length (decimal n) ≤ 20
twenty_digits n h = few-digits 19 n (omega arith)
