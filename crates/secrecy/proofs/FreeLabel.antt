-- The pigeonhole: a list of fewer than n numbers leaves out some number below n.
use mathlib.Core.Path.{◌≡◌, ap}
use mathlib.Core.Bool.{false, cond, false≢true}
use mathlib.Core.List.{List, [], ◌∷◌}
use Prim.Native.Nat.{ℕ, zero, suc, ◌<◌}
use native.Mathlib.Omega.{arith}
use lib.Dec.{eqb}
use lib.ListN.{length}
use borrow.Author.Tests.{eqb-true}
use Rattle.circuit.specs.Lists.{mem}
use Rattle.circuit.proofs.Base.{cases, clash, or_left, or_right, or_cases, lt_ne, In}

-- a list without the first place where a number stands
without : ℕ → List ℕ → List ℕ
without x [] = []
without x (y ∷ ys) = cond (eqb x y) ys (y ∷ without x ys)

without_length : (x : ℕ) (ys : List ℕ) → In x ys → length ys ≡ suc (length (without x ys))
unfolding without
without_length x [] h = absurd (false≢true h)
without_length x (y ∷ ys) h = cases (eqb x y) (λ e. rw e) (λ e. rw e (ap suc (without_length x ys (rw e at h))))

without_in : (x j : ℕ) (ys : List ℕ) → eqb j x ≡ false → In j ys → In j (without x ys)
unfolding without
without_in x j [] n h = h
without_in x j (y ∷ ys) n h = cases (eqb x y)
    (λ e. rw e (or_cases (eqb j y) (mem j ys) h (λ k. clash (rw (eqb-true x y e) k) n) (λ k. k)))
    (λ e. rw e (or_cases (eqb j y) (mem j ys) h (λ k. or_left (eqb j y) (mem j (without x ys)) k) (λ k. or_right (eqb j y) (mem j (without x ys)) (without_in x j ys n k))))

-- a number below n that is not on a list
pub record Free (n : ℕ) (ys : List ℕ) : Type 0 where
  pub number : ℕ
  pub below : number < n
  pub absent : mem number ys ≡ false

pub free : (n : ℕ) (ys : List ℕ) → length ys < n → Free n ys
free zero ys l = absurd (omega arith)
free (suc n) ys l = cases (mem n ys)
    (λ e. let f = free n (without n ys) (omega (arith, without_length n ys e)) in
    record { number = f.number; below = omega arith; absent = cases (mem f.number ys) (λ k. clash (without_in n f.number ys (lt_ne f.number n f.below) k) f.absent) (λ k. k) })
    (λ e. record { number = n; below = omega arith; absent = e })
