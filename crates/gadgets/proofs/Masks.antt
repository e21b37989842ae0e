-- Where the code finds REF's random bits of the share i and each other: with a lower share, one in each row; with higher ones,
-- in the share's own row.
use mathlib.Core.Path.{◌≡◌, ap, ◌∙◌}
use Prim.Native.Nat.{ℕ, suc, ◌+◌, ◌-◌, ◌≤◌, ◌<◌}
use native.Mathlib.Omega.{arith}
use borrow.Author.Tests.{lt-ltb, le-ltb}
use Rattle.frames.proofs.RandomBits.{few-pairs}
use Rattle.circuit.specs.Kinds.{pairs}
use Rattle.gadgets.specs.Internal.Places.{row_start, mask_at}
use Rattle.gadgets.proofs.Sites.{row_next, row-few}

-- one behind that of i and the lower share j, and that of i and the higher share j
pub record BelowAt (d first i j at : ℕ) : Type 0 where
  pub most : j ≤ i
  pub is : at ≡ first + (row_start d j + (i - j))

pub record AboveAt (d first i j at : ℕ) : Type 0 where
  pub least : i + 1 ≤ j
  pub is : at ≡ first + (row_start d i + (j - (i + 1)))

-- the numbers are small
few-before : (d i : ℕ) → i ≤ d → d ≤ 8 → row_start d i ≤ 28
few-before d i h few = omega (arith, row-few d i h, few-pairs d few)

near : (x y first at : ℕ) → x ≤ 28 → y ≤ 8 → at ≡ first + (x + y) → at ≤ first + 36
near x y first at h k e = omega arith

pub below_start : (d first i : ℕ) → BelowAt d first i 0 (first + i)
below_start d first i = let none : row_start d 0 ≡ 0 = omega arith in record { most = omega arith; is = omega (arith, none) }

-- from a row to the next
further : (x y d first i j : ℕ) → x + (d - suc j) ≡ y → j < i → i < d → first + (x + (i - j)) + (d - j - 2) ≡ first + (y + (i - (j + 1)))
further x y d first i j e h l = omega arith

module _ {d first i j at : ℕ} (b : BelowAt d first i j at) where
  pub below_here : j < i → at - 1 ≡ mask_at d first i j
  below_here h = rw (le-ltb i j (omega arith), lt-ltb j i h) (omega (arith, b.is))

  pub below_next : j < i → i < d → BelowAt d first i (j + 1) (at + (d - j - 2))
  below_next h l =
      let e : suc j ≡ j + 1 = omega arith in
      record { most = omega arith; is = ap (λ n. n + (d - j - 2)) b.is ∙ further (row_start d j) (row_start d (j + 1)) d first i j (row_next d j (omega arith) ∙ ap (row_start d) e) h l }

  pub below-near : i < d → d ≤ 8 → at ≤ first + 36
  below-near l few = near (row_start d j) (i - j) first at (few-before d j (omega (arith, b.most)) few) (omega arith) b.is

  pub below_end : i ≤ j → AboveAt d first i (j + 1) at
  below_end h = let e : j ≡ i = omega (arith, b.most) in record { least = omega arith; is = b.is ∙ rw e (omega arith) }

module _ {d first i j at : ℕ} (a : AboveAt d first i j at) where
  pub above_here : at ≡ mask_at d first i j
  above_here = rw (lt-ltb i j (omega (arith, a.least))) (omega (arith, a.is, a.least))

  -- those behind it in the row, and the row's end
  pub above-by : (k : ℕ) → AboveAt d first i (j + k) (at + k)
  above-by k = record { least = omega (arith, a.least); is = omega (arith, a.is, a.least) }

  pub above-end : i < d → j ≤ d → at + (d - j) ≤ first + pairs d
  above-end l h =
      let e : suc i ≡ i + 1 = omega arith in
      omega (arith, a.is, a.least, row_next d i l, row-few d (suc i) (omega arith))
