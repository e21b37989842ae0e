-- The rows of AND: the slot of each other share, where a row begins and ends, and what stands before what.
use mathlib.Core.Path.{◌≡◌, ap}
use mathlib.Core.Bool.{cond}
use Prim.Native.Nat.{ℕ, ◌+◌, ◌-◌, ◌*◌, ◌≤◌, ◌<◌}
use native.Mathlib.Nat.{mul-le-mul_right}
use native.Mathlib.Omega.{arith}
use lib.Dec.{ltb}
use borrow.Author.Tests.{lt-ltb, le-ltb, ltb-true, ltb-false}
use Rattle.circuit.specs.Kinds.{pairs}
use Rattle.circuit.proofs.Base.{cases}
use Rattle.circuit.proofs.Sizes.{pairs_twice}
use Rattle.gadgets.specs.Internal.Places.{slot_of, cross_start, pair_at, product_at, cross_at, mask_at}
use Rattle.gadgets.proofs.Bounds.{squares}
use Rattle.gadgets.proofs.Sites.{pair_lt}

-- the slot of j, below i and above it
pub slot_low : (i j : ℕ) → j ≤ i → slot_of i j ≡ j
slot_low i j h = ap (λ b. cond b (j - 1) j) (le-ltb i j h)

pub slot_high : (i j : ℕ) → i < j → slot_of i j ≡ j - 1
slot_high i j h = ap (λ b. cond b (j - 1) j) (lt-ltb i j h)

pub slot_next : (i j : ℕ) → (j ≡ i → ⊥) → slot_of i (j + 1) ≡ slot_of i j + 1
slot_next i j ne = cases (ltb i j)
    (λ e. let h = ltb-true i j e in omega (arith, slot_high i j h, slot_high i (j + 1) (omega arith)))
    (λ e. let h : j < i = omega (arith, ltb-false i j e, ne) in omega (arith, slot_low i j (omega arith), slot_low i (j + 1) (omega arith)))

-- slots grow with the shares
slots : (i j k : ℕ) → j ≤ k → slot_of i j ≤ slot_of i k
slots i j k h = cases (ltb i j)
    (λ e. let q = ltb-true i j e in omega (arith, slot_high i j q, slot_high i k (omega arith)))
    (λ e. let q = ltb-false i j e in cases (ltb i k)
    (λ f. let t = ltb-true i k f in omega (arith, slot_low i j q, slot_high i k t))
    (λ f. let t = ltb-false i k f in omega (arith, slot_low i j q, slot_low i k t)))

pub slots_up : (d first i j k : ℕ) → j ≤ k → cross_at d first i j ≤ cross_at d first i k
slots_up d first i j k h = omega (arith, slots i j k h)

-- r stands before B
pub pair_early : (d first i j : ℕ) → i < d → j < d → (j ≡ i → ⊥) → pair_at d first i j + 1 < product_at d first 0
pair_early d first i j l k ne = omega (arith, pair_lt d i j l k ne, pairs_twice d)

pub product-early : (d first i j : ℕ) → j < d → product_at d first j + 2 < first + cross_start d i
product-early d first i j l = omega arith

-- REF's random bits stand before its sums
pub mask_lt : (d first i j : ℕ) → i < d → j < d → (j ≡ i → ⊥) → mask_at d first i j < first + pairs d
mask_lt d first i j l k ne = omega (arith, pair_lt d i j l k ne)

-- the wires of two shares stand before the outputs
slot_most : (d i j : ℕ) → i < d → j < d → (j ≡ i → ⊥) → slot_of i j + 1 ≤ d - 1
slot_most d i j l k ne = cases (ltb i j)
    (λ e. let h = ltb-true i j e in omega (arith, slot_high i j h))
    (λ e. let h = ltb-false i j e in omega (arith, slot_low i j h, ne))

pub row_next : (d first i : ℕ) → first + cross_start d i + 6 * (d - 1) ≡ first + cross_start d (i + 1)
row_next d first i = omega arith

pub row_room : (d first i : ℕ) → i < d → first + cross_start d (i + 1) ≤ first + cross_start d d
row_room d first i l = omega (arith, mul-le-mul_right {m = i + 1} {n = d} (d - 1) (omega arith))

-- where the two halves of a row begin and end
pub record RowEnds (d first i : ℕ) : Type 0 where
  pub first_is : cross_at d first i 0 ≡ first + cross_start d i
  pub mid : cross_at d first i (i + 1) ≡ cross_at d first i i
  pub last : cross_at d first i d ≡ first + cross_start d (i + 1)
  pub within : cross_at d first i i ≤ first + cross_start d (i + 1)

pub row_ends : (d first i : ℕ) → i < d → RowEnds d first i
row_ends d first i l = omega (arith, slot_low i 0 (omega arith), slot_low i i (omega arith), slot_high i (i + 1) (omega arith), slot_high i d l, row_next d first i)

-- the numbers of the share i of an AND
pub record ShareOf (d first i : ℕ) : Type 0 where
  pub few : d * (d - 1) ≤ 64
  pub product : product_at d first i + 2 < first + cross_start d d
  pub next : first + cross_start d i + 6 * (d - 1) ≡ first + cross_start d (i + 1)
  pub room : first + cross_start d (i + 1) ≤ first + cross_start d d

pub share-of : (d first i : ℕ) → d ≤ 8 → i < d → ShareOf d first i
share-of d first i few l = record { few = squares d few; product = product-early d first d i l; next = row_next d first i; room = row_room d first i l }

pub cross_room : (d first i j : ℕ) → i < d → j < d → (j ≡ i → ⊥) → cross_at d first i j + 6 ≤ first + cross_start d d
cross_room d first i j l k ne = omega (arith, slot_most d i j l k ne, row_next d first i, row_room d first i l)

-- the numbers of two shares
pub record Sites (d first i j : ℕ) : Type 0 where
  pub few : d * (d - 1) ≤ 64
  pub pair : pair_at d first i j + 1 < product_at d first 0
  pub product : product_at d first j + 2 < first + cross_start d i
  pub room : cross_at d first i j + 6 ≤ first + cross_start d d

pub sites : (d first i j : ℕ) → d ≤ 8 → i < d → j < d → (j ≡ i → ⊥) → Sites d first i j
sites d first i j few l k ne = record { few = squares d few; pair = pair_early d first i j l k ne; product = product-early d first i j k; room = cross_room d first i j l k ne }
