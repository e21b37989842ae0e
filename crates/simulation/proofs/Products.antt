-- The wires B, m and M of a share.
use mathlib.Core.Path.{◌≡◌, ap₂}
use mathlib.Core.List.{List}
use Prim.Native.Nat.{ℕ, ◌+◌, ◌≤◌, ◌<◌}
use native.Mathlib.Omega.{arith}
use lib.Bits.{bit_and}
use lib.ListN.{length, set}
use Rattle.circuit.specs.Lists.{nth}
use Rattle.gadgets.specs.Internal.Places.{product_at}
use Rattle.simulation.specs.Internal.Filling.{Values, Known, Fills, ShareProducts}
use Rattle.simulation.proofs.Filled.{known-all, fills-set}

module _ {d first : ℕ} {a b : ℕ → ℕ} {old mid : List ℕ} {i : ℕ} (l : i < d) (room : product_at d first i + 3 ≤ length old) (early : a i < first) (late : b i < first)
    (f : Fills (ShareProducts d first a b) (product_at d first 0) (product_at d first i) old mid) where
  abbrev E : Values → Type 0
  E = ShareProducts d first a b

  abbrev x : ℕ
  x = product_at d first i

  abbrev word : ℕ
  word = nth mid (b i)

  abbrev both : ℕ
  both = bit_and (nth mid (a i)) (nth mid (b i))

  b_is : (v : Values) → E v → Known v 0 (product_at d first 0) old → word ≡ v (b i)
  b_is v e k = known-all f v e k (b i) (omega arith) (omega arith)

  m_is : (v : Values) → E v → Known v 0 (product_at d first 0) old → both ≡ bit_and (v (a i)) (v (b i))
  m_is v e k = ap₂ bit_and (known-all f v e k (a i) (omega arith) (omega arith)) (b_is v e k)

  -- where the code finds B, a and b
  pub products_turn : (p y z m : ℕ) → p ≡ x → y ≡ a i → z ≡ b i → m ≡ bit_and (nth mid y) (nth mid z)
      → Fills E (product_at d first 0) (product_at d first (i + 1)) old (set (set (set mid p (nth mid z)) (p + 1) m) (p + 2) m)
  products_turn p y z m p-is y_is z-is is = rw (is, p-is, y_is, z-is) (fills-set both (omega arith) (λ v e k. rw (e i l).2 (m_is v e k))
      (fills-set both (omega arith) (λ v e k. rw (e i l).1 (m_is v e k)) (fills-set word (omega arith) (λ v e k. rw (e i l).0 (b_is v e k)) f)))
