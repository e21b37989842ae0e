-- How many random bits come before each r of a gadget.
use mathlib.Core.Path.{◌≡◌, ap, ◌∙◌}
use mathlib.Core.Bool.{cond}
use Prim.Native.Nat.{ℕ, zero, suc, ◌+◌, ◌*◌, ◌≤◌, ◌<◌}
use native.Mathlib.Nat.{add-zero}
use native.Mathlib.Omega.{arith}
use Rattle.circuit.specs.Wires.{Gate, random, reg}
use Rattle.semantics.specs.Values.{is_random}

-- the random bits before each wire: one more behind a random gate
abbrev pub Ranks : (size : ℕ) (gate : ℕ → Gate) (rank : ℕ → ℕ) → Type 0
Ranks size gate rank = (x : ℕ) (g : Gate) → x < size → gate x ≡ g → rank (x + 1) ≡ rank x + cond (is_random g) 1 0

module _ (size : ℕ) (gate : ℕ → Gate) (rank : ℕ → ℕ) (ranks : Ranks size gate rank) (first used count : ℕ) (start : rank first ≡ used) where
  -- AND, whose R stand between its r
  pub pairs-rank : ((q : ℕ) → q < count → (gate (first + 2 * q) ≡ random) × (gate (first + 2 * q + 1) ≡ reg (first + 2 * q))) → first + 2 * count ≤ size
      → (q : ℕ) → q ≤ count → rank (first + 2 * q) ≡ used + q
  pairs-rank g room zero l = simp add-zero start
  pairs-rank g room (suc q) l =
      let e : first + 2 * suc q ≡ first + 2 * q + 1 + 1 = omega arith in
      ap rank e ∙ ranks (first + 2 * q + 1) _ (omega arith) (g q l).1 ∙ omega (arith, ranks (first + 2 * q) _ (omega arith) (g q l).0, pairs-rank g room q (omega arith))

  -- REF
  pub masks_rank : ((q : ℕ) → q < count → gate (first + q) ≡ random) → first + count ≤ size → (q : ℕ) → q ≤ count → rank (first + q) ≡ used + q
  masks_rank g room zero l = simp add-zero start
  masks_rank g room (suc q) l =
      let e : first + suc q ≡ first + q + 1 = omega arith in
      ap rank e ∙ omega (arith, ranks (first + q) _ (omega arith) (g q l), masks_rank g room q (omega arith))
