-- The list of random bits: one test of the whole list, and what it says of each number.
use mathlib.Core.Path.{◌≡◌, refl, ap, ◌∙◌}
use mathlib.Core.Bool.{true}
use mathlib.Core.List.{List, [], ◌∷◌}
use Prim.Native.Nat.{ℕ, zero, suc, ◌+◌, ◌*◌, ◌-◌, ◌≤◌, ◌<◌}
use native.Mathlib.Nat.{mul-le-mul}
use native.Mathlib.Omega.{arith}
use lib.Dec.{eqb}
use lib.ListN.{length}
use borrow.Author.Tests.{eqb-true, le-leb}
use Rattle.circuit.specs.Lists.{nth}
use Rattle.circuit.specs.Kinds.{pairs}
use Rattle.circuit.proofs.Base.{and_left, and_right}
use Rattle.circuit.proofs.Sizes.{pairs_twice}
use Rattle.frames.specs.Randoms.{doubled, listed_pairs}

-- a number that the test passes is the number of pairs
listed_at : (d : ℕ) (ns : List ℕ) → doubled d ns ≡ true → (i : ℕ) → i < length ns → nth ns i ≡ pairs (d + i)
listed_at d [] t i l = absurd (omega arith)
listed_at d (n ∷ ns) t zero l =
    let e : d + 0 ≡ d = omega arith in
    rw e (omega (arith, eqb-true (n * 2) (d * (d - 1)) (and_left _ (doubled (suc d) ns) t), pairs_twice d))
listed_at d (n ∷ ns) t (suc i) l =
    let e : d + suc i ≡ suc d + i = omega arith in
    rw e (listed_at (suc d) ns (and_right (eqb (n * 2) (d * (d - 1))) _ t) i (omega arith))

-- the code's list: seven numbers, of which the first is that of two shares
pub from-two : (ns : List ℕ) → length ns ≡ 7 → doubled 2 ns ≡ true → (d : ℕ) → 2 ≤ d → d ≤ 8 → nth ns (d - 2) ≡ pairs d
from-two ns seven t d h k = listed_at 2 ns t (d - 2) (omega arith) ∙ ap pairs (omega arith)

-- what the list answers up to eight shares
pub listed-right : (d : ℕ) → d ≤ 8 → listed_pairs d ≡ pairs d
listed-right d h = rw (le-leb d 8 h)

-- fewer shares have no pair, and up to eight have few
pub no_pairs : (d : ℕ) → d < 2 → pairs d ≡ 0
no_pairs zero h = refl
no_pairs (suc zero) h = refl
no_pairs (suc (suc d)) h = absurd (omega arith)

pub few-pairs : (d : ℕ) → d ≤ 8 → pairs d ≤ 28
few-pairs d h = omega (arith, pairs_twice d, mul-le-mul {n₁ = d} {m₁ = d - 1} {n₂ = 8} {m₂ = 7} h (omega arith))
