-- Sums over all lists of n bits: how they stand to sums over lists of bytes 0 and 1, and that flipping bits changes none.
use mathlib.Core.Path.{◌≡◌, refl, ap, ap₂}
use mathlib.Core.Bool.{Bool, true, false, cond, ◌&&◌}
use mathlib.Core.List.{List, [], ◌∷◌}
use Prim.Native.Nat.{ℕ, zero, suc, ◌+◌}
use native.Mathlib.Omega.{arith}
use lib.ListN.{length}
use Rattle.circuit.specs.Lists.{◌⊕◌}
use Rattle.semantics.specs.Values.{bits}
use Rattle.semantics.specs.Counts.{sum_over}

-- the sum over all lists of n bits
abbrev pub sum_bits : ℕ → (List Bool → ℕ) → ℕ
sum_bits zero f = f []
sum_bits (suc n) f = sum_bits n (λ t. f (false ∷ t)) + sum_bits n (λ t. f (true ∷ t))

-- summing over bytes is summing over the bits that they stand for
pub overwrite-bits : (n : ℕ) (f : List Bool → ℕ) → sum_over n (λ bs. f (bits bs)) ≡ sum_bits n f
overwrite-bits zero f = refl
overwrite-bits (suc n) f = ap₂ ◌+◌ (overwrite-bits n (λ t. f (false ∷ t))) (overwrite-bits n (λ t. f (true ∷ t)))

-- a condition that does not depend on the list
overwrite-none : (n : ℕ) → sum_over n (λ t. 0) ≡ 0
overwrite-none zero = refl
overwrite-none (suc n) = omega (arith, overwrite-none n)

pub overwrite_if : (b : Bool) (n : ℕ) (f : List ℕ → Bool) → sum_over n (λ t. cond (b && f t) 1 0) ≡ cond b (sum_over n (λ t. cond (f t) 1 0)) 0
overwrite_if true n f = refl
overwrite_if false n f = overwrite-none n

-- terms that are equal for lists of n bits
pub sum_same : (n : ℕ) (f g : List Bool → ℕ) → ((t : List Bool) → length t ≡ n → f t ≡ g t) → sum_bits n f ≡ sum_bits n g
sum_same zero f g h = h [] refl
sum_same (suc n) f g h = ap₂ ◌+◌
    (sum_same n (λ t. f (false ∷ t)) (λ t. g (false ∷ t)) (λ t l. h (false ∷ t) (ap suc l)))
    (sum_same n (λ t. f (true ∷ t)) (λ t. g (true ∷ t)) (λ t l. h (true ∷ t) (ap suc l)))

-- two terms, and two in which the bit is flipped or not
pub sum_swap : (flip : Bool) (f g : Bool → ℕ) → ((b b' : Bool) → b' ≡ (b ⊕ flip) → f b ≡ g b') → f false + f true ≡ g false + g true
sum_swap false f g h = omega (arith, h false false refl, h true true refl)
sum_swap true f g h = omega (arith, h false true refl, h true false refl)

-- a list of bits flipped where a mask is true
unfoldable pub flipped : List Bool → List Bool → List Bool
flipped [] mask = []
flipped (b ∷ bs) [] = b ∷ bs
flipped (b ∷ bs) (m ∷ mask) = (b ⊕ m) ∷ flipped bs mask

pub sum_flipped : (n : ℕ) (g : List Bool → ℕ) (mask : List Bool) → sum_bits n (λ t. g (flipped t mask)) ≡ sum_bits n g
unfolding flipped
sum_flipped zero g mask = refl
sum_flipped (suc n) g [] = refl
sum_flipped (suc n) g (false ∷ mask) = ap₂ ◌+◌ (sum_flipped n (λ t. g (false ∷ t)) mask) (sum_flipped n (λ t. g (true ∷ t)) mask)
sum_flipped (suc n) g (true ∷ mask) = omega (arith, sum_flipped n (λ t. g (false ∷ t)) mask, sum_flipped n (λ t. g (true ∷ t)) mask)
