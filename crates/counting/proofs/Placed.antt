-- Sums over free bits of which some vary, by numbers; and the bits at their places.
use mathlib.Core.Path.{◌≡◌, refl, sym, ap, ap₂, ◌∙◌}
use mathlib.Core.Bool.{Bool, true, false, cond}
use mathlib.Core.List.{List, [], ◌∷◌}
use Prim.Native.Nat.{ℕ, zero, suc, ◌+◌, ◌*◌, ◌/◌, ◌^◌, ◌≤◌, ◌<◌}
use native.Mathlib.Nat.{pow-suc}
use native.Mathlib.Omega.{arith}
use lib.ListN.{length}
use Rattle.semantics.specs.Values.{byte, at}
use Rattle.counting.specs.Internal.Pairs.{sum_to, placed, count_varied}
use Rattle.counting.specs.Internal.Lanes.{lane_bit}
use Rattle.counting.proofs.Numbered.{sum_to_same, sum-pairs, digit_of, half_of}

-- the sum over all values of the bits that vary, the others being 0
abbrev pub sum_varied : List Bool → (List Bool → ℕ) → ℕ
sum_varied [] f = f []
sum_varied (true ∷ vs) f = sum_varied vs (λ bs. f (false ∷ bs)) + sum_varied vs (λ bs. f (true ∷ bs))
sum_varied (false ∷ vs) f = sum_varied vs (λ bs. f (false ∷ bs))

placed_of : (vs : List Bool) (t : ℕ) (b : Bool) → placed (true ∷ vs) (t * 2 + byte b) ≡ b ∷ placed vs t
placed_of vs t b = ap₂ ◌∷◌ (digit_of t b) (ap (placed vs) (half_of t b))

pub sum-placed : (vs : List Bool) (f : List Bool → ℕ) → sum_varied vs f ≡ sum_to (2 ^ count_varied vs) (λ t. f (placed vs t))
sum-placed [] f = omega arith
sum-placed (false ∷ vs) f = sum-placed vs (λ bs. f (false ∷ bs))
sum-placed (true ∷ vs) f = rw (pow-suc 2 (count_varied vs)) (ap₂ ◌+◌ (half false (sum-placed vs (λ bs. f (false ∷ bs)))) (half true (sum-placed vs (λ bs. f (true ∷ bs))))
    ∙ sym (sum-pairs (2 ^ count_varied vs) (λ t. f (placed (true ∷ vs) t))))
  where
    half : (b : Bool) → sum_varied vs (λ bs. f (b ∷ bs)) ≡ sum_to (2 ^ count_varied vs) (λ t. f (b ∷ placed vs t))
        → sum_varied vs (λ bs. f (b ∷ bs)) ≡ sum_to (2 ^ count_varied vs) (λ t. f (placed (true ∷ vs) (t * 2 + byte b)))
    half b ih = ih ∙ sum_to_same (2 ^ count_varied vs) (λ t. f (b ∷ placed vs t)) (λ t. f (placed (true ∷ vs) (t * 2 + byte b))) (λ t l. ap f (sym (placed_of vs t b)))

pub placed-length : (vs : List Bool) (t : ℕ) → length (placed vs t) ≡ length vs
placed-length [] t = refl
placed-length (true ∷ vs) t = ap suc (placed-length vs (t / 2))
placed-length (false ∷ vs) t = ap suc (placed-length vs t)

-- how many bits vary before a place; a bit that varies is that digit of the number
abbrev pub rank_in : List Bool → ℕ → ℕ
rank_in [] i = 0
rank_in (b ∷ vs) zero = 0
rank_in (true ∷ vs) (suc i) = suc (rank_in vs i)
rank_in (false ∷ vs) (suc i) = rank_in vs i

pub placed_at : (vs : List Bool) (t i : ℕ) → at (placed vs t) i ≡ cond (at vs i) (lane_bit (rank_in vs i) t) false
placed_at [] t i = refl
placed_at (true ∷ vs) t zero = refl
placed_at (false ∷ vs) t zero = refl
placed_at (true ∷ vs) t (suc i) = placed_at vs (t / 2) i
placed_at (false ∷ vs) t (suc i) = placed_at vs t i

pub rank-few : (vs : List Bool) (i : ℕ) → rank_in vs i ≤ i
rank-few [] i = omega arith
rank-few (b ∷ vs) zero = omega arith
rank-few (true ∷ vs) (suc i) = omega (arith, rank-few vs i)
rank-few (false ∷ vs) (suc i) = omega (arith, rank-few vs i)

pub rank-next : (vs : List Bool) (i : ℕ) → i < length vs → rank_in vs (suc i) ≡ rank_in vs i + byte (at vs i)
rank-next [] i l = absurd (omega arith)
rank-next (true ∷ vs) zero l = one vs
  where
    one : (ws : List Bool) → suc (rank_in ws 0) ≡ 0 + 1
    one [] = refl
    one (b ∷ ws) = refl
rank-next (false ∷ vs) zero l = none vs
  where
    none : (ws : List Bool) → rank_in ws 0 ≡ 0 + 0
    none [] = refl
    none (b ∷ ws) = refl
rank-next (true ∷ vs) (suc i) l = omega (arith, rank-next vs i (omega arith))
rank-next (false ∷ vs) (suc i) l = rank-next vs i (omega arith)

pub rank-all : (vs : List Bool) → rank_in vs (length vs) ≡ count_varied vs
rank-all [] = refl
rank-all (true ∷ vs) = ap suc (rank-all vs)
rank-all (false ∷ vs) = rank-all vs

pub varied-few : (vs : List Bool) → count_varied vs ≤ length vs
varied-few vs = omega (arith, rank-all vs, rank-few vs (length vs))
