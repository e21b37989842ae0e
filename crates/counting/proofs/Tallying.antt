-- The pairs of each set counted, batch by batch.
use mathlib.Core.Path.{◌≡◌, refl, sym, ap, subst, ◌∙◌}
use mathlib.Core.Bool.{Bool}
use mathlib.Core.List.{List, map, map-map}
use Prim.Native.Nat.{ℕ, zero, suc, ◌+◌, ◌*◌, ◌/◌, ◌%◌, ◌^◌, ◌≤◌, ◌<◌}
use native.Mathlib.Nat.{mul-le-mul_right}
use native.Mathlib.Omega.{arith}
use lib.ListN.{length, replicate, length-map}
use Rattle.circuit.specs.Lists.{nth, range}
use Rattle.circuit.proofs.Sizes.{range_length}
use Rattle.semantics.specs.Values.{bits, at}
use Rattle.gadgets.specs.Internal.Accepting.{circuit_in}
use Rattle.counting.specs.Internal.Pairs.{number_of, values_with, number_with, shown_among, placed, count_varied, Divides}
use Rattle.counting.specs.Internal.Lanes.{lane_bit, column_of, place_of, shown_in, Adds}
use Rattle.counting.specs.Internal.Tallying.{HoldsShown, set_of, TalliedSome}
use Rattle.counting.specs.Internal.Linear.{varied_in}
use Rattle.counting.proofs.Numbered.{pow_mono, by_place}
use Rattle.counting.proofs.WordBits.{packed_lane}
use Rattle.counting.proofs.Adding.{adds_none, adds_more, adds-few}
use Rattle.counting.proofs.Columns.{number_same}
use Rattle.counting.proofs.Placed.{varied-few}

-- no count at first
pub zeros_at : (m n : ℕ) → nth (replicate m 0) n ≡ 0
zeros_at zero n = refl
zeros_at (suc m) zero = refl
zeros_at (suc m) (suc n) = zeros_at m n

-- the number of the combination that a pair shows on wires; of wires by their places on a list
abbrev number_in : (table secrets wires : List ℕ) (factors free pair : ℕ) → ℕ
number_in table secrets wires factors free u = number_with (circuit_in table) (bits secrets) wires (placed (varied_in factors free) u)

pub number_placed : (f : ℕ → Bool) (read : List ℕ) → number_of (map f read) ≡ number_of (map (λ i. f (nth read i)) (range 0 (length read)))
number_placed f read = ap (λ xs. number_of (map f xs)) (by_place read 0) ∙ ap number_of (map-map f (nth read) (range 0 (length read)))

-- the pairs of the batches so far are counted
pub record TalliedTo (table secrets wires : List ℕ) (factors free : ℕ) (old tally : List ℕ) (batch lanes : ℕ) : Type 0 where
  pub counted : Adds (number_in table secrets wires factors free) (batch * lanes) old tally
  pub none : (n : ℕ) → nth old n ≡ 0
  pub wide : length old ≡ 256

pub tallied_start : {table secrets wires : List ℕ} {factors free : ℕ} {old : List ℕ} {lanes : ℕ} → length old ≡ 256 → ((n : ℕ) → nth old n ≡ 0)
    → TalliedTo table secrets wires factors free old old 0 lanes
tallied_start {table} {secrets} {wires} {factors} {free} {old} {lanes} s h =
    let z : 0 ≡ 0 * lanes = omega arith in
    let number = number_in table secrets wires factors free in
    record { counted = subst (λ n. Adds number n old old) z (adds_none number old); none = h; wide = s }

-- one batch more
module _ {table secrets read : List ℕ} (second : Bool) {factors free : ℕ} {old tally : List ℕ} {batch lanes : ℕ}
    (t : TalliedTo table (set_of table second secrets) read factors free old tally batch lanes) (behind : batch * lanes ≡ 128 * batch) (most : lanes ≤ 128)
    {shown : List ℕ} (h : HoldsShown table secrets factors free batch read shown) where
  pair_shows : (u : ℕ) → u < lanes → shown_in shown second (length read) u ≡ number_in table (set_of table second secrets) read factors free (batch * lanes + u)
  pair_shows u l =
      let value : ℕ → ℕ → Bool = λ p x. at (values_with (circuit_in table) (bits (set_of table second secrets)) (placed (varied_in factors free) p)) x in
      let e : 64 * (2 * batch + u / 64) + u % 64 ≡ batch * lanes + u = omega arith in
      number_same (λ i. lane_bit (u % 64) (column_of shown (place_of second (u / 64)) i)) (λ i. value (batch * lanes + u) (nth read i)) (length read)
      (λ i k. ap (lane_bit (u % 64)) (h.are second i (u / 64) k (omega arith)) ∙ packed_lane 64 (u % 64) (λ p. value (64 * (2 * batch + u / 64) + p) (nth read i)) (omega arith)
      ∙ ap (λ p. value p (nth read i)) e)
      ∙ sym (number_placed (value (batch * lanes + u)) read)

  pub tallied_next : {new : List ℕ} → Adds (shown_in shown second (length read)) lanes tally new → TalliedTo table (set_of table second secrets) read factors free old new (batch + 1) lanes
  tallied_next {new} a =
      let more : batch * lanes + lanes ≡ (batch + 1) * lanes = omega arith in
      record { counted = subst (λ n. Adds (number_in table (set_of table second secrets) read factors free) n old new) more (adds_more t.counted a pair_shows); none = t.none; wide = t.wide }

-- the counts stay small
module _ {table secrets wires : List ℕ} {factors free : ℕ} {old tally : List ℕ} {batch lanes : ℕ} (t : TalliedTo table secrets wires factors free old tally batch lanes) where
  pub tallied_few : (n : ℕ) → nth tally n ≤ batch * lanes
  tallied_few n = omega (arith, adds-few t.counted t.wide n, t.none n)

  pub tallied_small : {varied count : ℕ} → Divides varied count lanes → batch ≤ count → varied ≤ 16 → (n : ℕ) → nth tally n ≤ 65536
  tallied_small {varied} d l few n = omega (arith, tallied_few n, mul-le-mul_right lanes l, d.all, pow_mono 16 varied few)

  pub tallied_end : {count : ℕ} → Divides (count_varied (varied_in factors free)) count lanes → batch ≡ count → count_varied (varied_in factors free) ≤ 16
      → TalliedSome table secrets wires factors free tally
  tallied_end {count} d e few =
      let all : batch * lanes ≡ 2 ^ count_varied (varied_in factors free) = ap (λ n. n * lanes) e ∙ d.all in
      record {
        counts = λ n z. t.counted.added n z ∙ omega (arith, t.none n, ap (λ m. shown_among (circuit_in table) (bits secrets) wires (placed (varied_in factors free)) m n) all);
        few = tallied_small d (omega arith) few;
        sized = t.counted.sized ∙ t.wide;
      }

-- no more bits vary than there are
pub varied-most : (factors free : ℕ) → free ≤ 16 → count_varied (varied_in factors free) ≤ 16
varied-most factors free l = omega (arith, varied-few (varied_in factors free), length-map (range 0 free) (λ i. lane_bit i factors), range_length 0 free)
