-- The variables that are no products: their words as they are filled in; and lists of sums, written one after the other.
use mathlib.Core.Path.{◌≡◌, refl, sym, ap, ap₂, ◌∙◌}
use mathlib.Core.Bool.{Bool, true, false, cond}
use mathlib.Core.List.{List, [], ◌∷◌, map}
use Prim.Native.Nat.{ℕ, suc, ◌+◌, ◌*◌, ◌%◌, ◌≤◌, ◌<◌}
use native.Mathlib.Nat.{zero-add}
use native.Mathlib.Omega.{arith}
use lib.Dec.{leb}
use lib.ListN.{length, take, length-map}
use lib.Seq.{get_or-take, length-take-le, ext_get_or}
use Rattle.circuit.specs.Lists.{nth, range}
use Rattle.circuit.proofs.Numbered.{map_at, range_at}
use Rattle.circuit.proofs.Sizes.{range_length}
use Rattle.semantics.specs.Values.{byte, at}
use Rattle.simulation.specs.Internal.Evaluating.{packed}
use Rattle.simulation.proofs.Packing.{packed_none}
use Rattle.symbolic.specs.Internal.Sums.{four_at}
use Rattle.symbolic.proofs.Running.{Four, four, fours_next}
use Rattle.counting.specs.Internal.Words.{ones, free_word}
use Rattle.counting.specs.Internal.Pairs.{placed, count_varied}
use Rattle.counting.specs.Internal.Lanes.{lane_bit}
use Rattle.counting.specs.Internal.Linear.{varied_in}
use Rattle.counting.specs.Internal.Preparing.{placed_word, FreeFilled, Variables}
use Rattle.counting.proofs.WordBits.{packed-same}
use Rattle.counting.proofs.Placed.{rank_in, placed_at, rank-few, rank-next, rank-all}

-- the word of a free bit: it varies with the pairs' numbers, or is 0
varied-at : (factors free i : ℕ) → i < free → at (varied_in factors free) i ≡ lane_bit i factors
varied-at factors free i l = map_at (λ j. lane_bit j factors) (range 0 free) i false 0 (omega (arith, range_length 0 free)) ∙ ap (λ j. lane_bit j factors) (range_at 0 free i l ∙ zero-add i)

placed-word : (factors free i number : ℕ) → i < free → (b : Bool) → lane_bit i factors ≡ b → placed_word factors free i number ≡ cond b (free_word (rank_in (varied_in factors free) i) number) 0
placed-word factors free i number l b e =
    let vs = varied_in factors free in
    packed-same 64 (λ t. at (placed vs (64 * number + t)) i) (λ t. cond b (lane_bit (rank_in vs i) (64 * number + t)) false)
    (λ t h. placed_at vs (64 * number + t) i ∙ ap (λ d. cond d (lane_bit (rank_in vs i) (64 * number + t)) false) (varied-at factors free i l ∙ e)) ∙ chosen b
  where
    chosen : (d : Bool) → packed 64 (λ t. cond d (lane_bit (rank_in (varied_in factors free) i) (64 * number + t)) false) ≡ cond d (free_word (rank_in (varied_in factors free) i) number) 0
    chosen true = refl
    chosen false = packed_none 64

-- how many vary before a place, and in all
varied_many : (factors free : ℕ) → length (varied_in factors free) ≡ free
varied_many factors free = length-map (range 0 free) (λ j. lane_bit j factors) ∙ range_length 0 free

pub rank_more : (factors free i : ℕ) → i < free → rank_in (varied_in factors free) (i + 1) ≡ rank_in (varied_in factors free) i + byte (lane_bit i factors)
rank_more factors free i l =
    let vs = varied_in factors free in
    let n : i + 1 ≡ suc i = omega arith in
    ap (rank_in vs) n ∙ rank-next vs i (omega (arith, varied_many factors free)) ∙ ap (λ b. rank_in vs i + byte b) (varied-at factors free i l)

pub rank-none : (vs : List Bool) → rank_in vs 0 ≡ 0
rank-none [] = refl
rank-none (b ∷ vs) = refl

pub rank_free : (factors free i : ℕ) → i ≡ free → rank_in (varied_in factors free) i ≡ count_varied (varied_in factors free)
rank_free factors free i e = ap (rank_in (varied_in factors free)) (e ∙ sym (varied_many factors free)) ∙ rank-all (varied_in factors free)

-- the words of the free bits up to one, and how many of them vary
pub record FilledTo (factors free batch : ℕ) (words : List ℕ) (rank i : ℕ) : Type 0 where
  pub most : i ≤ free
  pub are : (j w : ℕ) → j < i → w < 4 → nth words (4 * j + w) ≡ placed_word factors free j (2 * batch + w % 2)
  pub rank_is : rank ≡ rank_in (varied_in factors free) i
  pub sized : length words ≡ 256

pub filled_start : {factors free batch : ℕ} {words : List ℕ} → length words ≡ 256 → FilledTo factors free batch words 0 0
filled_start {factors} {free} s = record { most = omega arith; are = λ j w l h. absurd (omega arith); rank_is = sym (rank-none (varied_in factors free)); sized = s }

module _ {factors free batch : ℕ} {words : List ℕ} {rank i : ℕ} (t : FilledTo factors free batch words rank i) (l : i < free) where
  pub rank_lt : rank ≤ i
  rank_lt = omega (arith, t.rank_is, rank-few (varied_in factors free) i)

  next-rank : (b : Bool) → lane_bit i factors ≡ b → rank + byte b ≡ rank_in (varied_in factors free) (i + 1)
  next-rank b e = ap₂ ◌+◌ t.rank_is (ap byte (sym e)) ∙ sym (rank_more factors free i l)

  filled-with : {new : List ℕ} {r : ℕ} (b : Bool) → lane_bit i factors ≡ b → r ≡ rank + byte b
      → Four words (4 * i) (λ w. cond b (free_word rank (2 * batch + w % 2)) 0) new → FilledTo factors free batch new r (i + 1)
  filled-with {new} b e n f = record {
    most = omega arith;
    are = fours_next (λ j w. placed_word factors free j (2 * batch + w % 2)) {old = words} {new = new} t.are (record {
      are = λ w h. f.are w h ∙ ap (λ m. cond b (free_word m (2 * batch + w % 2)) 0) t.rank_is ∙ sym (placed-word factors free i (2 * batch + w % 2) l b e);
      below = f.below;
      above = f.above;
      sized = f.sized;
    });
    rank_is = n ∙ next-rank b e;
    sized = f.sized ∙ t.sized;
  }

  pub filled_none : {new : List ℕ} → i < 16 → lane_bit i factors ≡ false → new ≡ four_at words (4 * i) 0 0 0 0 → FilledTo factors free batch new rank (i + 1)
  filled_none {new} few e n = filled-with false e (omega arith) (rw n (four words (4 * i) 0 0 0 0 (λ w. 0) (omega (arith, t.sized)) (refl, refl, refl, refl)))

  pub filled_next : {new : List ℕ} → i < 16 → lane_bit i factors ≡ true
      → new ≡ four_at words (4 * i) (free_word rank (2 * batch)) (free_word rank (2 * batch + 1)) (free_word rank (2 * batch)) (free_word rank (2 * batch + 1))
      → FilledTo factors free batch new (rank + 1) (i + 1)
  filled_next {new} few e n =
      let none : 2 * batch ≡ 2 * batch + 0 = omega arith in
      filled-with true e refl (rw n (four words (4 * i) _ _ _ _ (λ w. free_word rank (2 * batch + w % 2)) (omega (arith, t.sized)) (ap (free_word rank) none, refl, ap (free_word rank) none, refl)))

-- and those of the two variables behind them
pub set_words : {words new : List ℕ} → length words ≡ 256 → new ≡ four_at words 64 0 0 ones ones → Four words 64 (λ w. cond (leb 2 w) ones 0) new
set_words {words} s e = rw e (four words 64 0 0 ones ones (λ w. cond (leb 2 w) ones 0) (omega arith) (refl, refl, refl, refl))

pub one-words : {words new : List ℕ} → length words ≡ 256 → new ≡ four_at words 68 ones ones ones ones → Four words 68 (λ w. ones) new
one-words {words} s e = rw e (four words 68 ones ones ones ones (λ w. ones) (omega arith) (refl, refl, refl, refl))

pub filled_end : {factors free batch : ℕ} {words mid new : List ℕ} → free ≤ 16 → FreeFilled factors free batch words → Four words 64 (λ w. cond (leb 2 w) ones 0) mid
    → Four mid 68 (λ w. ones) new
    → Variables factors free batch new
filled_end few t f g = record {
  free_are = λ i w k h. g.below (4 * i + w) (omega arith) ∙ f.below (4 * i + w) (omega arith) ∙ t.are i w k h;
  set = λ w h. g.below (64 + w) (omega arith) ∙ f.are w h;
  one = g.are;
  sized = g.sized ∙ f.sized ∙ t.sized;
}

-- a list that a function gives, up to a place
pub record GivenTo (f : ℕ → ℕ) (size : ℕ) (list : List ℕ) (i : ℕ) : Type 0 where
  pub are : (j : ℕ) → j < i → nth list j ≡ f j
  pub sized : length list ≡ size

pub given_end : {f : ℕ → ℕ} {size i : ℕ} {list : List ℕ} → GivenTo f size list i → (n : ℕ) → n ≤ i → n ≤ size → take n list ≡ map f (range 0 n)
given_end {f} {size} {i} {list} t n l room =
    let s : length (take n list) ≡ n = length-take-le n list (omega (arith, t.sized)) in
    ext_get_or 0 (take n list) (map f (range 0 n)) (s ∙ sym (length-map (range 0 n) f ∙ range_length 0 n))
    (λ j h. let k : j < n = omega (arith, s) in get_or-take n list j 0 k ∙ t.are j (omega arith)
    ∙ sym (map_at f (range 0 n) j 0 0 (omega (arith, range_length 0 n)) ∙ ap f (range_at 0 n j k ∙ zero-add j)))
