-- Free bits that are only added to what the read wires show: counted without going through their values.
use Rattle.std.specs.Prelude.{◌≡◌, Bool, true, cond, List, map, ℕ, zero, suc, ◌+◌, ◌*◌, ◌^◌, ◌≤◌, ◌<◌, leb, length, set}
use Rattle.std.specs.Int.Bits.{bit_xor}
use Rattle.circuit.specs.Lists.{nth, range}
use Rattle.counting.specs.Internal.Lanes.{lane_bit, shown_by}

-- counts, once those free bits from one on that do not vary are counted too: with such a bit set, what is shown differs by its shift
module _ (varied : ℕ → Bool) (shift : ℕ → ℕ) where
  unfoldable pub folded : (count from : ℕ) (counts : ℕ → ℕ) → ℕ → ℕ
  folded zero i f m = f m
  folded (suc n) i f m = cond (varied i) (folded n (suc i) f m) (folded n (suc i) f m + folded n (suc i) f (bit_xor m (shift i)))

-- the variables of one sum are among those of another
abbrev pub Within : (sum all : ℕ) → Type 0
Within m all = (s : ℕ) → lane_bit s m ≡ true → lane_bit s all ≡ true

-- the two sums of a product, where it is needed, are of needed variables, all of them factors
pub record Surveys (terms : List ℕ) (needed factors n : ℕ) : Type 0 where
  pub one : lane_bit (18 + n) needed ≡ true → Within (nth terms (2 * n)) needed × Within (nth terms (2 * n)) factors
  pub other : lane_bit (18 + n) needed ≡ true → Within (nth terms (2 * n + 1)) needed × Within (nth terms (2 * n + 1)) factors

abbrev pub SurveysRange : (terms : List ℕ) (needed factors from to : ℕ) → Type 0
SurveysRange terms needed factors from to = (n : ℕ) → from ≤ n → n < to → Surveys terms needed factors n

-- what a survey from one product to another, the last first, adds to needed variables and to factors
pub record SurveysMore (terms : List ℕ) (from to needed factors needed' factors' : ℕ) : Type 0 where
  pub done : SurveysRange terms needed' factors' from to
  pub needed_more : Within needed needed'
  pub factors_more : Within factors factors'
  pub above : (s : ℕ) → 18 + to ≤ s → lane_bit s needed' ≡ lane_bit s needed

-- the variables that the read wires need, and those that are factors of products among them
pub record Surveyed (sums terms read : List ℕ) (outputs factors : ℕ) : Type 0 where
  pub needed : ℕ
  pub reads : (i : ℕ) → i < length read → Within (nth sums (nth read i)) needed
  pub outs : SurveysRange terms needed factors 0 outputs
  pub inner : SurveysRange terms needed factors 32 (32 + length read)

-- the free bits that vary: those that are factors
abbrev pub varied_in : (factors free : ℕ) → List Bool
varied_in factors n = map (λ i. lane_bit i factors) (range 0 n)

-- by which number what is shown differs where a free bit that does not vary is set: the read wires to which it is added; the
-- numbers of all free bits
abbrev pub shift_in : (sums read : List ℕ) (i : ℕ) → ℕ
shift_in sums read i = shown_by (λ j. nth sums (nth read j)) (length read) i

pub record ShiftsIn (sums read : List ℕ) (free : ℕ) (shifts : List ℕ) : Type 0 where
  pub are : (i : ℕ) → i < free → nth shifts i ≡ shift_in sums read i
  pub low : (i : ℕ) → nth shifts i < 2 ^ length read
  pub sized : length shifts ≡ free

-- the numbers of a tally below one are others
pub record Remade (f : ℕ → ℕ) (count : ℕ) (old new : List ℕ) : Type 0 where
  pub are : (n : ℕ) → n < count → nth new n ≡ f n
  pub rest : (n : ℕ) → count ≤ n → nth new n ≡ nth old n
  pub sized : length new ≡ length old

-- a count and the one whose combination differs by a shift, added, unless that one is the lower
abbrev pub pair_added : (shift n : ℕ) → List ℕ → List ℕ
pair_added shift n old =
    let sum = nth old n + nth old (bit_xor n shift) in
    cond (leb (bit_xor n shift) n) old (set (set old n sum) (bit_xor n shift) sum)
