-- Bits of eight pairs in a byte of each column, and the numbers that they make up.
use mathlib.Core.Path.{◌≡◌, refl, sym, ap, ap₂, ◌∙◌}
use mathlib.Core.Bool.{Bool, true, false, ◌&&◌}
use mathlib.Core.List.{List, [], ◌∷◌, ◌++◌, map, map-append}
use Prim.Native.Nat.{ℕ, zero, suc, ◌+◌, ◌*◌, ◌/◌, ◌%◌, ◌^◌, ◌≤◌, ◌<◌}
use native.Mathlib.Nat.{pow-suc, zero-add}
use native.Mathlib.Numerals.{add-one}
use native.Mathlib.Omega.{arith}
use lib.Bits.{bit_and, and_block}
use lib.Dec.{ltb, eqb}
use lib.ListN.{length, length-append, length-map}
use borrow.Author.Tests.{ltb-true, ltb-false, eqb-true}
use Rattle.circuit.specs.Lists.{range}
use Rattle.circuit.proofs.Base.{cases, and_left, and_right}
use Rattle.circuit.proofs.Sizes.{range_length}
use Rattle.semantics.specs.Values.{byte}
use Rattle.gadgets.proofs.Bits.{set-byte}
use Rattle.gadgets.proofs.Ranges.{range_split}
use Rattle.counting.specs.Internal.Pairs.{number_of}
use Rattle.counting.specs.Internal.Lanes.{lane_bit, spread_of, gathered, shown_by}
use Rattle.counting.proofs.Numbered.{pow_mono, number_lt}
use Rattle.counting.proofs.WordBits.{lane_part}

-- a test that holds of all numbers below another
all_to : (ℕ → Bool) → ℕ → Bool
all_to p zero = true
all_to p (suc n) = p n && all_to p n

all_to_lem : (p : ℕ → Bool) (n : ℕ) → all_to p n ≡ true → (m : ℕ) → m < n → p m ≡ true
unfolding all_to
all_to_lem p zero h m l = absurd (omega arith)
all_to_lem p (suc n) h m l = cases (ltb m n)
    (λ e. all_to_lem p n (and_right (p n) (all_to p n) h) m (ltb-true m n e))
    (λ e. let same : m ≡ n = omega (arith, ltb-false m n e) in ap p same ∙ and_left (p n) (all_to p n) h)

-- the bits of half a byte, spread by one product
halves : all_to (λ b. eqb (bit_and (b * 0x00204081) 0x01010101) (spread_of 4 b)) 16 ≡ true
unfolding all_to spread_of
halves = refl

pub half_spread : (b : ℕ) → b < 16 → bit_and (b * 0x00204081) 0x01010101 ≡ spread_of 4 b
half_spread b h = eqb-true _ _ (all_to_lem (λ b. eqb (bit_and (b * 0x00204081) 0x01010101) (spread_of 4 b)) 16 halves b h)

pub two_halves : (b : ℕ) → spread_of 8 b ≡ spread_of 4 (b / 16) * 0x100000000 + spread_of 4 (b % 16)
unfolding spread_of
two_halves b =
    let h = b / 16 in
    let l = b % 16 in
    let e : b ≡ 16 * h + l = omega arith in
    let one : b / 2 ≡ 8 * h + l / 2 = omega arith in
    let two : (8 * h + l / 2) / 2 ≡ 4 * h + l / 2 / 2 = omega arith in
    let three : (4 * h + l / 2 / 2) / 2 ≡ 2 * h + l / 2 / 2 / 2 = omega arith in
    let four : (2 * h + l / 2 / 2 / 2) / 2 ≡ h = omega arith in
    let p : b % 2 ≡ l % 2 = omega arith in
    let q : (8 * h + l / 2) % 2 ≡ l / 2 % 2 = omega arith in
    let r : (4 * h + l / 2 / 2) % 2 ≡ l / 2 / 2 % 2 = omega arith in
    let s : (2 * h + l / 2 / 2 / 2) % 2 ≡ l / 2 / 2 / 2 % 2 = omega arith in
    rw (one, two, three, four, p, q, r, s) (joined (spread_of 4 h) (l / 2 / 2 / 2 % 2) (l / 2 / 2 % 2) (l / 2 % 2) (l % 2))
  where
    joined : (h x y z w : ℕ) → (((h * 256 + x) * 256 + y) * 256 + z) * 256 + w ≡ h * 0x100000000 + ((((0 * 256 + x) * 256 + y) * 256 + z) * 256 + w)
    joined h x y z w = omega arith

-- the bits of a byte, both halves spread by one product
pub byte_spread : (b : ℕ) → b < 256 → bit_and ((b / 16 * 0x100000000 + b % 16) * 0x00204081) 0x0101010101010101 ≡ spread_of 8 b
byte_spread b h =
    let high = b / 16 in
    let low = b % 16 in
    let e : (high * 0x100000000 + low) * 0x00204081 ≡ high * 0x00204081 * 0x100000000 + low * 0x00204081 = omega arith in
    ap (λ n. bit_and n 0x0101010101010101) e ∙ and_block 32 (high * 0x00204081) 0x01010101 (low * 0x00204081) 0x01010101 (omega arith) (omega arith)
    ∙ ap₂ (λ x y. x * 0x100000000 + y) (half_spread high (omega arith)) (half_spread low (omega arith)) ∙ sym (two_halves b)

pub spread_lanes : (n b : ℕ) → spread_of n b ≡ gathered n (λ l. byte (lane_bit l b))
unfolding spread_of gathered
spread_lanes zero b = refl
spread_lanes (suc n) b = ap₂ (λ x y. x * 256 + y) (spread_lanes n (b / 2)) (set-byte (b % 2) (omega arith))

pub gathered-same : (n : ℕ) (f g : ℕ → ℕ) → ((l : ℕ) → l < n → f l ≡ g l) → gathered n f ≡ gathered n g
unfolding gathered
gathered-same zero f g h = refl
gathered-same (suc n) f g h = ap₂ (λ x y. x * 256 + y) (gathered-same n (λ l. f (suc l)) (λ l. g (suc l)) (λ l k. h (suc l) (omega arith))) (h 0 (omega arith))

pub gathered_twice : (n : ℕ) (f g : ℕ → ℕ) → 2 * gathered n f + gathered n g ≡ gathered n (λ l. 2 * f l + g l)
unfolding gathered
gathered_twice zero f g = refl
gathered_twice (suc n) f g = omega (arith, gathered_twice n (λ l. f (suc l)) (λ l. g (suc l)))

pub gathered_zero : (n : ℕ) → gathered n (λ l. 0) ≡ 0
unfolding gathered
gathered_zero zero = refl
gathered_zero (suc n) = omega (arith, gathered_zero n)

pub gathered_lt : (n : ℕ) (f : ℕ → ℕ) → ((l : ℕ) → f l < 256) → gathered n f < 256 ^ n
unfolding gathered
gathered_lt zero f h = omega arith
gathered_lt (suc n) f h = rw (pow-suc 256 n) (omega (arith, gathered_lt n (λ l. f (suc l)) (λ l. h (suc l)), h 0))

-- one bit more, the lowest
pub number-next : (bs : List Bool) (b : Bool) → number_of (bs ++ b ∷ []) ≡ 2 * number_of bs + byte b
number-next [] b = omega arith
number-next (true ∷ bs) b = rw (length-append bs (b ∷ []), add-one (length bs), pow-suc 2 (length bs)) (omega (arith, number-next bs b))
number-next (false ∷ bs) b = omega (arith, number-next bs b)

-- what eight pairs show on one wire more
pub shown-small : (columns : ℕ → ℕ) (found l : ℕ) → found ≤ 8 → shown_by columns found l < 256
shown-small columns found l few =
    let bs = map (λ i. lane_bit l (columns i)) (range 0 found) in
    omega (arith, number_lt bs, pow_mono 8 (length bs) (omega (arith, length-map (range 0 found) (λ i. lane_bit l (columns i)), range_length 0 found)))

pub shown-next : (columns : ℕ → ℕ) (i l : ℕ) → shown_by columns (i + 1) l ≡ 2 * shown_by columns i l + byte (lane_bit l (columns i))
shown-next columns i l =
    let bit : ℕ → Bool = λ j. lane_bit l (columns j) in
    ap (λ r. number_of (map bit r)) (range_split 0 i 1 ∙ ap (λ n. range 0 i ++ n ∷ []) (zero-add i)) ∙ ap number_of (map-append bit (range 0 i) (i ∷ [])) ∙ number-next (map bit (range 0 i)) (bit i)

pub gather_turn : (columns : ℕ → ℕ) (i numbers : ℕ) → numbers ≡ gathered 8 (shown_by columns i) → 2 * numbers + spread_of 8 (columns i % 256) ≡ gathered 8 (shown_by columns (i + 1))
gather_turn columns i numbers e =
    let b = columns i % 256 in
    ap₂ (λ x y. 2 * x + y) e (spread_lanes 8 b) ∙ gathered_twice 8 (shown_by columns i) (λ l. byte (lane_bit l b))
    ∙ gathered-same 8 (λ l. 2 * shown_by columns i l + byte (lane_bit l b)) (shown_by columns (i + 1))
    (λ l h. ap (λ t. 2 * shown_by columns i l + byte t) (lane_part 8 l (columns i) h) ∙ sym (shown-next columns i l))

-- the first of them
pub gathered-first : (n rest : ℕ) (f : ℕ → ℕ) → f 0 < 256 → rest ≡ gathered (suc n) f → (rest % 256 ≡ f 0) × (rest / 256 ≡ gathered n (λ l. f (suc l)))
unfolding gathered
gathered-first n rest f h e = (omega arith, omega arith)
