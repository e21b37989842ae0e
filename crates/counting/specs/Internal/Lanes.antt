-- Numbers of eight pairs in the bytes of a word, from bits of 64 pairs in the bits of words; and numbers counted in a tally.
use Rattle.std.specs.Prelude.{◌≡◌, Bool, cond, List, map, ℕ, zero, suc, ◌+◌, ◌*◌, ◌/◌, ◌%◌, ◌<◌, eqb, length}
use Rattle.circuit.specs.Lists.{nth, range}
use Rattle.circuit.specs.Circuit.{is_set}
use Rattle.counting.specs.declared.tallies.Tallies.{Tallies}
use Rattle.counting.specs.Internal.Pairs.{sum_to, number_of}

-- the bit of a pair in a word
abbrev pub lane_bit : (lane word : ℕ) → Bool
lane_bit zero b = is_set (b % 2)
lane_bit (suc l) b = lane_bit l (b / 2)

-- so many bits of a byte, each in a byte of its own
unfoldable pub spread_of : ℕ → ℕ → ℕ
spread_of zero b = 0
spread_of (suc n) b = spread_of n (b / 2) * 256 + b % 2

-- a number for each pair, the number of the pair l in the byte l
unfoldable pub gathered : ℕ → (ℕ → ℕ) → ℕ
gathered zero f = 0
gathered (suc n) f = gathered n (λ l. f (suc l)) * 256 + f 0

-- the number of the combination that a pair shows, from a word for each of so many wires
abbrev pub shown_by : (columns : ℕ → ℕ) (found lane : ℕ) → ℕ
shown_by columns found l = number_of (map (λ i. lane_bit l (columns i)) (range 0 found))

-- the wires' words at one of the four places that each has; of the two words of a set, where each stands
abbrev pub column_of : (shown : List ℕ) (word i : ℕ) → ℕ
column_of shown word i = nth shown (4 * i + word)

abbrev pub place_of : (second : Bool) (word : ℕ) → ℕ
place_of second w = cond second (w + 2) w

-- what a pair of a batch shows under a set
abbrev pub shown_in : (shown : List ℕ) (second : Bool) (found pair : ℕ) → ℕ
shown_in shown second found u = shown_by (column_of shown (place_of second (u / 64))) found (u % 64)

-- one more is counted for each of the first so many pairs, at its number
pub record Adds (number : ℕ → ℕ) (lanes : ℕ) (old new : List ℕ) : Type 0 where
  pub added : (n : ℕ) → n < 256 → nth new n ≡ nth old n + sum_to lanes (λ l. cond (eqb (number l) n) 1 0)
  pub sized : length new ≡ length old

-- the counts under the first set of secret bits, or under the second
abbrev pub tally_of : (second : Bool) → Tallies → List ℕ
tally_of second t = cond second t.second t.first

-- so many more can be counted for any number
abbrev pub HasRoom : Tallies → (lanes : ℕ) → Type 0
HasRoom t lanes = (second : Bool) (n : ℕ) → nth (tally_of second t) n + lanes < 4294967296
