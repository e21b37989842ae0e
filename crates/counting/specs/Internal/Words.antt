-- 64 pairs at once: the words of their free bits, and of the shares that these make up with given secret bits.
use Rattle.std.specs.Prelude.{List, [], ◌∷◌, ◌++◌, ℕ, ◌+◌, ◌*◌, take, drop}
use Rattle.std.specs.Int.Bits.{bit_xor}
use Rattle.simulation.specs.Internal.Evaluating.{packed}
use Rattle.counting.specs.Internal.Lanes.{lane_bit}

-- the word of a bit that all 64 pairs have
abbrev pub ones : ℕ
ones = 0xFFFFFFFFFFFFFFFF

-- the word of a free bit of 64 pairs, the first of which has the number 64 · number
abbrev pub free_word : (i number : ℕ) → ℕ
free_word i number = packed 64 (λ l. lane_bit i (64 * number + l))

-- words, and behind them the one that makes their sum a given one
unfoldable pub shares_of : (last : ℕ) → List ℕ → List ℕ
shares_of x [] = x ∷ []
shares_of x (w ∷ ws) = w ∷ shares_of (bit_xor x w) ws

-- the same for each of these, with the next so many words
unfoldable pub all_shares : (others : ℕ) (lasts words : List ℕ) → List ℕ
all_shares n [] ws = []
all_shares n (z ∷ zs) ws = shares_of z (take n ws) ++ all_shares n zs (drop n ws)
