-- For the contracts of the private functions: the line of a frame's words, and the two digits of a byte as one number.
use Rattle.std.specs.Prelude.{◌≡◌, List, [], ◌∷◌, ◌++◌, ℕ, ◌+◌, ◌*◌, ◌/◌, ◌%◌, ◌<◌, length, get_or}
use Rattle.text.specs.Lines.{space}
use Rattle.writer.specs.Writer.{digit_byte, digits_of, mark_behind}

-- the words of one frame as a line
unfoldable pub line_of : List ℕ → List ℕ
line_of [] = []
line_of (x ∷ rest) = digits_of x ++ mark_behind (length rest) ∷ line_of rest

-- the same with a space behind the last word too, in the line feed's place
unfoldable pub spaced_of : List ℕ → List ℕ
spaced_of [] = []
spaced_of (x ∷ rest) = digits_of x ++ space ∷ spaced_of rest

-- the two digits of a number under 256: the first is the lower byte
abbrev pub pair_of : ℕ → ℕ
pair_of n = digit_byte (n / 16) + 256 * digit_byte (n % 16)

-- those of the numbers under a bound, in a table for all of them
pub record PairsTo (bound : ℕ) (pairs : List ℕ) : Type 0 where
  pub size : length pairs ≡ 256
  pub entry : (n : ℕ) → n < bound → get_or pairs n 0 ≡ pair_of n
