-- Document 01: the lines of a text, and the words on a line, of four digits 0-9A-F with one space between.
use Rattle.std.specs.Prelude.{Bool, true, false, cond, ◌&&◌, ◌||◌, List, [], ◌∷◌, ℕ, ◌+◌, ◌*◌, ◌-◌, leb, eqb}

abbrev pub line_feed : ℕ
line_feed = 10

abbrev pub space : ℕ
space = 32

-- the digits 0 to 9 are the bytes 48 to 57, A to F are 65 to 70
abbrev pub is_decimal : ℕ → Bool
is_decimal b = leb 48 b && leb b 57

abbrev pub is_letter : ℕ → Bool
is_letter b = leb 65 b && leb b 70

abbrev pub is_digit : ℕ → Bool
is_digit b = is_decimal b || is_letter b

abbrev pub digit : ℕ → ℕ
digit b = cond (is_decimal b) (b - 48) (b - 55)

abbrev pub are_digits : (a b c e : ℕ) → Bool
are_digits a b c e = is_digit a && is_digit b && is_digit c && is_digit e

abbrev pub word : (a b c e : ℕ) → ℕ
word a b c e = digit a * 4096 + digit b * 256 + digit c * 16 + digit e

-- a line's bytes, and whether a line feed ends it
pub record Line : Type 0 where
  pub content : List ℕ
  pub ended : Bool

abbrev pub line : List ℕ → Bool → Line
line content ended = record { content = content; ended = ended }

-- a byte in front of the first line
abbrev pub grow : ℕ → List Line → List Line
grow b [] = line (b ∷ []) false ∷ []
grow b (l ∷ ls) = line (b ∷ l.content) l.ended ∷ ls

unfoldable pub lines_of : List ℕ → List Line
lines_of [] = []
lines_of (b ∷ bs) = cond (eqb b line_feed) (line [] true ∷ lines_of bs) (grow b (lines_of bs))

-- whether bytes are words with one space between, and at least one word
unfoldable pub are_words : List ℕ → Bool
are_words [] = false
are_words (a ∷ []) = false
are_words (a ∷ b ∷ []) = false
are_words (a ∷ b ∷ c ∷ []) = false
are_words (a ∷ b ∷ c ∷ e ∷ []) = are_digits a b c e
are_words (a ∷ b ∷ c ∷ e ∷ s ∷ rest) = are_digits a b c e && eqb s space && are_words rest

-- the words of such bytes
unfoldable pub words_on : List ℕ → List ℕ
words_on [] = []
words_on (a ∷ []) = []
words_on (a ∷ b ∷ []) = []
words_on (a ∷ b ∷ c ∷ []) = []
words_on (a ∷ b ∷ c ∷ e ∷ []) = word a b c e ∷ []
words_on (a ∷ b ∷ c ∷ e ∷ s ∷ rest) = word a b c e ∷ words_on rest
