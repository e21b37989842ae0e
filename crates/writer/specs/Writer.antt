-- Document 02: an accepted table written as the lines of document 01, rule 23, and what reading such a text gives.
use Rattle.std.specs.Prelude.{◌≡◌, cond, List, [], ◌∷◌, ◌++◌, ℕ, zero, suc, ◌+◌, ◌/◌, ◌%◌, ◌≤◌, leb, length}
use Rattle.circuit.specs.Lists.{nth}
use Rattle.circuit.specs.Kinds.{kind_of, words}
use Rattle.circuit.specs.Rules.{Judgement, pass, need, ◌then◌, checked}
use Rattle.semantics.specs.Calls.{written}
use Rattle.text.specs.Lines.{line_feed, space}
use Rattle.text.specs.Reader.{read_text}
use Rattle.text.specs.Answer.{TextAnswer, answer}

-- the byte of a digit: 0 to 9 are the bytes 48 to 57, A to F are 65 to 70
abbrev pub digit_byte : ℕ → ℕ
digit_byte n = cond (leb n 9) (48 + n) (55 + n)

-- the four digits of a word, the highest first
abbrev pub digits_of : ℕ → List ℕ
digits_of x = digit_byte (x / 4096) ∷ digit_byte (x / 256 % 16) ∷ digit_byte (x / 16 % 16) ∷ digit_byte (x % 16) ∷ []

-- the mark behind a word, so many words of its frame being left: a space, or a line feed where none is
abbrev pub mark_behind : ℕ → ℕ
mark_behind zero = line_feed
mark_behind (suc n) = space

-- the words of frames as lines, one frame a line. A frame's words are counted by its kind; `left` words of a frame that has begun
-- come first
unfoldable pub lines_from : (d left : ℕ) → List ℕ → List ℕ
lines_from d left [] = []
lines_from d (suc n) (x ∷ rest) = digits_of x ++ mark_behind n ∷ lines_from d n rest
lines_from d zero (x ∷ rest) =
    let n = words d (kind_of x) in
    digits_of x ++ mark_behind n ∷ lines_from d n rest

-- the text of a table, from HEAD on, whose second word is d
unfoldable pub text_of : List ℕ → List ℕ
text_of table = lines_from (nth table 1) 0 table

-- a call with notes and a text buffer: the checker's judgement; then 23, the lent text is too short for all lines
unfoldable pub write_rule : (table notes text : List ℕ) → Judgement
write_rule table notes text = (checked table (length notes)).judgement
    then need (leb (length (text_of table)) (length text)) 23 0 0

-- its answer, with the number of bytes where it is accepted; and the text buffer after it
abbrev pub write_answer : (table notes text : List ℕ) → TextAnswer
write_answer table notes text = answer (text_of table) (write_rule table notes text)

abbrev pub text_after : (table notes text : List ℕ) → List ℕ
text_after table notes text = written (write_rule table notes text) (text_of table) text

-- the reader accepts a text as a table: these very words, with a table that has room for `room` words
abbrev pub ReadAs : (text : List ℕ) (room : ℕ) (table : List ℕ) → Type 0
ReadAs text room table = read_text text room ≡ record { found = table; judgement = pass }

-- with room for the table, the reader accepts its text as this very table
abbrev pub ReadsBack : List ℕ → Type 0
ReadsBack table = (room : ℕ) → length table ≤ room → ReadAs (text_of table) room table

-- whatever text the reader accepts as the table, with any room, is its text
abbrev pub OnlyText : List ℕ → Type 0
OnlyText table = (text : List ℕ) (room : ℕ) → ReadAs text room table → text ≡ text_of table
