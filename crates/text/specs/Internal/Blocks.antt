-- For the contracts of the private functions: lines of the text taken a block at a time. The promise of `read` names none of this.
use Rattle.std.specs.Prelude.{◌≡◌, List, ℕ, zero, suc, ◌*◌, ◌-◌, ◌≤◌, ◌<◌, length, get_or, take, drop, Result, Ok, ⊤}
use Rattle.circuit.specs.declared.rules.Rule.{Rule}
use Rattle.text.specs.Lines.{lines_of}
use Rattle.text.specs.Reader.{Read, frame_lines}
use Rattle.text.specs.Answer.{TextAnswer, answer}
use Rattle.text.specs.Internal.Scan.{value_in, count_from, line_rule}

-- how many words a block has at most
abbrev pub block_words : ℕ
block_words = 256

-- the word of a block with which its line number g starts, by the words behind which the lines end; and the line's number of words
abbrev pub start_of : List ℕ → ℕ → ℕ
start_of ends zero = 0
start_of ends (suc g) = get_or ends g 0

abbrev pub count_of : List ℕ → ℕ → ℕ
count_of ends g = get_or ends g 0 - start_of ends g

-- so many lines of a block, none empty
pub record Lines (ends : List ℕ) (lines : ℕ) : Type 0 where
  pub few : lines ≤ block_words
  pub rising : (g : ℕ) → g < lines → start_of ends g < get_or ends g 0
  pub bounded : (g : ℕ) → g < lines → get_or ends g 0 ≤ block_words

-- the line number g of some bytes, of a block of so many words
pub record Whole (bytes ends : List ℕ) (size g : ℕ) : Type 0 where
  pub rising : start_of ends g < get_or ends g 0
  pub bounded : get_or ends g 0 ≤ size
  pub counted : count_from 1 (drop (5 * start_of ends g) bytes) ≡ count_of ends g

-- a block: the first words of some bytes, and the whole lines among them, by the words behind which they end. There is no
-- line only where the first is not of the form, or longer than a block
pub record Split (bytes block ends : List ℕ) (lines : ℕ) : Type 0 where
  pub size : ℕ
  pub most : size ≤ block_words
  pub held : size ≤ length block
  pub few : lines ≤ size
  pub whole : (g : ℕ) → g < lines → Whole bytes ends size g
  pub values : (j : ℕ) → j < size → get_or block j 0 ≡ value_in (drop (5 * j) bytes)
  pub none : lines ≡ 0 → count_from 1 bytes ≤ block_words → count_from 1 bytes ≡ 0

-- the first of rules 5, 6 and 21 that the line number g of a block breaks, with so much room for the block
abbrev pub rule_of : (d : ℕ) (block ends : List ℕ) (room g : ℕ) → Result ⊤ Rule
rule_of d block ends room g = line_rule d (get_or block (start_of ends g) 0) (count_of ends g) (room - start_of ends g)

-- the lines of a block before the first that breaks one of these rules
pub record Taken (d : ℕ) (block ends : List ℕ) (lines room taken : ℕ) : Type 0 where
  pub within : taken ≤ lines
  pub keeps : (g : ℕ) → g < taken → rule_of d block ends room g ≡ Ok tt
  pub breaks : taken < lines → rule_of d block ends room taken ≡ Ok tt → ⊥

-- the lines of a text behind the first, whose two words the table has
abbrev pub rest_read : (d : ℕ) (table text : List ℕ) → Read
rest_read d table text = frame_lines (length table) d 1 (take 2 table) (lines_of text)

abbrev pub rest_answer : (d : ℕ) (table text : List ℕ) → TextAnswer
rest_answer d table text = answer (rest_read d table text).found (rest_read d table text).judgement
