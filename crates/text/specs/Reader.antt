-- Document 01, "Where each refusal is met": the text reader, rules 20, 3 to 6 and 21 in the order of a line.
use Rattle.std.specs.Prelude.{◌&&◌, List, [], ◌∷◌, ◌++◌, ℕ, suc, ◌+◌, leb, eqb, length}
use Rattle.circuit.specs.Limits.{table_limit}
use Rattle.circuit.specs.Lists.{nth}
use Rattle.circuit.specs.Kinds.{kind_of, words, share_count}
use Rattle.circuit.specs.Circuit.{empty}
use Rattle.circuit.specs.Rules.{Judgement, pass, refuse, need, ◌then◌, word_rule}
use Rattle.text.specs.Lines.{Line, lines_of, are_words, words_on}

-- the words of the whole lines before the first refusal, or of all; and the judgement
pub record Read : Type 0 where
  pub found : List ℕ
  pub judgement : Judgement

abbrev pub onward : Judgement → (found : List ℕ) → Read → Read
onward pass found rest = rest
onward (refuse rule line word) found rest = record { found = found; judgement = refuse rule line word }

abbrev pub words_of : Line → List ℕ
words_of l = words_on l.content

-- line n: 20, the line's form
abbrev pub form_rule : ℕ → Line → Judgement
form_rule n l = need (l.ended && are_words l.content) 20 n 0

-- the first line, HEAD: 3, two words and kind 0; 4, its d
abbrev pub head_line_rule : Line → Judgement
head_line_rule l = form_rule 0 l
    then need (eqb (length (words_of l)) 2 && eqb (nth (words_of l) 0) 0) 3 0 0
    then word_rule (empty 0) 0 [] share_count 1 (nth (words_of l) 1)

-- a later line, once d is known: 5, its kind; 6, the kind's number of words
abbrev pub frame_line_rule : (d n : ℕ) → Line → Judgement
frame_line_rule d n l = form_rule n l
    then need (leb 1 (nth (words_of l) 0) && leb (nth (words_of l) 0) 8) 5 n 0
    then need (eqb (length (words_of l)) (suc (words d (kind_of (nth (words_of l) 0))))) 6 n 0

-- 21: so many words fit a table with room for `room`
abbrev pub room_rule : (room n count : ℕ) → Judgement
room_rule room n count = need (leb count room && leb count table_limit) 21 n 0

-- the lines from number n on, behind the words found on the lines before
unfoldable pub frame_lines : (room d n : ℕ) (found : List ℕ) → List Line → Read
frame_lines room d n found [] = record { found = found; judgement = pass }
frame_lines room d n found (l ∷ ls) =
    onward (frame_line_rule d n l then room_rule room n (length found + length (words_of l))) found
    (frame_lines room d (suc n) (found ++ words_of l) ls)

abbrev pub all_lines : (room : ℕ) → List Line → Read
all_lines room [] = record { found = []; judgement = refuse 3 0 0 }
all_lines room (l ∷ ls) =
    onward (head_line_rule l then room_rule room 0 (length (words_of l))) []
    (frame_lines room (nth (words_of l) 1) 1 (words_of l) ls)

-- a text read into a table with room for `room` words
unfoldable pub read_text : (text : List ℕ) (room : ℕ) → Read
read_text text room = all_lines room (lines_of text)
