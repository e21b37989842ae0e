-- For the contracts of the private functions: a line by its count of words. The promise of `read` names none of this.
use Rattle.std.specs.Prelude.{◌≡◌, Bool, false, cond, ◌&&◌, ◌||◌, List, [], ◌∷◌, ℕ, zero, suc, ◌+◌, ◌*◌, ◌≤◌, min, leb, ltb, eqb, length, get_or, drop}
use Rattle.std.specs.Prelude.{Option, Some, None, Result, Ok, Err, ⊤}
use Rattle.circuit.specs.Limits.{table_limit}
use Rattle.circuit.specs.Circuit.{empty}
use Rattle.circuit.specs.Rules.{Judgement, pass, refuse, need, ◌then◌, word_rule}
use Rattle.circuit.specs.Refusals.{number_of}
use Rattle.circuit.specs.declared.rules.Refusal.{Refusal}
use Rattle.circuit.specs.declared.rules.Rule.{Rule}
use Rattle.circuit.specs.declared.rules.Rule.TheVariants.{Kind as KindRule, WordCount, TableRoom, Line}
use Rattle.circuit.specs.Kinds.{share_count, kind_of, words}
use Rattle.text.specs.Lines.{line_feed, space, is_digit, digit, are_digits, word}
use Rattle.text.specs.Reader.{room_rule}

-- so many numbers of one value, in front of others
abbrev pub row : (count value : ℕ) → List ℕ → List ℕ
row zero x xs = xs
row (suc n) x xs = x ∷ row n x xs

-- whether a byte may stand behind a word
abbrev pub is_mark : ℕ → Bool
is_mark b = eqb b line_feed || eqb b space

-- 1 for a line feed, 0 for another byte
abbrev pub feed_of : ℕ → ℕ
feed_of b = cond (eqb b line_feed) 1 0

-- what a byte counts that is not of the form: more than the bytes of a word have together
abbrev pub no_code : ℕ
no_code = 4096

-- the value of a digit
unfoldable pub digit_code : ℕ → ℕ
digit_code b = cond (is_digit b) (digit b) no_code

-- 0 for a space, 1 for a line feed
unfoldable pub mark_code : ℕ → ℕ
mark_code b = cond (is_mark b) (feed_of b) no_code

-- by a byte: its code as a digit, and behind all of them its code as a mark
unfoldable pub code_table : List ℕ
code_table =
    row 48 no_code (0 ∷ 1 ∷ 2 ∷ 3 ∷ 4 ∷ 5 ∷ 6 ∷ 7 ∷ 8 ∷ 9 ∷ row 7 no_code (10 ∷ 11 ∷ 12 ∷ 13 ∷ 14 ∷ 15 ∷ row 185 no_code
    (row 10 no_code (1 ∷ row 21 no_code (0 ∷ row 223 no_code [])))))

-- the code of two digits in a row
abbrev pub pair_code : (a b : ℕ) → ℕ
pair_code a b = digit_code a * 16 + digit_code b

-- the most that the codes of two pairs of digits and of a mark have together
abbrev pub most_codes : ℕ
most_codes = 143360

-- the codes of the first five bytes: two digits, two more, and what stands behind them
pub record Coded (bytes : List ℕ) (high low mark : ℕ) : Type 0 where
  pub first : high ≡ pair_code (get_or bytes 0 0) (get_or bytes 1 0)
  pub second : low ≡ pair_code (get_or bytes 2 0) (get_or bytes 3 0)
  pub behind : mark ≡ mark_code (get_or bytes 4 0)
  pub inside : 5 ≤ length bytes

-- whether bytes begin with a word: four digits and a mark
unfoldable pub is_word : List ℕ → Bool
is_word [] = false
is_word (a ∷ []) = false
is_word (a ∷ b ∷ []) = false
is_word (a ∷ b ∷ c ∷ []) = false
is_word (a ∷ b ∷ c ∷ e ∷ []) = false
is_word (a ∷ b ∷ c ∷ e ∷ s ∷ rest) = are_digits a b c e && is_mark s

-- the value of the word that bytes begin with
unfoldable pub value_in : List ℕ → ℕ
value_in [] = 0
value_in (a ∷ []) = 0
value_in (a ∷ b ∷ []) = 0
value_in (a ∷ b ∷ c ∷ []) = 0
value_in (a ∷ b ∷ c ∷ e ∷ rest) = word a b c e

-- how many words the first line of some bytes has, its first being the n-th; 0 where the line is not of the form
unfoldable pub count_from : ℕ → List ℕ → ℕ
count_from n [] = 0
count_from n (a ∷ []) = 0
count_from n (a ∷ b ∷ []) = 0
count_from n (a ∷ b ∷ c ∷ []) = 0
count_from n (a ∷ b ∷ c ∷ e ∷ []) = 0
count_from n (a ∷ b ∷ c ∷ e ∷ s ∷ rest) =
    cond (are_digits a b c e && is_mark s) (cond (eqb s line_feed) n (count_from (suc n) rest)) 0

-- the same as an option: none for a line that is not of the form
abbrev pub line_count : ℕ → Option ℕ
line_count zero = None
line_count (suc n) = Some (suc n)

-- so many words in a row, five bytes apart
unfoldable pub words_at : ℕ → List ℕ → List ℕ
words_at zero bytes = []
words_at (suc n) bytes = value_in bytes ∷ words_at n (drop 5 bytes)

-- the judgement that the code's answer on the first line tells
abbrev pub judged : {T : Type 0} → Result T Refusal → Judgement
judged (Ok x) = pass
judged (Err r) = refuse (number_of r.rule) r.frame r.word

-- the same of a later line, of number n
abbrev pub ruled : (n : ℕ) → Result ⊤ Rule → Judgement
ruled n (Ok x) = pass
ruled n (Err rule) = refuse (number_of rule) n 0

-- how many words are stored at most, in a table with room for `room`
abbrev pub limit_of : ℕ → ℕ
limit_of room = min room table_limit

-- the rules of the first line in numbers: the text's length, the count of words, the first two
abbrev pub head_by_count : (room size count kind d : ℕ) → Judgement
head_by_count room size count kind d = need (ltb 0 size) 3 0 0
    then (need (ltb 0 count) 20 0 0
    then need (eqb count 2 && eqb kind 0) 3 0 0
    then word_rule (empty 0) 0 [] share_count 1 d)
    then room_rule room 0 count

-- the rules of line n in numbers, behind so many words
abbrev pub frame_by_count : (room d n stored kind count : ℕ) → Judgement
frame_by_count room d n stored kind count = (need (ltb 0 count) 20 n 0
    then need (leb 1 kind && leb kind 8) 5 n 0
    then need (eqb count (suc (words d (kind_of kind)))) 6 n 0)
    then room_rule room n (stored + count)

-- the first of rules 5, 6 and 21 that a line of so many words breaks which begins with a kind, with so much room; d is known
abbrev pub line_rule : (d kind count room : ℕ) → Result ⊤ Rule
line_rule d kind count room =
    cond (leb 1 kind && leb kind 8) (cond (eqb count (suc (words d (kind_of kind)))) (cond (leb count room) (Ok tt) (Err TableRoom)) (Err WordCount)) (Err KindRule)

-- the same, and rule 20 before them: no words are counted on a line that is not of the form
abbrev pub frame_rule : (d room kind count : ℕ) → Result ⊤ Rule
frame_rule d room kind count = cond (ltb 0 count) (line_rule d kind count room) (Err Line)
