-- The answers of calls on text: accepted with a number, of words read or of bytes written, or refused with the rule's number, the line
-- (of a table: the frame) and the word; and the reader's answer.
use Rattle.std.specs.Prelude.{List, ℕ, length, Result, Ok, Err}
use Rattle.circuit.specs.Lists.{overwrite}
use Rattle.circuit.specs.Rules.{Judgement, pass, refuse}
use Rattle.circuit.specs.Refusals.{number_of}
use Rattle.circuit.specs.declared.rules.Refusal.{Refusal}
use Rattle.text.specs.Reader.{Read, read_text}

pub data TextAnswer : Type 0 where
  accepted : (count : ℕ) → TextAnswer
  refused : (rule line word : ℕ) → TextAnswer

-- what the code's answer says; a line of the text is the refusal's frame
abbrev pub text_answer : Result ℕ Refusal → TextAnswer
text_answer (Ok count) = accepted count
text_answer (Err r) = refused (number_of r.rule) r.frame r.word

-- the answer to a judgement, by the words found or the bytes written
abbrev pub answer : List ℕ → Judgement → TextAnswer
answer found pass = accepted (length found)
answer found (refuse rule line word) = refused rule line word

-- the table after a call: the words of the whole lines before a refusal, or of all; the rest untouched
abbrev pub table_after : Read → List ℕ → List ℕ
table_after read table = overwrite read.found table

-- the answer to a text, with a table that has room for `room` words
abbrev pub text_answer_of : (text : List ℕ) (room : ℕ) → TextAnswer
text_answer_of text room = answer (read_text text room).found (read_text text room).judgement
