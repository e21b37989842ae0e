-- Document 01, "Circuits to hold against it": a text judged by the reader and then the checker.
use Rattle.std.specs.Prelude.{List, ℕ}
use Rattle.circuit.specs.Rules.{Judgement, pass, refuse}
use Rattle.circuit.specs.Answer.{Answer, refused, verdict_of}
use Rattle.text.specs.Reader.{read_text}

-- the reader's refusal, its line given as the frame, or else the checker's verdict on the words found
abbrev pub on_reading : Judgement → (found : List ℕ) (notes : ℕ) → Answer
on_reading pass found notes = verdict_of found notes
on_reading (refuse rule line word) found notes = refused rule line word

-- the answer to a text, with a table that has room for `room` words and notes of so many words
abbrev pub judged_text : (text : List ℕ) (room notes : ℕ) → Answer
judged_text text room notes = on_reading (read_text text room).judgement (read_text text room).found notes
