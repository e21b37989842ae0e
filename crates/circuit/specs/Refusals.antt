-- The rules as the code names them, by their numbers; and a refusal of the code as an answer.
use Rattle.std.specs.Prelude.{ℕ}
use Rattle.circuit.specs.Answer.{Answer, refused}
use Rattle.circuit.specs.declared.rules.Refusal.{Refusal}
use Rattle.circuit.specs.declared.rules.Rule.{Rule}
use Rattle.circuit.specs.declared.rules.Rule.TheVariants.{TableLength, NotesLength, Head, ShareCount, Kind, WordCount, Range, MissingWire, InnerWire, Label, Stage, FirstRandom, LastStage, WireCount, ShareLength, TapeLength, SheetLength, Bit, Probe, Line, TableRoom, Registered, TextRoom, FreeBits, ReadWires, Sharing}

abbrev pub number_of : Rule → ℕ
number_of TableLength = 1
number_of NotesLength = 2
number_of Head = 3
number_of ShareCount = 4
number_of Kind = 5
number_of WordCount = 6
number_of Range = 7
number_of MissingWire = 8
number_of InnerWire = 9
number_of Label = 10
number_of Stage = 11
number_of FirstRandom = 12
number_of LastStage = 13
number_of WireCount = 14
number_of ShareLength = 15
number_of TapeLength = 16
number_of SheetLength = 17
number_of Bit = 18
number_of Probe = 19
number_of Line = 20
number_of TableRoom = 21
number_of Registered = 22
number_of TextRoom = 23
number_of FreeBits = 24
number_of ReadWires = 25
number_of Sharing = 26

-- a rule broken at a word of a frame, or of a line
abbrev pub refusal : (rule : Rule) (frame word : ℕ) → Refusal
refusal rule frame word = record { rule = rule; frame = frame; word = word }

-- what a refusal of the code says
abbrev pub refusal_answer : Refusal → Answer
refusal_answer r = refused (number_of r.rule) r.frame r.word
