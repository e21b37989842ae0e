-- Document 01, "Calls and their sheets": the answers' numbers, and the notes after a call, with document 02's mark of registered wires.
use Rattle.std.specs.Prelude.{cond, List, [], ◌∷◌, ℕ, ◌+◌, ◌*◌, ◌%◌}
use Rattle.circuit.specs.Limits.{registered_note, inner_note}
use Rattle.circuit.specs.Lists.{concat_map, nth, overwrite}
use Rattle.circuit.specs.Wires.{Wire}
use Rattle.circuit.specs.Circuit.{Circuit, size, Lookup, found, hidden, shown_by}
use Rattle.circuit.specs.Latency.{latency}
use Rattle.circuit.specs.Rules.{Judgement, pass, refuse, checked}

-- accepted: the numbers of wires and random bits, and the latency; refused: the rule's number, the frame and the word
pub data Answer : Type 0 where
  accepted : (wires randoms latency : ℕ) → Answer
  refused : (rule frame word : ℕ) → Answer

-- the answer to a judgement on a circuit
abbrev pub answer : Circuit → Judgement → Answer
answer k pass = accepted (size k) k.randoms (latency k)
answer k (refuse rule frame word) = refused rule frame word

-- the answer to a table, with notes of so many words
abbrev pub verdict_of : (table : List ℕ) (room : ℕ) → Answer
verdict_of table room = answer (checked table room).circuit (checked table room).judgement

-- the two words of a wire in the notes: what looking it up tells
abbrev pub note : Lookup → List ℕ
note (found label stage registered) = (label + cond registered registered_note 0) ∷ stage ∷ []
note hidden = inner_note ∷ inner_note ∷ []

-- the words of wires, and the notes after a check: the words of the wires made, the rest untouched
abbrev pub notes_of : List Wire → List ℕ
notes_of wires = concat_map wires (λ wire. note (shown_by wire))

unfoldable pub notes_after : Circuit → List ℕ → List ℕ
notes_after k notes = overwrite (notes_of k.wires) notes

-- the label that notes give a wire that is named; 0 past their end
abbrev pub label_noted : List ℕ → (x : ℕ) → ℕ
label_noted notes x = nth notes (2 * x) % registered_note
