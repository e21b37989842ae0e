-- What the notes say of wires, what a wire breaks that a word names, and the words of new wires.
use Rattle.std.specs.Prelude.{◌≡◌, Bool, cond, List, [], ◌∷◌, ◌++◌, ℕ, zero, suc, ◌+◌, ◌*◌, ◌%◌, ◌≤◌, leb, ltb, eqb, length, Result, Ok, Err}
use Rattle.circuit.specs.Limits.{notes_room, wire_limit, registered_note, inner_note}
use Rattle.circuit.specs.Lists.{nth}
use Rattle.circuit.specs.Circuit.{Circuit, size, Lookup, found, hidden, look_up}
use Rattle.circuit.specs.declared.rules.Rule.{Rule}
use Rattle.circuit.specs.declared.rules.Rule.TheVariants.{MissingWire, InnerWire, Label, Stage, Registered}
use Rattle.checker.specs.declared.notes.Named.{Named}
use Rattle.checker.specs.declared.notes.Wanted.{Wanted}
use Rattle.checker.specs.declared.notes.Made.{Made}

-- notes with room for all wires that a circuit may have, of which so many are in them
pub record Room (wires : ℕ) (notes : List ℕ) : Type 0 where
  pub few : wires ≤ wire_limit
  pub long : notes_room ≤ length notes

-- what two words of the notes say, and what the notes say of a wire, of so many that are in them
abbrev pub named : (label stage : ℕ) (registered : Bool) → Named
named l t registered = record { label = l; stage = t; registered = registered }

abbrev pub found_in : (first stage : ℕ) → Result Named Rule
found_in first t = cond (eqb first inner_note) (Err InnerWire) (Ok (named (first % registered_note) t (leb registered_note first)))

abbrev pub noted : List ℕ → (wires x : ℕ) → Result Named Rule
noted notes wires x = cond (ltb x wires) (found_in (nth notes (2 * x)) (nth notes (2 * x + 1))) (Err MissingWire)

-- what a circuit says of a wire
abbrev pub shown : Lookup → Result Named Rule
shown (found l t registered) = Ok (named l t registered)
shown hidden = Err InnerWire

abbrev pub found_of : Circuit → ℕ → Result Named Rule
found_of k x = cond (ltb x (size k)) (shown (look_up k x)) (Err MissingWire)

-- notes that say of every number what the circuit says
abbrev pub Represents : Circuit → List ℕ → ℕ → Type 0
Represents k notes wires = (x : ℕ) → noted notes wires x ≡ found_of k x

abbrev pub label_found : Result Named Rule → ℕ
label_found (Ok n) = n.label
label_found (Err rule) = 0

abbrev pub stage_found : Result Named Rule → ℕ
stage_found (Ok n) = n.stage
stage_found (Err rule) = 0

-- a rule, broken where a test fails
abbrev pub ask : Bool → Rule → Result (Unit {0}) Rule
ask b rule = cond b (Ok tt) (Err rule)

-- the first rule that a wire breaks of which a label is asked, to stand so many stages before another, and, if so told, to be
-- registered
abbrev pub wanted : (stage ahead : ℕ) (registered : Bool) → Wanted
wanted t ahead registered = record { stage = t; ahead = ahead; registered = registered }

abbrev pub wire_asked : Result Named Rule → (label : ℕ) → Wanted → Result (Unit {0}) Rule
wire_asked (Err rule) l w = Err rule
wire_asked (Ok n) l w = cond (eqb n.label l) (cond (eqb (n.stage + w.ahead) w.stage) (cond w.registered (ask n.registered Registered) (Ok tt)) (Err Stage)) (Err Label)

-- the first word of a named wire; the words of inner wires, and of named wires with first words in a row
abbrev pub first_word : (label : ℕ) (registered : Bool) → ℕ
first_word l registered = l + cond registered registered_note 0

unfoldable pub inner_words : ℕ → List ℕ
inner_words zero = []
inner_words (suc n) = inner_note ∷ inner_note ∷ inner_words n

unfoldable pub named_words : (first stage count : ℕ) → List ℕ
named_words w t zero = []
named_words w t (suc n) = w ∷ t ∷ named_words (suc w) t n

abbrev pub made_words : Made → List ℕ
made_words m = inner_words m.inner ++ named_words (first_word m.label m.registered) m.stage m.named
