-- Document 01, "Circuits to hold against it": the cases marked *, as document 02 changes them, and cases of rule 22 and of the latency, as
-- one table.
use Rattle.std.specs.Prelude.{◌≡◌, List, [], ◌∷◌, ◌++◌, ℕ, replicate}
use Rattle.circuit.specs.Limits.{wire_limit, notes_room}
use Rattle.circuit.specs.Rules.{pass}
use Rattle.circuit.specs.Answer.{Answer, accepted, refused, verdict_of}
use Rattle.semantics.specs.Calls.{call_rule, value_bytes, reading_bytes}

-- a table with its answer; an evaluation with all its values; a reading with all its bytes
pub data Case : Type 0 where
  judged : (table : List ℕ) → Answer → Case
  evaluates : (table shares tape values : List ℕ) → Case
  reads : (table shares tape probes reading : List ℕ) → Case

-- notes and a sheet of the least length that is asked
abbrev pub notes : List ℕ
notes = replicate notes_room 0

abbrev pub room : List ℕ
room = replicate wire_limit 0

-- what a case says
abbrev pub Right : Case → Type 0
Right (judged table a) = verdict_of table notes_room ≡ a
Right (evaluates table shares tape values) =
    (call_rule table notes shares tape (room ∷ []) [] ≡ pass) × (value_bytes table notes shares tape ≡ values)
Right (reads table shares tape probes reading) =
    (call_rule table notes shares tape (room ∷ room ∷ []) probes ≡ pass) × (reading_bytes table notes shares tape probes ≡ reading)

-- circuit A, with the stages of its INs, the words of its AND and of its OUT; two REG hold what the AND gives
abbrev circuit_a : (first second : ℕ) (product outputs : List ℕ) → List ℕ
circuit_a first second product outputs = (0 ∷ 2 ∷ 1 ∷ first ∷ 1 ∷ second ∷ 6 ∷ []) ++ product ++ (5 ∷ 0x18 ∷ 5 ∷ 0x19 ∷ 8 ∷ outputs)

abbrev product_a : List ℕ
product_a = 0 ∷ 0 ∷ 1 ∷ 2 ∷ 3 ∷ []

abbrev held_a : List ℕ
held_a = 0x1A ∷ 0x1B ∷ []

abbrev pub A : List ℕ
A = circuit_a 1 0 product_a held_a

abbrev shares_a : List ℕ
shares_a = 1 ∷ 0 ∷ 1 ∷ 1 ∷ []

abbrev tape_a : List ℕ
tape_a = 1 ∷ []

-- two CONs at a stage, then OUT of them
abbrev constants : ℕ → List ℕ
constants t = 0 ∷ 2 ∷ 2 ∷ 0 ∷ 0 ∷ t ∷ 2 ∷ 1 ∷ 0 ∷ t ∷ 8 ∷ 0 ∷ 1 ∷ []

-- the starred cases; of OUT, rule 22 and the rules before it; and the latency, by where INs and OUTs stand
unfoldable pub cases : List Case
cases = evaluates A shares_a tape_a ((1 ∷ 0 ∷ 1 ∷ 1 ∷ []) ++ (1 ∷ 1 ∷ []) ++ (1 ∷ 1 ∷ 1 ∷ 1 ∷ 0 ∷ 0 ∷ []) ++ (0 ∷ 0 ∷ 0 ∷ 0 ∷ 0 ∷ 0 ∷ []) ++ (1 ∷ 1 ∷ 0 ∷ 0 ∷ 0 ∷ 0 ∷ []) ++ (1 ∷ 1 ∷ []) ++ (1 ∷ 1 ∷ []))  -- A1
    ∷ reads A shares_a tape_a (24 ∷ []) (replicate 8 2 ++ (1 ∷ []) ++ replicate 4 2 ++ (0 ∷ []) ++ replicate 3 2 ++ (0 ∷ []) ++ replicate 8174 2)  -- A2
    ∷ reads A shares_a tape_a (14 ∷ []) (replicate 3 2 ++ (1 ∷ 1 ∷ []) ++ replicate 8187 2)  -- A3
    ∷ reads A shares_a tape_a (16 ∷ []) ((1 ∷ []) ++ replicate 14 2 ++ (0 ∷ []) ++ replicate 8176 2)  -- A4
    ∷ judged A (accepted 28 1 3)
    ∷ judged (circuit_a 0 0 product_a held_a) (refused 11 3 4)  -- A5
    ∷ judged (circuit_a 1 0 (0 ∷ 1 ∷ 0 ∷ 2 ∷ 3 ∷ []) held_a) (refused 10 3 2)  -- A6
    ∷ judged (circuit_a 1 0 product_a (0x17 ∷ 0x1B ∷ [])) (refused 9 6 1)  -- A7
    ∷ judged (circuit_a 1 0 product_a (0x1C ∷ 0x1B ∷ [])) (refused 8 6 1)
    ∷ judged (circuit_a 1 0 product_a (0x18 ∷ 0x19 ∷ [])) (refused 22 6 1)  -- an AND's outputs
    ∷ judged (circuit_a 1 0 product_a (0x16 ∷ 0x19 ∷ [])) (refused 9 6 1)  -- before 22: w(1,0) is no register
    ∷ judged (circuit_a 1 0 product_a (0x19 ∷ 0x18 ∷ [])) (refused 10 6 1)  -- before 22
    ∷ judged (circuit_a 1 0 product_a (0x1A ∷ 0x19 ∷ [])) (refused 11 6 2)  -- before 22
    ∷ judged (circuit_a 1 0 (1 ∷ 0 ∷ 1 ∷ 2 ∷ 3 ∷ []) held_a) (refused 12 3 1)  -- A8
    ∷ judged (0 ∷ 2 ∷ []) (accepted 0 0 0)  -- B
    ∷ judged (0 ∷ 1 ∷ []) (refused 4 0 1)
    ∷ judged (0 ∷ 9 ∷ []) (refused 4 0 1)
    ∷ judged (0 ∷ 2 ∷ 1 ∷ 0xFF ∷ 5 ∷ 0 ∷ []) (refused 13 2 0)  -- C
    ∷ judged (0 ∷ 2 ∷ 1 ∷ 0xFE ∷ 5 ∷ 0 ∷ []) (accepted 3 0 0)
    ∷ judged (0 ∷ 2 ∷ 1 ∷ 0 ∷ 7 ∷ 0 ∷ 0 ∷ 1 ∷ 8 ∷ 5 ∷ 6 ∷ []) (accepted 7 1 1)  -- a REF's outputs
    ∷ judged (0 ∷ 2 ∷ 1 ∷ 3 ∷ 8 ∷ 0 ∷ 1 ∷ []) (accepted 2 0 0)  -- D
    ∷ judged (constants 4) (accepted 2 0 0)  -- no IN
    ∷ judged (constants 4 ++ (1 ∷ 5 ∷ [])) (accepted 4 0 0)  -- an OUT below the IN
    ∷ judged (constants 4 ++ (1 ∷ 1 ∷ [])) (accepted 4 0 3)  -- the IN after the OUT
    ∷ []
