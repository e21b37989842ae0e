-- A call judged, but for rule 25, which is asked once the wires that are read are known.
use Rattle.std.specs.Prelude.{◌≡◌, List, ℕ, ◌*◌, leb, eqb, length, Result}
use Rattle.semantics.specs.Counts.{free_bits}
use Rattle.circuit.specs.Circuit.{Circuit}
use Rattle.circuit.specs.Rules.{Judgement, need, ◌then◌, checked}
use Rattle.circuit.specs.Answer.{answer, notes_after}
use Rattle.semantics.specs.Calls.{bytes_rule, probes_rule, circuit_of}
use Rattle.circuit.specs.declared.rules.Refusal.{Refusal}
use Rattle.checker.specs.declared.Accepted.{Accepted}
use Rattle.checker.specs.Answers.{answer_of, InputsAre}

module _ (table notes secrets probes : List ℕ) (room : ℕ) where
  abbrev k : Circuit
  k = circuit_of table notes

  -- the rules before 25
  unfoldable pub first_rules : Judgement
  first_rules = (checked table (length notes)).judgement
      then need (eqb (length secrets) (2 * k.inputs)) 15 0 0
      then need (leb 1024 room) 17 0 0
      then bytes_rule 0 secrets
      then probes_rule k 0 probes
      then need (leb (free_bits k) 16) 24 0 0

  -- the answer by them, with the number of INs where it accepts, and the notes after the call
  pub record Judged (new_notes : List ℕ) (r : Result Accepted Refusal) : Type 0 where
    pub answers : answer_of r ≡ answer k first_rules
    pub noted : new_notes ≡ notes_after k notes
    pub inputs : InputsAre r k.inputs
