-- A call of evaluation or readings judged.
use Rattle.std.specs.Prelude.{◌≡◌, List, ℕ, leb, Result}
use Rattle.circuit.specs.Limits.{wire_limit}
use Rattle.circuit.specs.Rules.{need}
use Rattle.semantics.specs.Calls.{sheets_rule, call_answer, call_notes}
use Rattle.circuit.specs.declared.rules.Refusal.{Refusal}
use Rattle.checker.specs.declared.Accepted.{Accepted}
use Rattle.checker.specs.Answers.{answer_of}

-- buffers of which the shortest has so many bytes
abbrev pub Shortest : ℕ → List (List ℕ) → Type 0
Shortest room sheets = sheets_rule sheets ≡ need (leb wire_limit room) 17 0 0

-- the answer to a call with any such buffers, and the notes after it
pub record Judged (table notes shares tape probes : List ℕ) (room : ℕ) (new_notes : List ℕ) (r : Result Accepted Refusal) : Type 0 where
  pub answers : (sheets : List (List ℕ)) → Shortest room sheets → answer_of r ≡ call_answer table notes shares tape sheets probes
  pub noted : new_notes ≡ call_notes table notes shares tape
