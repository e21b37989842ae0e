-- What the code's answer says, in document 01's numbers.
use Rattle.std.specs.Prelude.{◌≡◌, ℕ, Result, Ok, Err}
use Rattle.circuit.specs.Answer.{Answer, accepted}
use Rattle.circuit.specs.Refusals.{refusal_answer}
use Rattle.circuit.specs.declared.rules.Refusal.{Refusal}
use Rattle.checker.specs.declared.Accepted.{Accepted}

abbrev pub answer_of : Result Accepted Refusal → Answer
answer_of (Ok a) = accepted a.wires a.randoms a.latency
answer_of (Err r) = refusal_answer r

-- an answer that accepts also tells the number of INs
abbrev pub InputsAre : Result Accepted Refusal → ℕ → Type 0
InputsAre (Ok a) n = a.inputs ≡ n
InputsAre (Err r) n = Unit {0}
