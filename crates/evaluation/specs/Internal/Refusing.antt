-- The first place where rules 18 and 19 are broken.
use Rattle.std.specs.Prelude.{◌≡◌, List, ℕ, ◌+◌, Option, Some, None}
use Rattle.circuit.specs.Circuit.{Circuit, size}
use Rattle.circuit.specs.Rules.{Judgement, pass, refuse}
use Rattle.semantics.specs.Calls.{bytes_rule, probes_rule}

-- the judgement of a place on a list, counted from i on: no place, no refusal
abbrev pub refusal : (rule i : ℕ) → Option ℕ → Judgement
refusal rule i None = pass
refusal rule i (Some r) = refuse rule 0 (i + r)

pub record OverFirst (bytes : List ℕ) (r : Option ℕ) : Type 0 where
  pub is : (i : ℕ) → bytes_rule i bytes ≡ refusal 18 i r

pub record MissingFirst (probes : List ℕ) (wires : ℕ) (r : Option ℕ) : Type 0 where
  pub is : (k : Circuit) → size k ≡ wires → (i : ℕ) → probes_rule k i probes ≡ refusal 19 i r
