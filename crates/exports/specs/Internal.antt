-- For the contract of the function that puts the numbers. The promises of the C names name none of it.
use Rattle.std.specs.Prelude.{◌≡◌, ℕ, Result, Ok, Err}
use Rattle.circuit.specs.Refusals.{number_of}
use Rattle.circuit.specs.declared.rules.Refusal.{Refusal}

-- a result and three numbers: those of what is accepted; or a refusal's
abbrev pub Gives : {T : Type 0} → (first second third : T → ℕ) → Result T Refusal → (r a b c : ℕ) → Type 0
Gives first second third (Ok x) r a b c = (r ≡ 0) × (a ≡ first x) × (b ≡ second x) × (c ≡ third x)
Gives first second third (Err e) r a b c = (r ≡ number_of e.rule) × (a ≡ e.frame) × (b ≡ e.word) × (c ≡ 0)
