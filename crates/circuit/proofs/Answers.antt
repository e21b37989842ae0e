-- What an answer tells of the judgement behind it.
use mathlib.Core.Path.{◌≡◌, refl, sym}
use Prim.Native.Nat.{ℕ}
use native.Mathlib.Omega.{arith}
use Rattle.circuit.specs.Circuit.{Circuit, size}
use Rattle.circuit.specs.Rules.{Judgement, pass, refuse}
use Rattle.circuit.specs.Answer.{accepted, refused, answer}

differ : {w n l a b c : ℕ} → accepted w n l ≡ refused a b c → ⊥
differ h = let z : ◌≡◌ {A = ℕ} 0 1 = cc in omega arith

module _ (k : Circuit) where
  pub answer-pass : (j : Judgement) {w n l : ℕ} → accepted w n l ≡ answer k j → (j ≡ pass) × (w ≡ size k) × (n ≡ k.randoms)
  answer-pass pass h = (refl, cc, cc)
  answer-pass (refuse a b c) h = absurd (differ h)

  pub answer-refused : (j : Judgement) {a b c : ℕ} → refused a b c ≡ answer k j → j ≡ refuse a b c
  answer-refused pass h = absurd (differ (sym h))
  answer-refused (refuse a b c) h = cc
