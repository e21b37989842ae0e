-- What was given to a `map_err`, by what it answers; and a word's rule told with the word.
use mathlib.Core.Path.{◌≡◌, refl, ap, subst}
use Prim.Native.Nat.{ℕ}
use Rattle.std.specs.Prelude.{Result, Ok, Err, MatchResult, IsErrAnd}
use Rattle.circuit.specs.declared.rules.Rule.{Rule}
use Rattle.checker.specs.declared.forms.Spot.{Spot}
use Rattle.checker.specs.Internal.Adding.{spot, at_word}

module _ {T E D : Type 0} (P : E → D → Type 0) where
  pub was_ok : (r : Result T E) (s : Result T D) → MatchResult r (λ x. s ≡ Ok x) (λ e. IsErrAnd s (P e)) → {x : T} → s ≡ Ok x → r ≡ Ok x
  was_ok (Ok y) s h e = cc
  was_ok (Err d) (Err y) h e = absurd (cc)
  was_ok (Err d) (Ok y) h e = absurd h

  pub was_err : (r : Result T E) (s : Result T D) → MatchResult r (λ x. s ≡ Ok x) (λ e. IsErrAnd s (P e)) → {y : D} → s ≡ Err y → (e : E) × (r ≡ Err e) × P e y
  was_err (Ok x) s h e = absurd (cc)
  was_err (Err d) (Ok x) h e = absurd h
  was_err (Err d) (Err z) h {y} e = let same : z ≡ y = cc in (d, refl, subst (P d) same h)

pub told : (w : ℕ) (r : Result (Unit {0}) Rule) (s : Result (Unit {0}) Spot) {P : Rule → Spot → Type 0} → MatchResult r (λ x. s ≡ Ok x) (λ e. IsErrAnd s (P e))
    → ((e : Rule) (y : Spot) → P e y → y ≡ spot e w) → s ≡ at_word w r
told w (Ok u) s h p = h
told w (Err e) (Err y) h p = ap Err (p e y h)
told w (Err e) (Ok x) h p = absurd h
