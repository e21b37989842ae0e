-- A byte of a buffer in which one was stored: the new one at its place, the old one elsewhere.
use mathlib.Core.Path.{◌≡◌, ap, ◌∙◌}
use mathlib.Core.List.{List}
use Prim.Native.Nat.{ℕ, ◌<◌}
use lib.Dec.{eqb}
use lib.ListN.{length, set}
use lib.Seq.{get_or-set_same, get_or-set_other}
use borrow.Author.Tests.{eqb-true, eqb-false}
use Rattle.circuit.specs.Lists.{nth}
use Rattle.circuit.proofs.Base.{cases}

pub nth-set : {A : Type 0} (sheet : List ℕ) (p e x : ℕ) → p < length sheet → (x ≡ p → nth (set sheet p e) x ≡ e → A) → ((x ≡ p → ⊥) → nth (set sheet p e) x ≡ nth sheet x → A) → A
nth-set sheet p e x room f g = cases (eqb x p)
    (λ h. let q = eqb-true x p h in f q (ap (nth (set sheet p e)) q ∙ get_or-set_same sheet p e 0 room))
    (λ h. g (eqb-false x p h) (get_or-set_other sheet p x e 0 (eqb-false x p h)))
