-- Lists that are alike by a test of numbers are the same.
use mathlib.Core.Path.{◌≡◌, refl, ap₂}
use mathlib.Core.Bool.{true, false≢true}
use mathlib.Core.List.{List, [], ◌∷◌}
use Prim.Native.Nat.{ℕ}
use lib.Dec.{eqb}
use borrow.Author.Tests.{eqb-true}
use Rattle.circuit.proofs.Base.{and_left, and_right, and_both, eqb_refl}
use Rattle.semantics.specs.Counts.{alike}

pub same_list : (xs ys : List ℕ) → alike eqb xs ys ≡ true → xs ≡ ys
same_list [] [] h = refl
same_list [] (y ∷ ys) h = absurd (false≢true h)
same_list (x ∷ xs) [] h = absurd (false≢true h)
same_list (x ∷ xs) (y ∷ ys) h = ap₂ (λ z zs. z ∷ zs) (eqb-true x y (and_left (eqb x y) (alike eqb xs ys) h)) (same_list xs ys (and_right (eqb x y) (alike eqb xs ys) h))

pub alike-itself : (xs : List ℕ) → alike eqb xs xs ≡ true
alike-itself [] = refl
alike-itself (x ∷ xs) = and_both (eqb x x) (alike eqb xs xs) (eqb_refl x) (alike-itself xs)
