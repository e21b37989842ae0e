-- Lists and bits, as the definitions use them.
use Rattle.std.specs.Prelude.{Bool, true, false, cond, not, ◌||◌, List, [], ◌∷◌, ◌++◌, ℕ, zero, suc, eqb, length, drop, get_or}

-- the sum of two bits modulo 2
infixl 40 ◌⊕◌
abbrev pub ◌⊕◌ : Bool → Bool → Bool
true ⊕ b = not b
false ⊕ b = b

-- k numbers in a row, from n on
abbrev pub range : ℕ → ℕ → List ℕ
range n zero = []
range n (suc k) = n ∷ range (suc n) k

-- the numbers that pass a test
abbrev pub filter : (ℕ → Bool) → List ℕ → List ℕ
filter p [] = []
filter p (x ∷ xs) = cond (p x) (x ∷ filter p xs) (filter p xs)

-- a list for each element, one after the other
abbrev pub concat_map : {A B : Type 0} → List A → (A → List B) → List B
concat_map [] f = []
concat_map (x ∷ xs) f = f x ++ concat_map xs f

-- whether a number stands on a list
abbrev pub mem : ℕ → List ℕ → Bool
mem x [] = false
mem x (y ∷ ys) = eqb x y || mem x ys

-- the number at a place of a list, from 0; 0 past its end
abbrev pub nth : List ℕ → ℕ → ℕ
nth xs i = get_or xs i 0

-- a buffer that held `old`, once `new` is written from its start: the rest is untouched
abbrev pub overwrite : List ℕ → List ℕ → List ℕ
overwrite new old = new ++ drop (length new) old
