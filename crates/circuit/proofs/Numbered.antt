-- Lemmas on lists whose elements are given, or asked for, by number.
use mathlib.Core.Path.{◌≡◌, refl, subst, subst₂, ◌∙◌}
use mathlib.Core.List.{List, [], ◌∷◌, map}
use Prim.Native.Nat.{ℕ, zero, suc, ◌+◌, ◌<◌}
use native.Mathlib.Omega.{arith}
use lib.ListN.{length, get_or}
use Rattle.circuit.specs.Lists.{nth, range}
use Rattle.circuit.proofs.Base.{AllFrom}

pub range_at : (n c i : ℕ) → i < c → nth (range n c) i ≡ n + i
range_at n zero i l = absurd (omega arith)
range_at n (suc c) zero l = omega arith
range_at n (suc c) (suc i) l = range_at (suc n) c i (omega arith) ∙ omega arith

-- the element at a number, behind a function
pub map_at : {A B : Type 0} (f : A → B) (xs : List A) (n : ℕ) (d : B) (e : A) → n < length xs → get_or (map f xs) n d ≡ f (get_or xs n e)
map_at f [] n d e l = absurd (omega arith)
map_at f (x ∷ xs) zero d e l = refl
map_at f (x ∷ xs) (suc n) d e l = map_at f xs n d e (omega arith)

-- properties of every element of a list, with its number
module _ {A : Type 0} (Q : ℕ → A → Type 0) where
  pub all_get : (n : ℕ) (xs : List A) (z : A) → AllFrom Q n xs → (i : ℕ) → i < length xs → Q (n + i) (get_or xs i z)
  all_get n [] z h i l = absurd (omega arith)
  all_get n (x ∷ xs) z h zero l = subst (λ (m : ℕ). Q m x) (omega arith) h.0
  all_get n (x ∷ xs) z h (suc i) l = subst (λ (m : ℕ). Q m (get_or xs i z)) (omega arith) (all_get (suc n) xs z h.1 i (omega arith))

  pub all-below : (P : ℕ → A → Type 0) (n : ℕ) (xs : List A) → ((m : ℕ) (x : A) → m < n + length xs → Q m x → P m x) → AllFrom Q n xs → AllFrom P n xs
  all-below P n [] f h = tt
  all-below P n (x ∷ xs) f h = (f n x (omega arith) h.0, all-below P (suc n) xs (λ m y l. f m y (omega arith)) h.1)

  pub get_all : (n : ℕ) (xs : List A) (z : A) → ((i : ℕ) → i < length xs → Q (n + i) (get_or xs i z)) → AllFrom Q n xs
  get_all n [] z h = tt
  get_all n (x ∷ xs) z h = (
    subst (λ (m : ℕ). Q m x) (omega arith) (h 0 (omega arith)),
    get_all (suc n) xs z (λ i l. subst (λ (m : ℕ). Q m (get_or xs i z)) (omega arith) (h (suc i) (omega arith))),
  )

-- a property of every element, and of the element that stands for those that are not there
pub all_default : {A : Type 0} (Q : A → Type 0) (z : A) → Q z → (n : ℕ) (xs : List A) (i : ℕ) → AllFrom (λ x. Q) n xs → Q (get_or xs i z)
all_default Q z o n [] i h = o
all_default Q z o n (x ∷ xs) zero h = h.0
all_default Q z o n (x ∷ xs) (suc i) h = all_default Q z o (suc n) xs i h.1

-- a property of each element of a list that is given by number
module _ {A : Type 0} (Q : ℕ → A → Type 0) (g : ℕ → A) where
  pub all-at : (n m c : ℕ) → AllFrom Q n (map g (range m c)) → (i : ℕ) → i < c → Q (n + i) (g (m + i))
  all-at n m zero h i l = absurd (omega arith)
  all-at n m (suc c) h zero l = subst₂ (λ x y. Q x (g y)) (omega arith) (omega arith) h.0
  all-at n m (suc c) h (suc i) l = subst₂ (λ x y. Q x (g y)) (omega arith) (omega arith) (all-at (suc n) (suc m) c h.1 i (omega arith))

  pub at_all : (n m c : ℕ) → ((i : ℕ) → i < c → Q (n + i) (g (m + i))) → AllFrom Q n (map g (range m c))
  at_all n m zero h = tt
  at_all n m (suc c) h = (
    subst₂ (λ x y. Q x (g y)) (omega arith) (omega arith) (h 0 (omega arith)),
    at_all (suc n) (suc m) c (λ i l. subst₂ (λ x y. Q x (g y)) (omega arith) (omega arith) (h (suc i) (omega arith))),
  )
