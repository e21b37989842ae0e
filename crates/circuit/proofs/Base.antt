-- Lemmas on tests, bits, numbers and lists.
use mathlib.Core.Path.{◌≡◌, refl, sym, ap, subst, ◌∙◌}
use mathlib.Core.Bool.{Bool, true, false, ◌&&◌, ◌||◌, true≢false, false≢true}
use mathlib.Core.List.{List, [], ◌∷◌, ◌++◌, map, append_assoc}
use mathlib.Core.Logic.{◌⊎◌, inl, inr}
use Prim.Native.Nat.{ℕ, zero, suc, ◌+◌, ◌≤◌, ◌<◌}
use native.Mathlib.Omega.{arith}
use lib.Dec.{eqb, ltb}
use lib.ListN.{length, set}
use lib.Seq.{sets}
use borrow.Author.Tests.{eq-eqb, ne_eqb, eqb-true, eqb-false, lt-ltb, ltb-true, ltb-false}
use Rattle.circuit.specs.Lists.{◌⊕◌, mem, range, filter, concat_map}

-- tests
pub cases : {A : Type 0} (b : Bool) → (b ≡ true → A) → (b ≡ false → A) → A
cases true f g = f refl
cases false f g = g refl

pub clash : {A : Type 0} {b : Bool} → b ≡ true → b ≡ false → A
clash p q = absurd (true≢false (sym p ∙ q))

pub or_left : (a b : Bool) → a ≡ true → (a || b) ≡ true
or_left a b h = rw h

pub or_right : (a b : Bool) → b ≡ true → (a || b) ≡ true
or_right true b h = refl
or_right false b h = h

pub or_cases : {A : Type 0} (a b : Bool) → (a || b) ≡ true → (a ≡ true → A) → (b ≡ true → A) → A
or_cases true b h f g = f refl
or_cases false b h f g = g h

pub and_left : (a b : Bool) → (a && b) ≡ true → a ≡ true
and_left true b h = refl
and_left false b h = h

pub and_right : (a b : Bool) → (a && b) ≡ true → b ≡ true
and_right true b h = h
and_right false b h = absurd (false≢true h)

pub and_both : (a b : Bool) → a ≡ true → b ≡ true → (a && b) ≡ true
and_both a b p q = rw (p, q)

-- bits
pub no_flip : (a : Bool) → (a ⊕ false) ≡ a
no_flip true = refl
no_flip false = refl

pub xor_self : (a : Bool) → (a ⊕ a) ≡ false
xor_self true = refl
xor_self false = refl

pub xor_comm : (a b : Bool) → (a ⊕ b) ≡ (b ⊕ a)
xor_comm true true = refl
xor_comm true false = refl
xor_comm false true = refl
xor_comm false false = refl

pub xor_assoc : (a b e : Bool) → ((a ⊕ b) ⊕ e) ≡ (a ⊕ (b ⊕ e))
xor_assoc false b e = refl
xor_assoc true true true = refl
xor_assoc true true false = refl
xor_assoc true false e = refl

-- numbers
pub eqb_refl : (n : ℕ) → eqb n n ≡ true
eqb_refl n = eq-eqb n n refl

pub eqb_sym : (n m : ℕ) → eqb n m ≡ eqb m n
eqb_sym n m = cases (eqb n m) (λ e. e ∙ sym (eq-eqb m n (sym (eqb-true n m e))))
    (λ e. e ∙ sym (ne_eqb m n (λ h. eqb-false n m e (sym h))))

pub ltb_ne : (i j : ℕ) → ltb i j ≡ true → eqb i j ≡ false
ltb_ne i j h = ne_eqb i j (λ e. omega (arith, ltb-true i j h))

pub ne_lt : (i n : ℕ) → eqb i n ≡ false → n ≤ i → n < i
ne_lt i n e h = cases (ltb n i) (λ k. ltb-true n i k) (λ k. absurd (eqb-false i n e (omega (arith, ltb-false n i k))))

pub ltb_other : (i j : ℕ) → eqb i j ≡ false → ltb i j ≡ false → ltb j i ≡ true
ltb_other i j h k = lt-ltb j i (ne_lt i j h (ltb-false i j k))

pub lt_ne : (j n : ℕ) → j < n → eqb j n ≡ false
lt_ne j n h = ne_eqb j n (λ e. omega arith)

-- what holds below a number, and of the number itself
pub below_more : {P : ℕ → Type 0} (n : ℕ) → ((g : ℕ) → g < n → P g) → P n → (g : ℕ) → g < n + 1 → P g
below_more {P} n h p g k = cases (ltb g n) (λ e. h g (ltb-true g n e))
    (λ e. subst P (omega (arith, ltb-false g n e)) p)

-- being on a list
abbrev pub In : ℕ → List ℕ → Type 0
In x xs = mem x xs ≡ true

abbrev pub Sub : List ℕ → List ℕ → Type 0
Sub xs ys = (x : ℕ) → In x xs → In x ys

abbrev pub Every : {A : Type 0} → (A → Type 0) → List A → Type 0
Every Q [] = Unit {0}
Every Q (x ∷ xs) = Q x × Every Q xs

-- a number on a list
pub in_head : (i : ℕ) (c : List ℕ) → In i (i ∷ c)
in_head i c = or_left (eqb i i) (mem i c) (eqb_refl i)

pub in_tail : (i j : ℕ) (c : List ℕ) → In i c → In i (j ∷ c)
in_tail i j c h = or_right (eqb i j) (mem i c) h

pub in_append : {A : Type 0} (s : ℕ) (xs ys : List ℕ) → In s (xs ++ ys) → (In s xs → A) → (In s ys → A) → A
in_append s [] ys h f g = g h
in_append s (x ∷ xs) ys h f g = or_cases (eqb s x) (mem s (xs ++ ys)) h
    (λ e. f (or_left (eqb s x) (mem s xs) e)) (λ e. in_append s xs ys e (λ k. f (in_tail s x xs k)) g)

pub in_each : {A : Type 0} (s : ℕ) (f : ℕ → List ℕ) (xs : List ℕ) → In s (concat_map xs f) → ((y : ℕ) → In y xs → In s (f y) → A) → A
in_each s f [] h g = absurd (false≢true h)
in_each s f (x ∷ xs) h g = in_append s (f x) (concat_map xs f) h (g x (in_head x xs)) (λ k. in_each s f xs k (λ y p. g y (in_tail y x xs p)))

pub in_range : (i n k : ℕ) → n ≤ i → i < n + k → In i (range n k)
in_range i n zero h l = absurd (omega arith)
in_range i n (suc k) h l = cases (eqb i n) (λ e. or_left (eqb i n) (mem i (range (suc n) k)) e)
    (λ e. in_tail i n (range (suc n) k) (in_range i (suc n) k (ne_lt i n e h) (omega arith)))

pub range_in : (i n k : ℕ) → In i (range n k) → i < n + k
range_in i n zero h = absurd (false≢true h)
range_in i n (suc k) h = or_cases (eqb i n) (mem i (range (suc n) k)) h (λ e. let z = eqb-true i n e in omega arith) (λ e. omega (arith, range_in i (suc n) k e))

pub in_keep : (f : ℕ → Bool) (xs : List ℕ) (i : ℕ) → In i xs → f i ≡ true → In i (filter f xs)
in_keep f [] i h k = h
in_keep f (x ∷ xs) i h k = or_cases (eqb i x) (mem i xs) h
    (λ e. let z : f x ≡ true = rw (eqb-true i x e) at k in rw z (or_left (eqb i x) (mem i (filter f xs)) e))
    (λ e. cases (f x) (λ z. rw z (in_tail i x (filter f xs) (in_keep f xs i e k))) (λ z. rw z (in_keep f xs i e k)))

pub filter_in : (f : ℕ → Bool) (xs : List ℕ) (i : ℕ) → In i (filter f xs) → In i xs × (f i ≡ true)
filter_in f [] i h = absurd (false≢true h)
filter_in f (x ∷ xs) i h = cases (f x)
    (λ z. or_cases (eqb i x) (mem i (filter f xs)) (rw z at h)
    (λ e. (or_left (eqb i x) (mem i xs) e, rw (eqb-true i x e) z))
    (λ e. let (a, b) = filter_in f xs i e in (in_tail i x xs a, b)))
    (λ z. let (a, b) = filter_in f xs i (rw z at h) in (in_tail i x xs a, b))

-- a list for each element of two lists
pub concat_map-append : {A B : Type 0} (xs ys : List A) (f : A → List B) → concat_map (xs ++ ys) f ≡ concat_map xs f ++ concat_map ys f
concat_map-append [] ys f = refl
concat_map-append (x ∷ xs) ys f = rw (concat_map-append xs ys f, append_assoc)

-- an element of a list
abbrev pub Has : {A : Type 0} → A → List A → Type 0
Has a [] = ⊥
Has a (x ∷ xs) = (a ≡ x) ⊎ Has a xs

pub has_left : {A : Type 0} (a : A) (xs ys : List A) → Has a xs → Has a (xs ++ ys)
has_left a [] ys h = absurd h
has_left a (x ∷ xs) ys (inl e) = inl e
has_left a (x ∷ xs) ys (inr h) = inr (has_left a xs ys h)

pub has_right : {A : Type 0} (a : A) (xs ys : List A) → Has a ys → Has a (xs ++ ys)
has_right a [] ys h = h
has_right a (x ∷ xs) ys h = inr (has_right a xs ys h)

pub has_each : {A : Type 0} (a : A) (xs : List ℕ) (f : ℕ → List A) (i : ℕ) → In i xs → Has a (f i) → Has a (concat_map xs f)
has_each a [] f i h k = absurd (false≢true h)
has_each a (x ∷ xs) f i h k = or_cases (eqb i x) (mem i xs) h
    (λ e. has_left a (f x) (concat_map xs f) (subst (λ (y : ℕ). Has a (f y)) (eqb-true i x e) k)) (λ e. has_right a (f x) (concat_map xs f) (has_each a xs f i e k))

pub has_map : {A : Type 0} (f : ℕ → A) (xs : List ℕ) (i : ℕ) → In i xs → Has (f i) (map f xs)
has_map f [] i h = absurd (false≢true h)
has_map f (x ∷ xs) i h = or_cases (eqb i x) (mem i xs) h (λ e. inl (ap f (eqb-true i x e))) (λ e. inr (has_map f xs i e))

-- every element of a list
pub every_append : {A : Type 0} (Q : A → Type 0) (xs ys : List A) → Every Q xs → Every Q ys → Every Q (xs ++ ys)
every_append Q [] ys h k = k
every_append Q (x ∷ xs) ys h k = (h.0, every_append Q xs ys h.1 k)

pub every_split : {A : Type 0} (Q : A → Type 0) (xs ys : List A) → Every Q (xs ++ ys) → Every Q xs × Every Q ys
every_split Q [] ys h = (tt, h)
every_split Q (x ∷ xs) ys h = let (p, q) = every_split Q xs ys h.1 in ((h.0, p), q)

pub every_map : {A : Type 0} (Q : A → Type 0) (f : ℕ → A) (xs : List ℕ) → ((i : ℕ) → In i xs → Q (f i)) → Every Q (map f xs)
every_map Q f [] g = tt
every_map Q f (x ∷ xs) g = (g x (in_head x xs), every_map Q f xs (λ i h. g i (in_tail i x xs h)))

pub every_each : {A : Type 0} (Q : A → Type 0) (xs : List ℕ) (f : ℕ → List A) → ((i : ℕ) → In i xs → Every Q (f i)) → Every Q (concat_map xs f)
every_each Q [] f g = tt
every_each Q (x ∷ xs) f g = every_append Q (f x) (concat_map xs f) (g x (in_head x xs)) (every_each Q xs f (λ i h. g i (in_tail i x xs h)))

pub every_imp : {A : Type 0} (Q R : A → Type 0) (xs : List A) → ((x : A) → Q x → R x) → Every Q xs → Every R xs
every_imp Q R [] g h = tt
every_imp Q R (x ∷ xs) g h = (g x h.0, every_imp Q R xs g h.1)

pub every_in : (Q : ℕ → Type 0) (xs : List ℕ) → Every Q xs → (x : ℕ) → In x xs → Q x
every_in Q [] h x i = absurd (false≢true i)
every_in Q (y ∷ xs) h x i = or_cases (eqb x y) (mem x xs) i (λ e. rw (eqb-true x y e) h.0) (λ e. every_in Q xs h.1 x e)

-- every element, with its number
abbrev pub AllFrom : {A : Type 0} → (ℕ → A → Type 0) → ℕ → List A → Type 0
AllFrom Q n [] = Unit {0}
AllFrom Q n (x ∷ xs) = Q n x × AllFrom Q (suc n) xs

module _ {A : Type 0} (Q : ℕ → A → Type 0) where
  pub all_append : (n : ℕ) (xs ys : List A) → AllFrom Q n xs → AllFrom Q (n + length xs) ys → AllFrom Q n (xs ++ ys)
  all_append n [] ys h k = subst (λ (m : ℕ). AllFrom Q m ys) (omega arith) k
  all_append n (x ∷ xs) ys h k = (h.0, all_append (suc n) xs ys h.1 (subst (λ (m : ℕ). AllFrom Q m ys) (omega arith) k))

  pub all_left : (n : ℕ) (xs ys : List A) → AllFrom Q n (xs ++ ys) → AllFrom Q n xs
  all_left n [] ys h = tt
  all_left n (x ∷ xs) ys h = (h.0, all_left (suc n) xs ys h.1)

  pub all_right : (n : ℕ) (xs ys : List A) → AllFrom Q n (xs ++ ys) → AllFrom Q (n + length xs) ys
  all_right n [] ys h = subst (λ (m : ℕ). AllFrom Q m ys) (omega arith) h
  all_right n (x ∷ xs) ys h = subst (λ (m : ℕ). AllFrom Q m ys) (omega arith) (all_right (suc n) xs ys h.1)

  pub all_imp : (R : ℕ → A → Type 0) → ((n : ℕ) (x : A) → Q n x → R n x) → (n : ℕ) (xs : List A) → AllFrom Q n xs → AllFrom R n xs
  all_imp R f n [] h = tt
  all_imp R f n (x ∷ xs) h = (f n x h.0, all_imp R f (suc n) xs h.1)

  pub all_zip : (R S : ℕ → A → Type 0) → ((n : ℕ) (x : A) → Q n x → R n x → S n x) → (n : ℕ) (xs : List A) → AllFrom Q n xs → AllFrom R n xs → AllFrom S n xs
  all_zip R S f n [] h k = tt
  all_zip R S f n (x ∷ xs) h k = (f n x h.0 k.0, all_zip R S f (suc n) xs h.1 k.1)

  pub all_map : {B : Type 0} (f : B → A) (n : ℕ) (xs : List B) → AllFrom (λ x b. Q x (f b)) n xs → AllFrom Q n (map f xs)
  all_map f n [] h = tt
  all_map f n (x ∷ xs) h = (h.0, all_map f (suc n) xs h.1)

  pub all_unmap : {B : Type 0} (f : B → A) (n : ℕ) (xs : List B) → AllFrom Q n (map f xs) → AllFrom (λ x b. Q x (f b)) n xs
  all_unmap f n [] h = tt
  all_unmap f n (x ∷ xs) h = (h.0, all_unmap f (suc n) xs h.1)

  -- from a property of elements alone
  pub all_of : (K : A → Type 0) (n : ℕ) (xs : List A) → ((k : ℕ) (x : A) → n ≤ k → K x → Q k x) → Every K xs → AllFrom Q n xs
  all_of K n [] f h = tt
  all_of K n (x ∷ xs) f h = (f n x (omega arith) h.0, all_of K (suc n) xs (λ k y l. f k y (omega arith)) h.1)

  pub all_every : (K : A → Type 0) (n : ℕ) (xs : List A) → AllFrom (λ x a. K a → Q x a) n xs → Every K xs → AllFrom Q n xs
  all_every K n [] f h = tt
  all_every K n (x ∷ xs) f h = (f.0 h.0, all_every K (suc n) xs f.1 h.1)

  pub all_any : ((k : ℕ) (x : A) → Q k x) → (n : ℕ) (xs : List A) → AllFrom Q n xs
  all_any f n [] = tt
  all_any f n (x ∷ xs) = (f n x, all_any f (suc n) xs)

pub every_of : (Q : ℕ → Type 0) (xs : List ℕ) → ((i : ℕ) → In i xs → Q i) → Every Q xs
every_of Q [] f = tt
every_of Q (x ∷ xs) f = (f x (in_head x xs), every_of Q xs (λ i h. f i (in_tail i x xs h)))

-- a run of stores, and one behind it
pub stores_append : (n : List ℕ) (p : ℕ) (xs ys : List ℕ) → sets n p (xs ++ ys) ≡ sets (sets n p xs) (p + length xs) ys
stores_append n p [] ys = let e : p ≡ p + 0 = omega arith in ap (λ q. sets n q ys) e
stores_append n p (x ∷ xs) ys = let e : suc p + length xs ≡ p + suc (length xs) = omega arith in
    stores_append (set n p x) (suc p) xs ys ∙ ap (λ q. sets (sets (set n p x) (suc p) xs) q ys) e
