-- Numbers that a test finds alike, sharings that are found by their wires, and elements by their numbers.
use mathlib.Core.Path.{◌≡◌, refl, sym, ap, ap₂, subst, ◌∙◌}
use mathlib.Core.Bool.{Bool, true, false, cond, false≢true}
use mathlib.Core.List.{List, [], ◌∷◌, ◌++◌, map}
use Prim.Native.Nat.{ℕ, zero, suc, ◌+◌, ◌≤◌, ◌<◌}
use native.Mathlib.Omega.{arith}
use lib.Dec.{eqb}
use lib.ListN.{length, get_or}
use borrow.Author.Tests.{eqb-true, eq-eqb}
use Rattle.circuit.specs.Lists.{range, filter}
use Rattle.circuit.proofs.Base.{cases, or_left, or_right, or_cases, and_left, and_right, and_both, Every}
use Rattle.circuit.proofs.Numbered.{range_at, map_at}
use Rattle.circuit.proofs.Sizes.{range_length}
use Rattle.semantics.specs.Counts.{alike}
use Rattle.semantics.proofs.Alike.{same_list, alike-itself}
use Rattle.plain.specs.Sharings.{Sharing, is_sharing, number_of}

-- numbers that are alike one number, as many times: there are as many, and each is that number
pub one_number : {A : Type 0} (g : A → ℕ) (c : ℕ) (xs : List A) (is : List ℕ) → alike eqb (map g xs) (map (λ i. c) is) ≡ true → Every (λ x. g x ≡ c) xs × (length xs ≡ length is)
one_number g c [] [] h = (tt, refl)
one_number g c [] (i ∷ is) h = absurd (false≢true h)
one_number g c (x ∷ xs) [] h = absurd (false≢true h)
one_number g c (x ∷ xs) (i ∷ is) h =
    let (each, count) = one_number g c xs is (and_right (eqb (g x) c) _ h) in ((eqb-true (g x) c (and_left (eqb (g x) c) _ h), each), ap suc count)

pub all-one-number : {A : Type 0} (g : A → ℕ) (c : ℕ) (xs : List A) (is : List ℕ) → Every (λ x. g x ≡ c) xs → length xs ≡ length is → alike eqb (map g xs) (map (λ i. c) is) ≡ true
all-one-number g c [] [] h e = refl
all-one-number g c [] (i ∷ is) h e = absurd (omega arith)
all-one-number g c (x ∷ xs) [] h e = absurd (omega arith)
all-one-number g c (x ∷ xs) (i ∷ is) h e = and_both (eqb (g x) c) _ (eq-eqb (g x) c h.0) (all-one-number g c xs is h.1 (omega arith))

-- numbers in a row, from a number on
pub in_a_row : (g : ℕ → ℕ) (n m c : ℕ) → ((i : ℕ) → i < c → g (n + i) ≡ m + i) → map g (range n c) ≡ range m c
in_a_row g n m zero h = refl
in_a_row g n m (suc c) h =
    let z : n ≡ n + 0 = omega arith in
    ap₂ (λ x xs. x ∷ xs) (ap g z ∙ h 0 (omega arith) ∙ omega arith)
    (in_a_row g (suc n) (suc m) c (λ i l. (let e : suc n + i ≡ n + suc i = omega arith in ap g e) ∙ h (suc i) (omega arith) ∙ omega arith))

-- the element at a number of a range
pub range-map-at : {B : Type 0} (g : ℕ → B) (n c i : ℕ) (z : B) → i < c → get_or (map g (range n c)) i z ≡ g (n + i)
range-map-at g n c i z l = map_at g (range n c) i z 0 (omega (arith, range_length n c)) ∙ ap g (range_at n c i l)

pub every_at : {A : Type 0} (Q : A → Type 0) (xs : List A) → Every Q xs → (i : ℕ) (y : A) → i < length xs → Q (get_or xs i y)
every_at Q [] h i y l = absurd (omega arith)
every_at Q (x ∷ xs) h zero y l = h.0
every_at Q (x ∷ xs) h (suc i) y l = every_at Q xs h.1 i y (omega arith)

-- the numbers of a range that two tests keep
pub filter_same : (p q : ℕ → Bool) (n c : ℕ) → ((j : ℕ) → n ≤ j → j < n + c → p j ≡ q j) → filter p (range n c) ≡ filter q (range n c)
filter_same p q n zero h = refl
filter_same p q n (suc c) h = rw (h n (omega arith) (omega arith)) (ap (λ l. cond (q n) (n ∷ l) l) (filter_same p q (suc n) c (λ j l k. h j (omega arith) (omega arith))))

-- a sharing is one of more sharings, and of those that it ends
pub is_more : (ws : List ℕ) (ss more : List Sharing) → is_sharing ws ss ≡ true → is_sharing ws (ss ++ more) ≡ true
is_more ws [] more h = absurd (false≢true h)
is_more ws (s ∷ ss) more h = or_cases (alike eqb ws s.wires) (is_sharing ws ss) h (λ e. or_left _ _ e) (λ e. or_right (alike eqb ws s.wires) _ (is_more ws ss more e))

pub is_last : (ss : List Sharing) (s : Sharing) → is_sharing s.wires (ss ++ (s ∷ [])) ≡ true
is_last [] s = or_left _ false (alike-itself s.wires)
is_last (t ∷ ss) s = or_right (alike eqb s.wires t.wires) _ (is_last ss s)

-- what holds of the wires of every sharing, or of those at the number of one, holds of wires that are a sharing
pub every_found : (Q : List ℕ → Type 0) (ws : List ℕ) (ss : List Sharing) → is_sharing ws ss ≡ true → Every (λ s. Q s.wires) ss → Q ws
every_found Q ws [] h k = absurd (false≢true h)
every_found Q ws (s ∷ ss) h k = or_cases (alike eqb ws s.wires) (is_sharing ws ss) h (λ e. subst Q (sym (same_list ws s.wires e)) k.0) (λ e. every_found Q ws ss e k.1)

pub number_lt : (ws : List ℕ) (ss : List Sharing) → is_sharing ws ss ≡ true → number_of ws ss < length ss
number_lt ws [] h = absurd (false≢true h)
number_lt ws (s ∷ ss) h = cases (alike eqb ws s.wires) (λ e. rw e (omega arith)) (λ e. rw e (omega (arith, number_lt ws ss (rw e at h))))

pub number_at : {B : Type 0} (g : List ℕ → B) (z : B) (ws : List ℕ) (ss : List Sharing) → is_sharing ws ss ≡ true → get_or (map g (map (λ s. s.wires) ss)) (number_of ws ss) z ≡ g ws
number_at g z ws [] h = absurd (false≢true h)
number_at g z ws (s ∷ ss) h = cases (alike eqb ws s.wires) (λ e. rw e (ap g (sym (same_list ws s.wires e)))) (λ e. rw e (number_at g z ws ss (rw e at h)))
