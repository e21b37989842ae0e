-- Lists for each number of a range: where they end, and the number of each element.
use mathlib.Core.Path.{◌≡◌, refl, ap, ap₂, subst₂, ◌∙◌}
use mathlib.Core.Bool.{Bool, true, false, not}
use mathlib.Core.List.{List, [], ◌∷◌, ◌++◌, map}
use Prim.Native.Nat.{ℕ, zero, suc, ◌+◌, ◌-◌, ◌≤◌, ◌<◌}
use native.Mathlib.Nat.{add-zero, add-suc, zero-add, suc-add, sub-zero}
use native.Mathlib.Numerals.{add-one}
use native.Mathlib.Omega.{arith}
use lib.Dec.{eqb, ltb}
use lib.ListN.{length, length-append}
use borrow.Author.Tests.{lt-ltb, le-ltb}
use Rattle.circuit.specs.Lists.{range, filter, concat_map}
use Rattle.circuit.specs.Gadgets.{labels, above, others}
use Rattle.circuit.proofs.Base.{cases, lt_ne, eqb_sym, eqb_refl, In, in_head, in_tail, AllFrom, all_append}

-- a range in two parts, and the numbers of it that are kept
pub range_split : (n a b : ℕ) → range n (a + b) ≡ range n a ++ range (n + a) b
range_split n zero b = simp (zero-add, add-zero)
range_split n (suc a) b = simp (suc-add, add-suc, range_split (suc n) a b)

pub filter-append : (p : ℕ → Bool) (xs ys : List ℕ) → filter p (xs ++ ys) ≡ filter p xs ++ filter p ys
filter-append p [] ys = refl
filter-append p (x ∷ xs) ys = cases (p x) (λ e. rw (e, filter-append p xs ys)) (λ e. rw (e, filter-append p xs ys))

pub filter-all : (p : ℕ → Bool) (n c : ℕ) → ((j : ℕ) → n ≤ j → j < n + c → p j ≡ true) → filter p (range n c) ≡ range n c
filter-all p n zero h = refl
filter-all p n (suc c) h = rw (h n (omega arith) (omega arith), filter-all p (suc n) c (λ j l k. h j (omega arith) (omega arith)))

pub filter_none : (p : ℕ → Bool) (n c : ℕ) → ((j : ℕ) → n ≤ j → j < n + c → p j ≡ false) → filter p (range n c) ≡ []
filter_none p n zero h = refl
filter_none p n (suc c) h = rw (h n (omega arith) (omega arith)) (filter_none p (suc n) c (λ j l k. h j (omega arith) (omega arith)))

-- the numbers from j on
pub range_turn : (d j : ℕ) → j < d → range j (d - j) ≡ j ∷ range (j + 1) (d - (j + 1))
range_turn d j h = let e : d - j ≡ suc (d - (j + 1)) = omega arith in rw e (rw add-one)

pub range_end : (d j : ℕ) → d ≤ j → range j (d - j) ≡ []
range_end d j h = let e : d - j ≡ 0 = omega arith in rw e

-- the labels above i, and those other than i
module _ (d i : ℕ) (l : i < d) where
  filter-split : (p : ℕ → Bool) (n : ℕ) → n ≤ d → filter p (labels d) ≡ filter p (range 0 n) ++ filter p (range n (d - n))
  filter-split p n h = let e : d ≡ n + (d - n) = omega arith in ap (λ m. filter p (range 0 m)) e ∙ simp (range_split 0 n (d - n), zero-add, filter-append)

  pub above-is : above d i ≡ range (suc i) (d - suc i)
  above-is = filter-split (ltb i) (suc i) l ∙ ap₂ (λ x y. x ++ y)
      (filter_none (ltb i) 0 (suc i) (λ j h k. le-ltb i j (omega arith))) (filter-all (ltb i) (suc i) (d - suc i) (λ j h k. lt-ltb i j h))

  pub others-is : others d i ≡ range 0 i ++ range (suc i) (d - suc i)
  others-is =
      let p : ℕ → Bool = λ j. not (eqb i j) in
      filter-split p i (omega arith) ∙ ap₂ (λ x y. x ++ y) (filter-all p 0 i (λ j h k. rw (eqb_sym i j, lt_ne j i (omega arith))))
      (rw (range_turn d i l, eqb_refl i, add-one) (filter-all p (suc i) (d - suc i) (λ j h k. rw (lt_ne i j h))))

  -- the same, as the code goes over them
  pub others-split : others d i ≡ range 0 (i - 0) ++ range (i + 1) (d - (i + 1))
  others-split = simp (sub-zero, add-one) others-is

-- a list that lies from number n on, up to m: each element is as its number says
module _ {A : Type 0} (Q : ℕ → A → Type 0) where
  pub record Lies (n : ℕ) (xs : List A) (m : ℕ) : Type 0 where
    pub all : AllFrom Q n xs
    pub ends : n + length xs ≡ m

  pub lies_at : {n n' m m' : ℕ} {xs : List A} → n ≡ n' → m ≡ m' → Lies n xs m → Lies n' xs m'
  lies_at {xs = xs} p q h = subst₂ (λ n m. Lies n xs m) p q h

  pub lies_append : {n m o : ℕ} {xs ys : List A} → Lies n xs m → Lies m ys o → Lies n (xs ++ ys) o
  lies_append {n} {xs = xs} {ys} p q = record { all = all_append Q n xs ys p.all (rw p.ends q.all); ends = simp length-append (omega (arith, p.ends, q.ends)) }

  -- lists for each number of a range, one behind the other: `start i` is where the list of i begins
  pub lies_each : (f : ℕ → List A) (start : ℕ → ℕ) (m c : ℕ) → ((i : ℕ) → m ≤ i → i < m + c → Lies (start i) (f i) (start (suc i))) → Lies (start m) (concat_map (range m c) f) (start (m + c))
  lies_each f start m zero h = record { all = tt; ends = simp add-zero }
  lies_each f start m (suc c) h = simp add-suc (lies_append (h m (omega arith) (omega arith)) (simp suc-add at (lies_each f start (suc m) c (λ i l u. h i (omega arith) (omega arith)))))

pub map_on : (f g : ℕ → ℕ) (xs : List ℕ) → ((i : ℕ) → In i xs → f i ≡ g i) → map f xs ≡ map g xs
map_on f g [] h = refl
map_on f g (x ∷ xs) h = rw (h x (in_head x xs), map_on f g xs (λ i k. h i (in_tail i x xs k)))
