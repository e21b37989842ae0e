-- Sums modulo 2, and what AND's and REF's bits add up to.
use mathlib.Core.Path.{◌≡◌, refl, sym, ap, ap₂, ◌∙◌}
use mathlib.Core.Bool.{Bool, true, false, not, ◌&&◌, and_comm}
use mathlib.Core.List.{List, [], ◌∷◌, ◌++◌, map}
use Prim.Native.Nat.{ℕ, zero, suc, ◌+◌, ◌≤◌, ◌<◌}
use native.Mathlib.Omega.{arith}
use lib.Dec.{eqb}
use borrow.Author.Tests.{eqb-true}
use Rattle.circuit.specs.Lists.{◌⊕◌, range, filter}
use Rattle.circuit.specs.Gadgets.{labels, others}
use Rattle.circuit.proofs.Base.{no_flip, xor_self, xor_comm, xor_assoc, ne_lt, cases, lt_ne, eqb_refl, eqb_sym, In, in_head, in_tail}
use Rattle.circuit.proofs.Parts.{label_lt}
use Rattle.semantics.specs.Values.{xor_sum}

-- (a + b) + (e + h) = (a + e) + (b + h)
xor_middle : (a b e h : Bool) → ((a ⊕ b) ⊕ (e ⊕ h)) ≡ ((a ⊕ e) ⊕ (b ⊕ h))
xor_middle a b e h = xor_assoc a b (e ⊕ h) ∙ ap (λ z. a ⊕ z) (sym (xor_assoc b e h) ∙ ap (λ z. z ⊕ h) (xor_comm b e) ∙ xor_assoc e b h) ∙ sym (xor_assoc a e (b ⊕ h))

xor_swap : (a b e : Bool) → (a ⊕ (b ⊕ e)) ≡ (b ⊕ (a ⊕ e))
xor_swap a b e = sym (xor_assoc a b e) ∙ ap (λ z. z ⊕ e) (xor_comm a b) ∙ xor_assoc b a e

pub xor_sum_ext : (f g : ℕ → Bool) (xs : List ℕ) → ((i : ℕ) → In i xs → f i ≡ g i) → xor_sum xs f ≡ xor_sum xs g
xor_sum_ext f g [] h = refl
xor_sum_ext f g (x ∷ xs) h = ap₂ (λ p q. p ⊕ q) (h x (in_head x xs)) (xor_sum_ext f g xs (λ i k. h i (in_tail i x xs k)))

xor_sum-none : (xs : List ℕ) → xor_sum xs (λ i. false) ≡ false
xor_sum-none [] = refl
xor_sum-none (x ∷ xs) = xor_sum-none xs

pub xor_sum-xor : (f g : ℕ → Bool) (xs : List ℕ) → xor_sum xs (λ i. f i ⊕ g i) ≡ (xor_sum xs f ⊕ xor_sum xs g)
xor_sum-xor f g [] = refl
xor_sum-xor f g (x ∷ xs) = ap (λ z. (f x ⊕ g x) ⊕ z) (xor_sum-xor f g xs) ∙ xor_middle (f x) (g x) (xor_sum xs f) (xor_sum xs g)

xor_sum-and : (a : Bool) (f : ℕ → Bool) (xs : List ℕ) → xor_sum xs (λ i. a && f i) ≡ (a && xor_sum xs f)
xor_sum-and true f xs = refl
xor_sum-and false f xs = xor_sum-none xs

and-total : (f : ℕ → Bool) (a : Bool) (xs : List ℕ) → xor_sum xs (λ i. f i && a) ≡ (xor_sum xs f && a)
and-total f a xs = xor_sum_ext _ (λ i. a && f i) xs (λ i h. and_comm (f i) a) ∙ xor_sum-and a f xs ∙ and_comm a (xor_sum xs f)

pub xor_sum-append : (f : ℕ → Bool) (xs ys : List ℕ) → xor_sum (xs ++ ys) f ≡ (xor_sum xs f ⊕ xor_sum ys f)
xor_sum-append f [] ys = refl
xor_sum-append f (x ∷ xs) ys = ap (λ z. f x ⊕ z) (xor_sum-append f xs ys) ∙ sym (xor_assoc (f x) (xor_sum xs f) (xor_sum ys f))

pub xor_sum-map : (f : ℕ → Bool) (g : ℕ → ℕ) (xs : List ℕ) → xor_sum (map g xs) f ≡ xor_sum xs (λ i. f (g i))
xor_sum-map f g [] = refl
xor_sum-map f g (x ∷ xs) = ap (λ z. f (g x) ⊕ z) (xor_sum-map f g xs)

xor_sum_keep : (p f : ℕ → Bool) (xs : List ℕ) → xor_sum (filter p xs) f ≡ xor_sum xs (λ i. p i && f i)
xor_sum_keep p f [] = refl
xor_sum_keep p f (x ∷ xs) = cases (p x) (λ e. rw e (ap (λ z. f x ⊕ z) (xor_sum_keep p f xs))) (λ e. rw e (xor_sum_keep p f xs))

-- one term of a sum, and the others
xor_sum_miss : (f : ℕ → Bool) (i n k : ℕ) → i < n → xor_sum (range n k) (λ j. eqb i j && f j) ≡ false
xor_sum_miss f i n zero h = refl
xor_sum_miss f i n (suc k) h = rw (lt_ne i n h) (xor_sum_miss f i (suc n) k (omega arith))

xor_sum-one : (f : ℕ → Bool) (i n k : ℕ) → n ≤ i → i < n + k → xor_sum (range n k) (λ j. eqb i j && f j) ≡ f i
xor_sum-one f i n zero h l = absurd (omega arith)
xor_sum-one f i n (suc k) h l = cases (eqb i n)
    (λ e. rw e (ap₂ (λ p q. p ⊕ q) (ap f (sym (eqb-true i n e))) (xor_sum_miss f i (suc n) k (let z = eqb-true i n e in omega arith)) ∙ no_flip (f i)))
    (λ e. rw e (xor_sum-one f i (suc n) k (ne_lt i n e h) (omega arith)))

xor_sum-others : (d i : ℕ) (f : ℕ → Bool) → i < d → (f i ⊕ xor_sum (others d i) f) ≡ xor_sum (labels d) f
xor_sum-others d i f l =
    let ne : ℕ → Bool = λ j. not (eqb i j) in
    ap₂ (λ p q. p ⊕ q) (sym (xor_sum-one f i 0 d (omega arith) (omega arith))) (xor_sum_keep ne f (labels d))
    ∙ sym (xor_sum-xor (λ j. eqb i j && f j) (λ j. ne j && f j) (labels d))
    ∙ xor_sum_ext (λ j. (eqb i j && f j) ⊕ (ne j && f j)) f (labels d) (λ j h. cases (eqb i j) (λ e. rw e (no_flip (f j))) (λ e. rw e))

-- a symmetric sum over all i and j ≠ i is 0
xor_sum_symmetric : (t : ℕ → ℕ → Bool) → ((i : ℕ) → t i i ≡ false) → ((i j : ℕ) → t i j ≡ t j i) → (n k : ℕ) → xor_sum (range n k) (λ i. xor_sum (range n k) (t i)) ≡ false
xor_sum_symmetric t z y n zero = refl
xor_sum_symmetric t z y n (suc k) =
    let xs = range (suc n) k in
    ap₂ (λ p q. p ⊕ q)
    (ap (λ b. b ⊕ xor_sum xs (t n)) (z n))
    (xor_sum-xor (λ i. t i n) (λ i. xor_sum xs (t i)) xs ∙ ap₂ (λ p q. p ⊕ q) (xor_sum_ext (λ i. t i n) (t n) xs (λ i h. y i n)) (xor_sum_symmetric t z y (suc n) k) ∙ no_flip (xor_sum xs (t n)))
    ∙ xor_self (xor_sum xs (t n))

-- bits t(i,j) = t(j,i) for each two labels
module _ (d : ℕ) (t : ℕ → ℕ → Bool) (same : (i j : ℕ) → eqb i j ≡ false → t i j ≡ t j i) where
  cancel : xor_sum (labels d) (λ i. xor_sum (others d i) (t i)) ≡ false
  cancel =
      let off : ℕ → ℕ → Bool = λ i j. not (eqb i j) && t i j in
      xor_sum_ext _ (λ i. xor_sum (labels d) (off i)) (labels d) (λ i h. xor_sum_keep (λ j. not (eqb i j)) (t i) (labels d))
      ∙ xor_sum_symmetric off (λ i. rw (eqb_refl i)) (λ i j. cases (eqb i j) (λ e. rw (e, eqb_sym j i, e)) (λ e. rw (e, eqb_sym j i, e) (same i j e))) 0 d

  -- REF: x(i) + the sum of the t(i,j) over j ≠ i
  pub refreshed : (x : ℕ → Bool) → xor_sum (labels d) (λ i. x i ⊕ xor_sum (others d i) (t i)) ≡ xor_sum (labels d) x
  refreshed x = xor_sum-xor x (λ i. xor_sum (others d i) (t i)) (labels d) ∙ ap (λ z. xor_sum (labels d) x ⊕ z) cancel ∙ no_flip (xor_sum (labels d) x)

  -- AND: x(i)·y(i) + the sums over j ≠ i of (not x(i))·t(i,j) and of x(i)·(y(j) + t(i,j))
  module _ (x y : ℕ → Bool) where
    abbrev pub output : ℕ → Bool
    output i = (x i && y i) ⊕ (xor_sum (others d i) (λ j. not (x i) && t i j) ⊕ xor_sum (others d i) (λ j. x i && (y j ⊕ t i j)))

    gather : (p q z : Bool) → ((not p && z) ⊕ (p && (q ⊕ z))) ≡ (z ⊕ (p && q))
    gather true q z = xor_comm q z
    gather false q z = refl

    row : (i : ℕ) → i < d → output i ≡ (xor_sum (others d i) (t i) ⊕ (x i && xor_sum (labels d) y))
    row i l =
        let f : ℕ → Bool = λ j. x i && y j in
        ap (λ z. (x i && y i) ⊕ z)
        (sym (xor_sum-xor (λ j. not (x i) && t i j) (λ j. x i && (y j ⊕ t i j)) (others d i))
        ∙ xor_sum_ext _ (λ j. t i j ⊕ f j) (others d i) (λ j h. gather (x i) (y j) (t i j)) ∙ xor_sum-xor (t i) f (others d i))
        ∙ xor_swap (x i && y i) (xor_sum (others d i) (t i)) (xor_sum (others d i) f)
        ∙ ap (λ z. xor_sum (others d i) (t i) ⊕ z) (xor_sum-others d i f l ∙ xor_sum-and (x i) y (labels d))

    pub multiplied : xor_sum (labels d) output ≡ (xor_sum (labels d) x && xor_sum (labels d) y)
    multiplied = xor_sum_ext output (λ i. xor_sum (others d i) (t i) ⊕ (x i && xor_sum (labels d) y)) (labels d) (λ i h. row i (label_lt d i h))
        ∙ xor_sum-xor (λ i. xor_sum (others d i) (t i)) (λ i. x i && xor_sum (labels d) y) (labels d)
        ∙ ap₂ (λ p q. p ⊕ q) cancel (and-total x (xor_sum (labels d) y) (labels d))
