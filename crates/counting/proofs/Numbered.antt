-- All lists of free bits by their numbers; and the combinations of values by theirs.
use mathlib.Core.Path.{◌≡◌, refl, sym, ap, ap₂, ◌∙◌}
use mathlib.Core.Bool.{Bool, true, false, beq}
use mathlib.Core.List.{List, [], ◌∷◌, map}
use Prim.Native.Nat.{ℕ, zero, suc, ◌+◌, ◌-◌, ◌*◌, ◌/◌, ◌%◌, ◌^◌, ◌≤◌, ◌<◌}
use native.Mathlib.Nat.{pow-suc}
use native.Mathlib.Omega.{arith}
use lib.Dec.{ltb, eqb}
use lib.ListN.{length, get_or, length-append, length-map, get_or-append}
use lib.Seq.{get_or-append-add}
use borrow.Author.Tests.{ltb-true, ltb-false, eqb-true, eqb-false, eq-eqb, ne_eqb}
use Rattle.circuit.specs.Lists.{range}
use Rattle.circuit.specs.Circuit.{is_set}
use Rattle.circuit.proofs.Base.{cases}
use Rattle.circuit.proofs.Numbered.{map_at}
use Rattle.semantics.specs.Values.{byte}
use Rattle.semantics.specs.Counts.{alike}
use Rattle.secrecy.proofs.Sums.{sum_bits}
use Rattle.counting.specs.Counting.{combinations}
use Rattle.counting.specs.Internal.Pairs.{free_of, sum_to, number_of}

-- powers of two grow
pub pow_mono : (m n : ℕ) → n ≤ m → 2 ^ n ≤ 2 ^ m
pow_mono zero n l = let e : n ≡ 0 = omega arith in rw e (omega arith)
pow_mono (suc m) n l = cases (ltb n (suc m))
    (λ h. rw (pow-suc 2 m) (omega (arith, pow_mono m n (omega (arith, ltb-true n (suc m) h)))))
    (λ h. let e : n ≡ suc m = omega (arith, ltb-false n (suc m) h) in rw e (omega arith))

pub sum_to_same : (n : ℕ) (f g : ℕ → ℕ) → ((t : ℕ) → t < n → f t ≡ g t) → sum_to n f ≡ sum_to n g
sum_to_same zero f g h = refl
sum_to_same (suc n) f g h = ap₂ ◌+◌ (sum_to_same n f g (λ t l. h t (omega arith))) (h n (omega arith))

-- numbers one further, and a list by its places
pub range-next : {A : Type 0} (f : ℕ → A) (m n : ℕ) → map f (range (suc m) n) ≡ map (λ i. f (suc i)) (range m n)
range-next f m zero = refl
range-next f m (suc n) = ap (λ r. f (suc m) ∷ r) (range-next f (suc m) n)

pub by_place : {A : Type 0} (xs : List A) (d : A) → xs ≡ map (λ n. get_or xs n d) (range 0 (length xs))
by_place [] d = refl
by_place (x ∷ xs) d = ap (λ r. x ∷ r) (by_place xs d ∙ sym (range-next (λ n. get_or (x ∷ xs) n d) 0 (length xs)))

-- numbers in pairs, the even one first
pub sum-pairs : (n : ℕ) (f : ℕ → ℕ) → sum_to (n * 2) f ≡ sum_to n (λ t. f (t * 2 + 0)) + sum_to n (λ t. f (t * 2 + 1))
sum-pairs zero f = refl
sum-pairs (suc n) f =
    let e : suc n * 2 ≡ suc (suc (n * 2)) = omega arith in
    let even : n * 2 + 0 ≡ n * 2 = omega arith in
    let odd : n * 2 + 1 ≡ suc (n * 2) = omega arith in
    rw (e, even, odd) (omega (arith, sum-pairs n f))

-- the lowest digit, and the others
pub digit_of : (t : ℕ) (b : Bool) → is_set ((t * 2 + byte b) % 2) ≡ b
digit_of t true = let e : (t * 2 + 1) % 2 ≡ 1 = omega arith in rw e
digit_of t false = let e : (t * 2 + 0) % 2 ≡ 0 = omega arith in rw e

pub half_of : (t : ℕ) (b : Bool) → (t * 2 + byte b) / 2 ≡ t
half_of t true = omega arith
half_of t false = omega arith

free_of_lem : (n t : ℕ) (b : Bool) → free_of (suc n) (t * 2 + byte b) ≡ b ∷ free_of n t
free_of_lem n t b = ap₂ ◌∷◌ (digit_of t b) (ap (free_of n) (half_of t b))

pub sum-numbers : (n : ℕ) (f : List Bool → ℕ) → sum_bits n f ≡ sum_to (2 ^ n) (λ t. f (free_of n t))
sum-numbers zero f = omega arith
sum-numbers (suc n) f = rw (pow-suc 2 n) (ap₂ ◌+◌ (half false (sum-numbers n (λ bs. f (false ∷ bs)))) (half true (sum-numbers n (λ bs. f (true ∷ bs))))
    ∙ sym (sum-pairs (2 ^ n) (λ t. f (free_of (suc n) t))))
  where
    half : (b : Bool) → sum_bits n (λ bs. f (b ∷ bs)) ≡ sum_to (2 ^ n) (λ t. f (b ∷ free_of n t)) → sum_bits n (λ bs. f (b ∷ bs)) ≡ sum_to (2 ^ n) (λ t. f (free_of (suc n) (t * 2 + byte b)))
    half b ih = ih ∙ sum_to_same (2 ^ n) (λ t. f (b ∷ free_of n t)) (λ t. f (free_of (suc n) (t * 2 + byte b))) (λ t l. ap f (sym (free_of_lem n t b)))

-- the combination of a number
pub combinations-length : (n : ℕ) → length (combinations n) ≡ 2 ^ n
combinations-length zero = refl
combinations-length (suc n) = rw (pow-suc 2 n) (length-append (map (λ bs. false ∷ bs) (combinations n)) (map (λ bs. true ∷ bs) (combinations n))
    ∙ omega (arith, length-map (combinations n) (λ bs. false ∷ bs), length-map (combinations n) (λ bs. true ∷ bs), combinations-length n))

-- the combination of a number, below and from the half on
combination_low : (k n : ℕ) → n < 2 ^ k → get_or (combinations (suc k)) n [] ≡ false ∷ get_or (combinations k) n []
combination_low k n l =
    let most : n < length (combinations k) = omega (arith, combinations-length k) in
    get_or-append (map (λ bs. false ∷ bs) (combinations k)) (map (λ bs. true ∷ bs) (combinations k)) [] n (omega (arith, length-map (combinations k) (λ bs. false ∷ bs)))
    ∙ map_at (λ bs. false ∷ bs) (combinations k) n [] [] most

combination_high : (k n : ℕ) → n < 2 ^ k → get_or (combinations (suc k)) (2 ^ k + n) [] ≡ true ∷ get_or (combinations k) n []
combination_high k n l =
    let half : 2 ^ k ≡ length (map (λ bs. false ∷ bs) (combinations k)) = sym (length-map (combinations k) (λ bs. false ∷ bs) ∙ combinations-length k) in
    ap (λ m. get_or (combinations (suc k)) (m + n) []) half
    ∙ get_or-append-add (map (λ bs. false ∷ bs) (combinations k)) (map (λ bs. true ∷ bs) (combinations k)) n []
    ∙ map_at (λ bs. true ∷ bs) (combinations k) n [] [] (omega (arith, combinations-length k))

-- it has as many bits
pub combination_length : (k n : ℕ) → n < 2 ^ k → length (get_or (combinations k) n []) ≡ k
combination_length zero n l = let e : n ≡ 0 = omega arith in rw e
combination_length (suc k) n l = cases (ltb n (2 ^ k))
    (λ h. let less = ltb-true n (2 ^ k) h in rw (combination_low k n less) (ap suc (combination_length k n less)))
    (λ h. let e : n ≡ 2 ^ k + (n - 2 ^ k) = omega (arith, ltb-false n (2 ^ k) h) in
    let less : n - 2 ^ k < 2 ^ k = omega (arith, rw (pow-suc 2 k) at l) in
    rw (e, combination_high k (n - 2 ^ k) less) (ap suc (combination_length k (n - 2 ^ k) less)))

pub number_lt : (cs : List Bool) → number_of cs < 2 ^ length cs
number_lt [] = omega arith
number_lt (true ∷ cs) = rw (pow-suc 2 (length cs)) (omega (arith, number_lt cs))
number_lt (false ∷ cs) = rw (pow-suc 2 (length cs)) (omega (arith, number_lt cs))

-- equal numbers stay equal, and different ones different, where the same is added
same-behind : (h a b x y : ℕ) → x ≡ h + a → y ≡ h + b → eqb a b ≡ eqb x y
same-behind h a b x y p q = cases (eqb a b)
    (λ e. e ∙ sym (eq-eqb x y (omega (arith, eqb-true a b e))))
    (λ e. e ∙ sym (ne_eqb x y (λ z. eqb-false a b e (omega arith))))

-- values are the combination of a number where that is their number
pub combination_at : (cs : List Bool) (n : ℕ) → n < 2 ^ length cs → alike beq cs (get_or (combinations (length cs)) n []) ≡ eqb (number_of cs) n
combination_at [] n l = let e : n ≡ 0 = omega arith in rw e
combination_at (b ∷ cs) n l = cases (ltb n (2 ^ length cs))
    (λ h. low b n (ltb-true n (2 ^ length cs) h) (combination_at cs n (ltb-true n (2 ^ length cs) h)))
    (λ h. let e : n ≡ 2 ^ length cs + (n - 2 ^ length cs) = omega (arith, ltb-false n (2 ^ length cs) h) in
    let less : n - 2 ^ length cs < 2 ^ length cs = omega (arith, rw (pow-suc 2 (length cs)) at l) in
    rw e (high b (n - 2 ^ length cs) less (combination_at cs (n - 2 ^ length cs) less)))
  where
    half : ℕ
    half = 2 ^ length cs

    Right : List Bool → ℕ → Type 0
    Right bs m = alike beq bs (get_or (combinations (length bs)) m []) ≡ eqb (number_of bs) m

    low : (b : Bool) (m : ℕ) → m < half → Right cs m → Right (b ∷ cs) m
    low true m h ih = rw (combination_low (length cs) m h) (sym (ne_eqb (1 * half + number_of cs) m (λ e. omega arith)))
    low false m h ih = rw (combination_low (length cs) m h) (ih ∙ same-behind 0 (number_of cs) m (0 * half + number_of cs) m (omega arith) (omega arith))

    high : (b : Bool) (m : ℕ) → m < half → Right cs m → Right (b ∷ cs) (half + m)
    high true m h ih = rw (combination_high (length cs) m h) (ih ∙ same-behind half (number_of cs) m (1 * half + number_of cs) (half + m) (omega arith) refl)
    high false m h ih = rw (combination_high (length cs) m h) (sym (ne_eqb (0 * half + number_of cs) (half + m) (λ e. omega (arith, number_lt cs))))
