-- How many wires each kind makes: the numbers of document 01's table.
use mathlib.Core.Path.{◌≡◌, refl, sym, ap, ap₂, ◌∙◌}
use mathlib.Core.Bool.{Bool, true, not}
use mathlib.Core.List.{List, [], ◌∷◌, ◌++◌, map}
use Prim.Native.Nat.{ℕ, zero, suc, ◌+◌, ◌*◌, ◌-◌, ◌≤◌, ◌<◌}
use native.Mathlib.Omega.{arith}
use lib.Dec.{eqb, ltb}
use lib.ListN.{length, length-append, length-map}
use borrow.Author.Tests.{eqb-true, lt-ltb, ltb-true, ltb-false}
use Rattle.circuit.specs.Lists.{range, filter, concat_map}
use Rattle.circuit.specs.Wires.{Gate, named, inner, ◌placed◌}
use Rattle.circuit.specs.Gadgets.{Part, r, s, labels, above, others, gate, delay, in_and, in_ref, index, gadget}
use Rattle.circuit.specs.Kinds.{Kind, HEAD, IN, CON, XOR, NOT, REG, AND, REF, OUT, WordRule, share, before, registered, row, pairs, shape, words}
use Rattle.circuit.specs.Circuit.{Circuit, made}
use Rattle.circuit.proofs.Base.{cases, ne_lt, lt_ne}
use Rattle.circuit.proofs.Parts.{cell1, cell2, cell3, sec1, sec2, sec3, fresh1}

-- numbers that are kept
pub range_length : (n k : ℕ) → length (range n k) ≡ k
range_length n zero = refl
range_length n (suc k) = ap suc (range_length (suc n) k)

filter-all : (p : ℕ → Bool) (n k : ℕ) → ((j : ℕ) → n ≤ j → p j ≡ true) → length (filter p (range n k)) ≡ k
filter-all p n zero h = refl
filter-all p n (suc k) h = rw (h n (omega arith)) (ap suc (filter-all p (suc n) k (λ j l. h j (omega arith))))

above-length : (i n k : ℕ) → n ≤ suc i → i < n + k → length (filter (ltb i) (range n k)) + suc i ≡ n + k
above-length i n zero h l = omega arith
above-length i n (suc k) h l = cases (ltb i n)
    (λ e. rw e (omega (arith, ltb-true i n e, filter-all (ltb i) (suc n) k (λ j q. lt-ltb i j (omega (arith, ltb-true i n e))))))
    (λ e. let y = ltb-false i n e in rw e (omega (arith, above-length i (suc n) k (omega arith) (omega arith))))

others-length : (i n k : ℕ) → n ≤ i → i < n + k → suc (length (filter (λ j. not (eqb i j)) (range n k))) ≡ k
others-length i n zero h l = absurd (omega arith)
others-length i n (suc k) h l = cases (eqb i n)
    (λ e. let z = eqb-true i n e in rw e (ap suc (filter-all (λ j. not (eqb i j)) (suc n) k (λ j q. rw (lt_ne i j (omega arith))))))
    (λ e. rw e (ap suc (others-length i (suc n) k (ne_lt i n e h) (omega arith))))

above-pairs : (d n k : ℕ) → n + k ≡ d → length (concat_map (range n k) (above d)) * 2 + k ≡ k * k
above-pairs d n zero e = omega arith
above-pairs d n (suc k) e = omega (arith, length-append (above d n) (concat_map (range (suc n) k) (above d)), above-length n 0 d (omega arith) (omega arith), above-pairs d (suc n) k (omega arith))

other-pairs : (d n k : ℕ) → n + k ≤ d → length (concat_map (range n k) (others d)) + k ≡ k * d
other-pairs d n zero e = omega arith
other-pairs d n (suc k) e = omega (arith, length-append (others d n) (concat_map (range (suc n) k) (others d)), others-length n 0 d (omega arith) (omega arith), other-pairs d (suc n) k (omega arith))

square : (d : ℕ) → d * (d - 1) + d ≡ d * d
square zero = refl
square (suc d) = let e : suc d - 1 ≡ d = omega arith in rw e (omega arith)

-- the pairs i<j, and the pairs i≠j
pub above-count : (d : ℕ) → length (concat_map (labels d) (above d)) ≡ pairs d
above-count d = omega (arith, above-pairs d 0 d (omega arith), square d)

pub others-count : (d : ℕ) → length (concat_map (labels d) (others d)) ≡ d * (d - 1)
others-count d = omega (arith, other-pairs d 0 d (omega arith), square d)

pub pairs_twice : (d : ℕ) → pairs d * 2 ≡ d * (d - 1)
pairs_twice d = omega (arith, above-pairs d 0 d (omega arith), square d)

-- a measure of lists of parts that adds up
module _ (μ : List Part → ℕ) (none : μ [] ≡ 0) (both : (xs ys : List Part) → μ (xs ++ ys) ≡ μ xs + μ ys) where
  overwrite-each : (f : ℕ → List Part) (q : ℕ) → ((i : ℕ) → μ (f i) ≡ q) → (is : List ℕ) → μ (concat_map is f) ≡ length is * q
  overwrite-each f q h [] = omega (arith, none)
  overwrite-each f q h (i ∷ is) = omega (arith, both (f i) (concat_map is f), h i, overwrite-each f q h is)

  overwrite-pairs : (g : ℕ → List ℕ) (f : ℕ → ℕ → List Part) (q : ℕ) → ((i j : ℕ) → μ (f i j) ≡ q) → (is : List ℕ) → μ (concat_map is (λ i. concat_map (g i) (f i))) ≡ length (concat_map is g) * q
  overwrite-pairs g f q h [] = omega (arith, none)
  overwrite-pairs g f q h (i ∷ is) = both (concat_map (g i) (f i)) (concat_map is (λ i. concat_map (g i) (f i))) ∙ ap₂ (λ x y. x + y) (overwrite-each (f i) q (h i) (g i)) (overwrite-pairs g f q h is)
      ∙ spread (length (g i)) (length (concat_map is g)) q ∙ sym (ap (λ x. x * q) (length-append (g i) (concat_map is g)))
    where
      spread : (x y q : ℕ) → x * q + y * q ≡ (x + y) * q
      spread x y q = omega arith

  pub of_and : (d p q t : ℕ) → ((i j : ℕ) → μ (cell1 i j) ≡ p) → ((i : ℕ) → μ (cell2 i) ≡ q) → ((i j : ℕ) → μ (cell3 i j) ≡ t)
      → μ (in_and d) ≡ pairs d * p + d * q + d * (d - 1) * t
  unfolding in_and
  of_and d p q t h1 h2 h3 = both (sec1 d ++ sec2 d) (sec3 d) ∙ ap₂ (λ x y. x + y)
      (both (sec1 d) (sec2 d) ∙ ap₂ (λ x y. x + y) (overwrite-pairs (above d) cell1 p h1 (labels d) ∙ ap (λ x. x * p) (above-count d))
      (overwrite-each cell2 q h2 (labels d) ∙ ap (λ x. x * q) (range_length 0 d)))
      (overwrite-pairs (others d) cell3 t h3 (labels d) ∙ ap (λ x. x * t) (others-count d))

  pub of_ref : (d p q : ℕ) → ((i j : ℕ) → μ (r i j ∷ []) ≡ p) → μ (map s (labels d)) ≡ q → μ (in_ref d) ≡ pairs d * p + q
  unfolding in_ref
  of_ref d p q h1 h2 = both (fresh1 d) (map s (labels d)) ∙ ap₂ (λ x y. x + y)
      (overwrite-pairs (above d) (λ i j. r i j ∷ []) p h1 (labels d) ∙ ap (λ x. x * p) (above-count d)) h2

pub labels-map : {A : Type 0} (d : ℕ) (f : ℕ → A) → length (map f (labels d)) ≡ d
labels-map d f = length-map (labels d) f ∙ range_length 0 d

pub and-size : (d : ℕ) → length (in_and d) + d ≡ 7 * (d * (d - 1)) + 4 * d
and-size d = omega (arith, of_and length refl length-append d 2 3 6 (λ i j. refl) (λ i. refl) (λ i j. refl), pairs_twice d)

pub ref_size : (d : ℕ) → length (in_ref d) + d ≡ pairs d + 2 * d
ref_size d = omega (arith, of_ref length refl length-append d 1 d (λ i j. refl) (labels-map d s))

pub gadget-size : (d first : ℕ) (a b : ℕ → ℕ) (inside : List Part) (out : ℕ → Part) (start end : ℕ)
    → length (gadget d first a b inside out start end) ≡ length inside + d
unfolding gadget
gadget-size d first a b inside out start end =
    let g : Part → Gate = gate d a b (λ p. first + index p inside) in
    length-append (map (λ p. g p placed inner (start + delay p)) inside) (map (λ i. g (out i) placed named i end) (labels d))
    ∙ ap₂ (λ x y. x + y) (length-map inside (λ p. g p placed inner (start + delay p))) (labels-map d (λ i. g (out i) placed named i end))

-- every kind makes as many wires as the table says
pub made-size : (k : Circuit) (ops : List ℕ) (kind : Kind) → length (made k ops kind) ≡ (shape k.d kind).wires
unfolding made shape
made-size k ops HEAD = refl
made-size k ops IN = labels-map k.d _
made-size k ops CON = refl
made-size k ops XOR = refl
made-size k ops NOT = refl
made-size k ops REG = refl
made-size k ops AND = gadget-size _ _ _ _ _ _ _ _ ∙ and-size k.d
made-size k ops REF = gadget-size _ _ _ _ _ _ _ _ ∙ ref_size k.d
made-size k ops OUT = refl

-- how many words frames with rows have
pub row-length : (rule : ℕ → ℕ → WordRule) (place d : ℕ) → length (row rule place d) ≡ d
row-length rule place d = labels-map d (λ i. rule i place)

pub words-AND : (d : ℕ) → words d AND ≡ 1 + d + d
unfolding shape
words-AND d = omega (arith, length-append (row share 1 d) (row before 1 d), row-length share 1 d, row-length before 1 d)

pub words-REF : (d : ℕ) → words d REF ≡ 1 + d
unfolding shape
words-REF d = omega (arith, row-length share 1 d)

pub words-OUT : (d : ℕ) → words d OUT ≡ d
unfolding shape
words-OUT d = row-length registered 0 d
