-- The count of a combination is the number of pairs in which the read wires show it; so the counts add up to the number of pairs.
use mathlib.Core.Path.{◌≡◌, refl, sym, ap, ap₂, subst, ◌∙◌}
use mathlib.Core.Bool.{Bool, true, false, cond, ◌&&◌, beq}
use mathlib.Core.List.{List, [], ◌∷◌, ◌++◌, map, map-append, map-map}
use Prim.Native.Nat.{ℕ, zero, suc, ◌+◌, ◌^◌, ◌≤◌, ◌<◌}
use native.Mathlib.Nat.{pow-suc}
use native.Mathlib.Omega.{arith}
use lib.Dec.{eqb}
use lib.ListN.{length, drop, get_or, length-map}
use Rattle.circuit.specs.Limits.{wire_limit}
use Rattle.circuit.specs.Lists.{range, filter}
use Rattle.circuit.specs.Circuit.{Circuit}
use Rattle.circuit.proofs.Base.{cases}
use Rattle.semantics.specs.Values.{byte, at, values_of}
use Rattle.semantics.specs.Probes.{sheet}
use Rattle.semantics.specs.Counts.{alike, free_bits}
use Rattle.secrecy.proofs.Sums.{sum_bits, sum_same}
use Rattle.counting.specs.Counting.{combinations, showing, is_read, read_wires, pair_count, count_of, total}
use Rattle.counting.specs.Internal.Pairs.{free_of, number_of, sharing_of, tape_of, seen, shown_of}
use Rattle.counting.proofs.Free.{sum-none, arises, pairs_free}
use Rattle.counting.proofs.Numbered.{sum-numbers, combination_at, combination_length, sum_to_same}

-- a reading shows values where the read wires have them
same_byte : (a b : Bool) → eqb (byte a) (byte b) ≡ beq a b
same_byte true true = refl
same_byte true false = refl
same_byte false true = refl
same_byte false false = refl

shown_where : (r : ℕ → Bool) (vs : List Bool) (xs : List ℕ) (bs : List Bool) → length bs ≡ length (filter r xs)
    → alike eqb (map (λ x. cond (r x) (byte (at vs x)) 2) xs) (showing r xs bs) ≡ alike beq (map (at vs) (filter r xs)) bs
unfolding showing
shown_where r vs [] [] l = refl
shown_where r vs [] (b ∷ bs) l = absurd (omega arith)
shown_where r vs (x ∷ xs) bs l = cases (r x) (λ e. rw e (read bs (rw e at l) (λ cs. shown_where r vs xs cs))) (λ e. rw e (shown_where r vs xs bs (rw e at l)))
  where
    rest : List ℕ
    rest = map (λ y. cond (r y) (byte (at vs y)) 2) xs

    read : (bs : List Bool) → length bs ≡ suc (length (filter r xs))
        → ((cs : List Bool) → length cs ≡ length (filter r xs) → alike eqb rest (showing r xs cs) ≡ alike beq (map (at vs) (filter r xs)) cs)
        → (eqb (byte (at vs x)) (byte (at bs 0)) && alike eqb rest (showing r xs (drop 1 bs))) ≡ alike beq (at vs x ∷ map (at vs) (filter r xs)) bs
    read [] l h = absurd (omega arith)
    read (b ∷ bs) l h = ap₂ (λ p q. p && q) (same_byte (at vs x) b) (h bs (omega arith))

at-number : (cs : List Bool) (m n : ℕ) → length cs ≡ m → n < 2 ^ m → alike beq cs (get_or (combinations m) n []) ≡ eqb (number_of cs) n
at-number cs m n e l = rw (← e) (combination_at cs n (rw (← e) at l))

-- sums over combinations, and over two lists of bits
total-append : (xs ys : List ℕ) → total (xs ++ ys) ≡ total xs + total ys
total-append [] ys = omega arith
total-append (x ∷ xs) ys = omega (arith, total-append xs ys)

total-sum : (n : ℕ) (f : List Bool → ℕ) → total (map f (combinations n)) ≡ sum_bits n f
total-sum zero f = omega arith
total-sum (suc n) f = simp (map-append, map-map, total-append) (ap₂ ◌+◌ (total-sum n (λ bs. f (false ∷ bs))) (total-sum n (λ bs. f (true ∷ bs))))

sum_add : (n : ℕ) (f g : List Bool → ℕ) → sum_bits n (λ bs. f bs + g bs) ≡ sum_bits n f + sum_bits n g
sum_add zero f g = refl
sum_add (suc n) f g = omega (arith, sum_add n (λ bs. f (false ∷ bs)) (λ bs. g (false ∷ bs)), sum_add n (λ bs. f (true ∷ bs)) (λ bs. g (true ∷ bs)))

sum_sides : (m n : ℕ) (f : List Bool → List Bool → ℕ) → sum_bits m (λ xs. sum_bits n (f xs)) ≡ sum_bits n (λ ys. sum_bits m (λ xs. f xs ys))
sum_sides zero n f = refl
sum_sides (suc m) n f = ap₂ ◌+◌ (sum_sides m n (λ xs. f (false ∷ xs))) (sum_sides m n (λ xs. f (true ∷ xs)))
    ∙ sym (sum_add n (λ ys. sum_bits m (λ xs. f (false ∷ xs) ys)) (λ ys. sum_bits m (λ xs. f (true ∷ xs) ys)))

sum_ones : (n : ℕ) → sum_bits n (λ bs. 1) ≡ 2 ^ n
sum_ones zero = refl
sum_ones (suc n) = rw (pow-suc 2 n) (omega (arith, sum_ones n))

-- among all lists of its length, a list is once
once : (cs : List Bool) → sum_bits (length cs) (λ bs. cond (alike beq cs bs) 1 0) ≡ 1
once [] = refl
once (true ∷ cs) = omega (arith, sum-none (length cs), once cs)
once (false ∷ cs) = omega (arith, sum-none (length cs), once cs)

module _ (k : Circuit) (probes : List ℕ) (secrets : List Bool) (some : 1 ≤ k.d) (sized : length secrets ≡ k.inputs) where
  count_is : (bs : List Bool) → length bs ≡ length (read_wires k probes) → count_of k probes secrets bs ≡ sum_bits (free_bits k) (λ free. cond (alike beq (seen k probes secrets free) bs) 1 0)
  unfolding count_of read_wires sheet
  count_is bs l = pairs_free k probes (showing (is_read k probes) (range 0 wire_limit) bs) secrets some sized
      ∙ sum_same (free_bits k) (λ free. cond (arises k probes (showing (is_read k probes) (range 0 wire_limit) bs) secrets some sized free) 1 0)
      (λ free. cond (alike beq (seen k probes secrets free) bs) 1 0)
      (λ free j. ap (λ t. cond t 1 0) (shown_where (is_read k probes) (values_of k.wires (sharing_of k secrets free) (tape_of k free)) (range 0 wire_limit) bs l))

  -- as the code counts: pair by pair, at the number of the combination
  pub count_shown : (n : ℕ) → n < 2 ^ length (read_wires k probes)
      → count_of k probes secrets (get_or (combinations (length (read_wires k probes))) n []) ≡ shown_of k secrets (read_wires k probes) n
  count_shown n l =
      let m = length (read_wires k probes) in
      let bs = get_or (combinations m) n [] in
      let at_once : (free : List Bool) → length (seen k probes secrets free) ≡ m = λ free. length-map (read_wires k probes) _ in
      count_is bs (combination_length m n l) ∙ sum-numbers (free_bits k) (λ free. cond (alike beq (seen k probes secrets free) bs) 1 0)
      ∙ sum_to_same (pair_count k) (λ t. cond (alike beq (seen k probes secrets (free_of (free_bits k) t)) bs) 1 0)
      (λ t. cond (eqb (number_of (seen k probes secrets (free_of (free_bits k) t))) n) 1 0)
      (λ t h. ap (λ b. cond b 1 0) (at-number (seen k probes secrets (free_of (free_bits k) t)) m n (at_once (free_of (free_bits k) t)) l))

  -- every pair shows one combination
  pub add_up : total (map (count_of k probes secrets) (combinations (length (read_wires k probes)))) ≡ pair_count k
  add_up =
      let m = length (read_wires k probes) in
      let F = free_bits k in
      total-sum m (count_of k probes secrets)
      ∙ sum_same m (count_of k probes secrets) (λ bs. sum_bits F (λ free. cond (alike beq (seen k probes secrets free) bs) 1 0)) (λ bs l. count_is bs l)
      ∙ sum_sides m F (λ bs free. cond (alike beq (seen k probes secrets free) bs) 1 0)
      ∙ sum_same F (λ free. sum_bits m (λ bs. cond (alike beq (seen k probes secrets free) bs) 1 0)) (λ free. 1)
      (λ free l. subst (λ (n : ℕ). sum_bits n (λ bs. cond (alike beq (seen k probes secrets free) bs) 1 0) ≡ 1) (length-map (read_wires k probes) _) (once (seen k probes secrets free)))
      ∙ sum_ones F
