-- A sharing of given secret bits is free in all but the last share of each IN; so the pairs of demand 3 are the lists of free bits.
use mathlib.Core.Path.{◌≡◌, refl, sym, ap, ap₂, ◌∙◌}
use mathlib.Core.Bool.{Bool, true, false, cond, ◌&&◌, beq}
use mathlib.Core.List.{List, [], ◌∷◌, ◌++◌, append-nil, append_assoc}
use Prim.Native.Nat.{ℕ, zero, suc, ◌+◌, ◌-◌, ◌*◌, ◌≤◌}
use native.Mathlib.Omega.{arith}
use lib.Dec.{eqb}
use lib.ListN.{length, drop, length-drop}
use lib.Seq.{take_at, drop_at, take-append-le, drop-append-le}
use Rattle.circuit.specs.Lists.{◌⊕◌}
use Rattle.circuit.specs.Circuit.{Circuit}
use Rattle.circuit.proofs.Base.{xor_comm, xor_assoc}
use Rattle.semantics.specs.Values.{values_of}
use Rattle.semantics.specs.Probes.{stops, sheet, reading_of}
use Rattle.semantics.specs.Counts.{alike, parity, secrets_of, pairs_for, free_bits}
use Rattle.secrecy.specs.Deciding.{tapes_for}
use Rattle.secrecy.proofs.Sums.{sum_bits, overwrite-bits, sum_same}
use Rattle.secrecy.proofs.Sharings.{of_sharing, by_sharing}
use Rattle.counting.specs.Internal.Pairs.{completed, sharing_of, tape_of}

-- a sum over lists in two parts
sum-append : (m n t : ℕ) (f : List Bool → ℕ) → t ≡ m + n → sum_bits t f ≡ sum_bits m (λ xs. sum_bits n (λ ys. f (xs ++ ys)))
sum-append zero n t f e = let z : t ≡ n = omega (arith, e) in rw z
sum-append (suc m) n t f e =
    let z : t ≡ suc (m + n) = omega (arith, e) in
    rw z (ap₂ ◌+◌ (sum-append m n (m + n) (λ bs. f (false ∷ bs)) refl) (sum-append m n (m + n) (λ bs. f (true ∷ bs)) refl))

pub sum-none : (n : ℕ) → sum_bits n (λ bs. 0) ≡ 0
sum-none zero = refl
sum-none (suc n) = omega (arith, sum-none n)

sum_if : (b : Bool) (n : ℕ) (f : List Bool → ℕ) → sum_bits n (λ bs. cond b (f bs) 0) ≡ cond b (sum_bits n f) 0
sum_if true n f = refl
sum_if false n f = sum-none n

both_if : (a b : Bool) (n : ℕ) → cond (a && b) n 0 ≡ cond a (cond b n 0) 0
both_if true b n = refl
both_if false b n = refl

-- d shares that add up to a bit: the last completes the others
moved : (b p z : Bool) → beq (b ⊕ p) z ≡ beq p (b ⊕ z)
moved true true true = refl
moved true true false = refl
moved true false true = refl
moved true false false = refl
moved false p z = refl

last_moved : (b p z : Bool) → ((b ⊕ z) ⊕ p) ≡ (z ⊕ (b ⊕ p))
last_moved b p z = ap (λ y. y ⊕ p) (xor_comm b z) ∙ xor_assoc z b p

complete_one : (e : ℕ) (z : Bool) (f : List Bool → ℕ)
    → sum_bits (suc e) (λ xs. cond (beq (parity xs) z) (f xs) 0) ≡ sum_bits e (λ xs. f (xs ++ (z ⊕ parity xs) ∷ []))
complete_one zero true f = omega arith
complete_one zero false f = omega arith
complete_one (suc e) z f = ap₂ ◌+◌ (part false (complete_one e (false ⊕ z) (λ xs. f (false ∷ xs)))) (part true (complete_one e (true ⊕ z) (λ xs. f (true ∷ xs))))
  where
    part : (b : Bool) → sum_bits (suc e) (λ xs. cond (beq (parity xs) (b ⊕ z)) (f (b ∷ xs)) 0) ≡ sum_bits e (λ xs. f (b ∷ xs ++ ((b ⊕ z) ⊕ parity xs) ∷ []))
        → sum_bits (suc e) (λ xs. cond (beq (b ⊕ parity xs) z) (f (b ∷ xs)) 0) ≡ sum_bits e (λ xs. f (b ∷ xs ++ (z ⊕ (b ⊕ parity xs)) ∷ []))
    part b ih =
        sum_same (suc e) (λ xs. cond (beq (b ⊕ parity xs) z) (f (b ∷ xs)) 0) (λ xs. cond (beq (parity xs) (b ⊕ z)) (f (b ∷ xs)) 0)
        (λ xs l. ap (λ y. cond y (f (b ∷ xs)) 0) (moved b (parity xs) z))
        ∙ ih
        ∙ sum_same e (λ xs. f (b ∷ xs ++ ((b ⊕ z) ⊕ parity xs) ∷ [])) (λ xs. f (b ∷ xs ++ (z ⊕ (b ⊕ parity xs)) ∷ []))
        (λ xs l. ap (λ y. f (b ∷ xs ++ y ∷ [])) (last_moved b (parity xs) z))

-- the same for every IN, d being one more than n
complete_all : (n : ℕ) (zs : List Bool) (f : List Bool → ℕ)
    → sum_bits (length zs * suc n) (λ xs. cond (alike beq (secrets_of (suc n) (length zs) xs) zs) (f xs) 0) ≡ sum_bits (n * length zs) (λ xs. f (completed n zs xs))
unfolding completed
complete_all n [] f =
    let a : 0 * suc n ≡ 0 = omega arith in
    let b : n * 0 ≡ 0 = omega arith in
    rw (a, b)
complete_all n (z ∷ zs) f =
    let m = length zs in
    let right : List Bool → Bool = λ ys. alike beq (secrets_of (suc n) m ys) zs in
    let rest : List Bool → ℕ = λ xs. sum_bits (n * m) (λ ys. f (xs ++ completed n zs ys)) in
    sum-append (suc n) (m * suc n) (suc m * suc n) (λ xs. cond (alike beq (secrets_of (suc n) (suc m) xs) (z ∷ zs)) (f xs) 0) (omega arith)
    ∙ sum_same (suc n) (λ xs. sum_bits (m * suc n) (λ ys. cond (alike beq (secrets_of (suc n) (suc m) (xs ++ ys)) (z ∷ zs)) (f (xs ++ ys)) 0)) (λ xs. cond (beq (parity xs) z) (rest xs) 0)
    (λ xs l. sum_same (m * suc n) (λ ys. cond (alike beq (secrets_of (suc n) (suc m) (xs ++ ys)) (z ∷ zs)) (f (xs ++ ys)) 0) (λ ys. cond (beq (parity xs) z) (cond (right ys) (f (xs ++ ys)) 0) 0)
    (λ ys j. rw (take_at xs ys (suc n) l, drop_at xs ys (suc n) l) (both_if (beq (parity xs) z) (right ys) (f (xs ++ ys))))
    ∙ sum_if (beq (parity xs) z) (m * suc n) (λ ys. cond (right ys) (f (xs ++ ys)) 0)
    ∙ ap (λ t. cond (beq (parity xs) z) t 0) (complete_all n zs (λ ys. f (xs ++ ys))))
    ∙ complete_one n z rest
    ∙ sym (sum-append n (n * m) (n * suc m) (λ xs. f (completed n (z ∷ zs) xs)) (omega arith)
    ∙ sum_same n (λ xs. sum_bits (n * m) (λ ys. f (completed n (z ∷ zs) (xs ++ ys)))) (λ xs. rest (xs ++ (z ⊕ parity xs) ∷ []))
    (λ xs l. sum_same (n * m) (λ ys. f (completed n (z ∷ zs) (xs ++ ys))) (λ ys. f (xs ++ (z ⊕ parity xs) ∷ [] ++ completed n zs ys))
    (λ ys j. rw (take_at xs ys n l, drop_at xs ys n l) (ap f (sym (append_assoc xs ((z ⊕ parity xs) ∷ []) (completed n zs ys)))))))

-- the free bits behind those of the shares are the tape
completed-append : (n : ℕ) (zs xs ys : List Bool) → length xs ≡ n * length zs → completed n zs (xs ++ ys) ≡ completed n zs xs
unfolding completed
completed-append n [] xs ys l = refl
completed-append n (z ∷ zs) xs ys l =
    let long : n ≤ length xs = omega arith in
    rw (take-append-le n xs ys long, drop-append-le n xs ys long, completed-append n zs (drop n xs) ys (length-drop n xs ∙ omega arith))

pairs_by : (d n r : ℕ) (zs : List Bool) (f : List Bool → List Bool → ℕ) → d ≡ suc n
    → sum_bits (length zs * d) (λ xs. cond (alike beq (secrets_of d (length zs) xs) zs) (sum_bits r (f xs)) 0)
    ≡ sum_bits (n * length zs + r) (λ free. f (completed n zs free) (drop (n * length zs) free))
pairs_by d n r zs f e = rw e (complete_all n zs (λ xs. sum_bits r (f xs)) ∙ sym (sum-append m r (m + r) (λ free. f (completed n zs free) (drop m free)) refl
    ∙ sum_same m (λ xs. sum_bits r (λ ys. f (completed n zs (xs ++ ys)) (drop m (xs ++ ys)))) (λ xs. sum_bits r (f (completed n zs xs)))
    (λ xs l. sum_same r (λ ys. f (completed n zs (xs ++ ys)) (drop m (xs ++ ys))) (f (completed n zs xs)) (λ ys j. rw (completed-append n zs xs ys l, drop_at xs ys m l)))))
  where
    m : ℕ
    m = n * length zs

module _ (k : Circuit) (probes reading : List ℕ) (secrets : List Bool) (some : 1 ≤ k.d) (sized : length secrets ≡ k.inputs) where
  -- whether the reading arises from the pair of these free bits
  abbrev pub arises : List Bool → Bool
  arises free = alike eqb (reading_of k.wires probes (sharing_of k secrets free) (tape_of k free)) reading

  pub pairs_free : pairs_for k probes secrets reading ≡ sum_bits (free_bits k) (λ free. cond (arises free) 1 0)
  unfolding tapes_for
  pairs_free =
      let reads : List Bool → List Bool → ℕ = λ xs ys. cond (alike eqb (reading_of k.wires probes xs ys) reading) 1 0 in
      let right : List Bool → Bool = λ xs. alike beq (secrets_of k.d k.inputs xs) secrets in
      by_sharing k probes reading secrets
      ∙ sum_same (k.inputs * k.d) (of_sharing k probes reading secrets) (λ xs. cond (right xs) (sum_bits k.randoms (reads xs)) 0)
      (λ xs l. ap (λ t. cond (right xs) t 0) (overwrite-bits k.randoms (λ ys. cond (alike eqb (sheet (stops k.wires probes ++ []) (values_of k.wires xs ys)) reading) 1 0)
      ∙ ap (λ read. sum_bits k.randoms (λ ys. cond (alike eqb (sheet read (values_of k.wires xs ys)) reading) 1 0)) (append-nil (stops k.wires probes))))
      ∙ rw (← sized) (pairs_by k.d (k.d - 1) k.randoms secrets reads (omega arith))
