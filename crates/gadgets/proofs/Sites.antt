-- The number of each part of AND and of REF, in closed form.
use mathlib.Core.Path.{◌≡◌, refl, ap, ap₂, ◌∙◌}
use mathlib.Core.Bool.{true, cond}
use mathlib.Core.List.{List, [], ◌∷◌}
use Prim.Native.Nat.{ℕ, zero, suc, ◌+◌, ◌*◌, ◌-◌, ◌≤◌, ◌<◌}
use native.Mathlib.Nat.{add-zero, add-suc}
use native.Mathlib.Omega.{arith}
use lib.Dec.{ltb}
use borrow.Author.Tests.{lt-ltb, le-ltb, ltb-true, ltb-false}
use Rattle.circuit.specs.Lists.{range, concat_map}
use Rattle.circuit.specs.Gadgets.{Part, r, R, B, m, M, u, U, v, V', w, W, c, s, S, labels, above, others, sorted, in_and, in_ref, index}
use Rattle.circuit.specs.Kinds.{pairs}
use Rattle.circuit.proofs.Base.{cases, ltb_other, concat_map-append}
use Rattle.circuit.proofs.Numbered.{at_all}
use Rattle.circuit.proofs.Parts.{index_at, Pair, other, InAND, is_r, is_R, and_has, InREF, fresh, ref_has, cell1, cell2, cell3}
use Rattle.circuit.proofs.Sizes.{pairs_twice, labels-map}
use Rattle.gadgets.specs.Internal.Places.{row_start, pair_site, slot_of, cross_start}
use Rattle.gadgets.proofs.Ranges.{above-is, others-is, Lies, lies_at, lies_append, lies_each}

-- the first pair of the next row, and the number of all pairs
pub row_next : (d i : ℕ) → i < d → row_start d i + (d - suc i) ≡ row_start d (suc i)
row_next d i l =
    let p : 2 * d - i - 1 ≡ i + 1 + 2 * (d - suc i) = omega arith in
    let q : 2 * d - suc i - 1 ≡ i + 2 * (d - suc i) = omega arith in
    rw (p, q) (omega arith)

pub row_last : (d : ℕ) → row_start d d ≡ pairs d
row_last d = let e : 2 * d - d - 1 ≡ d - 1 = omega arith in rw e

-- twice the pairs before a row
pub row_twice : (d i : ℕ) → i ≤ d → 2 * row_start d i ≡ i * (2 * d - i - 1)
row_twice d zero h = omega arith
row_twice d (suc i) h =
    let k = d - suc i in
    let before : 2 * row_start d i ≡ i * (i + 1 + 2 * k) = row_twice d i (omega arith) ∙ ap (λ n. i * n) (omega arith) in
    let there : suc i * (2 * d - suc i - 1) ≡ suc i * (i + 2 * k) = ap (λ n. suc i * n) (omega arith) in
    omega (arith, before, there, row_next d i h)

row-most : (d i k : ℕ) → i + k ≤ d → row_start d i ≤ row_start d (i + k)
row-most d i zero h = simp add-zero (omega arith)
row-most d i (suc k) h = simp add-suc (omega (arith, row_next d (i + k) (omega arith), row-most d i k (omega arith)))

pub row-few : (d i : ℕ) → i ≤ d → row_start d i ≤ pairs d
row-few d i h = let e : i + (d - i) ≡ d = omega arith in rw (e, row_last d) at (row-most d i (d - i) (omega arith))

-- the pairs before a row, and those from it on, are all
pub row-rest : (d i : ℕ) → i < d → row_start d i + pairs (d - i) ≡ pairs d
row-rest d i h =
    let m = d - suc i in
    let d_is : d ≡ i + suc m = omega arith in
    let before : 2 * row_start d i ≡ i * (i + 1 + 2 * m) = row_twice d i (omega arith) ∙ ap (λ n. i * n) (omega arith) in
    let rest : d - i ≡ suc m = omega arith in
    let later : pairs (d - i) * 2 ≡ suc m * m = ap (λ n. pairs n * 2) rest ∙ pairs_twice (suc m) ∙ ap (λ n. suc m * n) (omega arith) in
    let all : pairs d * 2 ≡ (i + suc m) * (i + m) = pairs_twice d ∙ ap₂ ◌*◌ d_is (omega arith) in
    omega (arith, before, later, all)

-- the place of a pair is one of all pairs
pub pair_lt : (d i j : ℕ) → i < d → j < d → (j ≡ i → ⊥) → pair_site d i j < pairs d
pair_lt d i j l k ne = cases (ltb i j)
    (λ e. rw e (low i j l k (ltb-true i j e)))
    (λ e. let h : j < i = omega (arith, ltb-false i j e, ne) in rw (e, lt-ltb j i h) (low j i k l h))
  where
    low : (i j : ℕ) → i < d → j < d → i < j → row_start d i + (j - i - 1) < pairs d
    low i j l k h =
        let e : suc i + (d - suc i) ≡ d = omega arith in
        omega (arith, rw (e, row_last d, ← row_next d i l) at (row-most d (suc i) (d - suc i) (omega arith)))

-- the parts of AND, whose pairs have two parts, and of REF, whose pairs have one
abbrev pub site : (two d : ℕ) → Part → ℕ
site two d (r i j) = two * (row_start d i + (j - i - 1))
site two d (R i j) = two * (row_start d i + (j - i - 1)) + 1
site two d (B i) = d * (d - 1) + 3 * i
site two d (m i) = d * (d - 1) + 3 * i + 1
site two d (M i) = d * (d - 1) + 3 * i + 2
site two d (u i j) = cross_start d i + 6 * slot_of i j
site two d (U i j) = cross_start d i + 6 * slot_of i j + 1
site two d (v i j) = cross_start d i + 6 * slot_of i j + 2
site two d (V' i j) = cross_start d i + 6 * slot_of i j + 3
site two d (w i j) = cross_start d i + 6 * slot_of i j + 4
site two d (W i j) = cross_start d i + 6 * slot_of i j + 5
site two d (c i) = 0
site two d (s i) = pairs d + i
site two d (S i) = 0

module _ (d : ℕ) where
  -- a cell for each pair, of so many parts
  module _ (size : ℕ) (Q : ℕ → Part → Type 0) (cell : ℕ → ℕ → List Part)
      (lies : (i j : ℕ) → Lies Q (size * (row_start d i + (j - i - 1))) (cell i j) (size * (row_start d i + suc (j - i - 1)))) where
    row_lies : (i : ℕ) → i < d → Lies Q (size * row_start d i) (concat_map (above d i) (cell i)) (size * row_start d (suc i))
    row_lies i l = rw (above-is d i l, ← row_next d i l) (lies_at Q (ap (λ n. size * n) (omega arith)) (ap (λ n. size * (row_start d i + n)) (omega arith))
        (lies_each Q (cell i) (λ j. size * (row_start d i + (j - i - 1))) (suc i) (d - suc i) (λ j k z. lies_at Q refl (ap (λ n. size * (row_start d i + n)) (omega arith)) (lies i j))))

    pairs_lie : Lies Q 0 (concat_map (labels d) (λ i. concat_map (above d i) (cell i))) (size * pairs d)
    pairs_lie = let none : row_start d 0 ≡ 0 = omega arith in lies_at Q (rw none (omega arith)) (ap (λ n. size * n) (ap (row_start d) (omega arith) ∙ row_last d))
        (lies_each Q (λ i. concat_map (above d i) (cell i)) (λ i. size * row_start d i) 0 d (λ i k z. row_lies i (omega arith)))

  abbrev At : ℕ → Part → Type 0
  At x p = x ≡ site 2 d p

  row3 : (i : ℕ) → i < d → Lies At (cross_start d i) (concat_map (others d i) (cell3 i)) (cross_start d (suc i))
  row3 i l = rw (others-is d i l, concat_map-append (range 0 i) (range (suc i) (d - suc i)) (cell3 i)) (lies_append At {m = cross_start d i + 6 * i}
      (lies_at At (omega arith) (omega arith) (lies_each At (cell3 i) (λ j. cross_start d i + 6 * j) 0 i (λ j k z. six j j (ap (λ b. cond b (j - 1) j) (le-ltb i j (omega arith))))))
      (lies_at At (omega arith) (omega arith) (lies_each At (cell3 i) (λ j. cross_start d i + 6 * (j - 1)) (suc i) (d - suc i)
      (λ j k z. lies_at At refl (omega arith) (six j (j - 1) (ap (λ b. cond b (j - 1) j) (lt-ltb i j (omega arith))))))))
    where
      six : (j n : ℕ) → slot_of i j ≡ n → Lies At (cross_start d i + 6 * n) (cell3 i j) (cross_start d i + 6 * suc n)
      six j n e = omega (arith, e)

  -- every part of AND stands at its site
  sites : Lies At 0 (in_and d) (cross_start d d)
  unfolding in_and
  sites = lies_append At
      (lies_append At (pairs_lie 2 At cell1 (λ i j. omega arith))
      (lies_at At (omega (arith, pairs_twice d)) refl (lies_each At cell2 (λ i. d * (d - 1) + 3 * i) 0 d (λ i k z. omega arith))))
      (lies_at At (omega arith) (omega arith) (lies_each At (λ i. concat_map (others d i) (cell3 i)) (cross_start d) 0 d (λ i k z. row3 i (omega arith))))

  pub and_site_lem : {p : Part} → InAND d p → index p (in_and d) ≡ site 2 d p
  and_site_lem {p} o = omega (arith, index_at At 0 (in_and d) p (and_has d o) sites.all)

  -- the parts of two shares, the lower of which stands first
  sorted_site : (p : ℕ → ℕ → Part) (inside : List Part) (at : ℕ → ℕ) → ((i j : ℕ) → Pair d i j → ltb i j ≡ true → index (p i j) inside ≡ at (row_start d i + (j - i - 1)))
      → (i j : ℕ) → Pair d i j → index (sorted p i j) inside ≡ at (pair_site d i j)
  sorted_site p inside at f i j o = cases (ltb i j) (λ e. rw e (f i j o e)) (λ e. let k = ltb_other i j o.apart e in rw (e, k) (f j i (other o) k))

  pub r_site : (i j : ℕ) → Pair d i j → index (sorted r i j) (in_and d) ≡ 2 * pair_site d i j
  r_site = sorted_site r (in_and d) (λ n. 2 * n) (λ i j o e. and_site_lem (is_r i j o e))

  pub R_site : (i j : ℕ) → Pair d i j → index (sorted R i j) (in_and d) ≡ 2 * pair_site d i j + 1
  R_site = sorted_site R (in_and d) (λ n. 2 * n + 1) (λ i j o e. and_site_lem (is_R i j o e))

  -- REF
  abbrev In : ℕ → Part → Type 0
  In x p = x ≡ site 1 d p

  ref_sites : Lies In 0 (in_ref d) (pairs d + d)
  unfolding in_ref
  ref_sites = lies_append In (pairs_lie 1 In (λ i j. r i j ∷ []) (λ i j. omega arith))
      (record { all = at_all In s (1 * pairs d) 0 d (λ i l. omega arith); ends = omega (arith, labels-map d s) })

  pub ref_site_lem : {p : Part} → InREF d p → index p (in_ref d) ≡ site 1 d p
  ref_site_lem {p} o = omega (arith, index_at In 0 (in_ref d) p (ref_has d o) ref_sites.all)

  pub fresh_site : (i j : ℕ) → Pair d i j → index (sorted r i j) (in_ref d) ≡ pair_site d i j
  fresh_site = sorted_site r (in_ref d) (λ n. n) (λ i j o e. omega (arith, ref_site_lem (fresh i j o e)))
