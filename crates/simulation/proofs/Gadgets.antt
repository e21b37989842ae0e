-- AND and REF filled in, part behind part.
use mathlib.Core.Path.{◌≡◌, refl, sym, ap, subst, ◌∙◌}
use mathlib.Core.List.{List}
use Prim.Native.Nat.{ℕ, ◌+◌, ◌-◌, ◌*◌, ◌≤◌, ◌<◌}
use lib.Bits.{bit_xor}
use native.Mathlib.Omega.{arith}
use lib.ListN.{length, take, set}
use lib.Seq.{get_or-take}
use Rattle.circuit.specs.Lists.{nth}
use Rattle.circuit.specs.Gadgets.{others}
use Rattle.circuit.specs.Kinds.{pairs}
use Rattle.circuit.proofs.Sizes.{pairs_twice}
use Rattle.gadgets.specs.Internal.Places.{word_a, cross_start, product_at, out_at, mask_at, sum_at, held_at}
use Rattle.gadgets.proofs.Slots.{mask_lt}
use Rattle.simulation.specs.Internal.Filling.{Values, word_sum, Known, Fills, Copied, Drawn, ShareProducts, Multiplied, AndValues, Masked, DrawnMasked, Held, RefValues}
use Rattle.simulation.specs.Internal.Gadgets.{Sums}
use Rattle.simulation.proofs.Adding.{rest, rest_start, rest_itself, rest_turn, rest_end}
use Rattle.simulation.proofs.Filled.{known-all, fills-next, fills_for, fills-at, fills-set}

pub and-filled : (d first : ℕ) (a b : ℕ → ℕ) (tape : List ℕ) (used : ℕ) {old one two three : List ℕ} (count : ℕ) → count ≡ pairs d
    → Fills (Drawn tape used first count) first (first + 2 * count) old one → Fills (ShareProducts d first a b) (product_at d first 0) (product_at d first d) one two
    → Fills (Multiplied 1 d first a) (first + cross_start d 0) (out_at d first d) two three
    → Fills (AndValues 1 d first a b tape used) first (first + (7 * (d * (d - 1)) + 4 * d)) old three
and-filled d first a b tape used count e draws products outs =
    fills-next (omega arith) (omega arith) (λ v q k. q.multiplied)
    (fills-next (omega (arith, e, pairs_twice d)) (omega arith) (λ v q k. q.products)
    (fills_for (λ v q. subst (λ (n : ℕ). Drawn tape used first n v) (sym e) q.drawn) (fills-at refl (omega (arith, e, pairs_twice d)) draws)) products)
    (fills-at (omega arith) (omega arith) outs)

-- REF's random bits of the share i and each other below j are added to a word
pub record MasksOn (d first i word : ℕ) (values : List ℕ) (sum j : ℕ) : Type 0 where
  pub adds : (v : Values) → Known v 0 (first + pairs d) values → let f : Values = λ k. v (mask_at d first i k) in
      bit_xor word (word_sum (others d i) f) ≡ bit_xor sum (word_sum (rest d i j) f)

pub masks_start : {d first i word : ℕ} {values : List ℕ} → MasksOn d first i word values word 0
masks_start {d} {first} {i} {word} = record { adds = λ v k. rest_start word (λ m. v (mask_at d first i m)) d i refl }

module _ {d first i word : ℕ} {values : List ℕ} {sum j : ℕ} (on : MasksOn d first i word values sum j) where
  pub masks_at : {k : ℕ} → j ≡ k → MasksOn d first i word values sum k
  masks_at e = subst (λ (n : ℕ). MasksOn d first i word values sum n) e on

  pub masks_itself : i < d → j ≡ i → MasksOn d first i word values sum (j + 1)
  masks_itself l e = record { adds = λ v known. rest_itself sum (λ m. v (mask_at d first i m)) d i j (on.adds v known) (omega arith) e }

  pub masks_turn : i < d → j < d → (j ≡ i → ⊥) → (p : ℕ) → p ≡ mask_at d first i j → MasksOn d first i word values (bit_xor sum (nth values p)) (j + 1)
  masks_turn l k ne p e = record {
    adds = λ v known. rw (e, known (mask_at d first i j) (omega arith) (mask_lt d first i j l k ne)) (rest_turn sum (λ m. v (mask_at d first i m)) d i j (on.adds v known) k ne);
  }

  pub masks_end : d ≤ j → Sums d first i word values sum
  masks_end h = record { is = λ v k. rest_end sum (λ m. v (mask_at d first i m)) d i j (on.adds v k) h }

-- one sum of REF
module _ {d first : ℕ} {a : ℕ → ℕ} {old mid : List ℕ} {i : ℕ} (f : Fills (Masked d first a) (sum_at d first 0) (sum_at d first i) old mid)
    (l : i < d) (room : sum_at d first i < length old) (early : a i < first) (x p : ℕ) (x_is : x ≡ a i) (p-is : p ≡ sum_at d first i) {s : ℕ} (r : Sums d first i (nth mid x) mid s) where
  sum_is : (v : Values) → Masked d first a v → Known v 0 (sum_at d first 0) old → s ≡ v (sum_at d first i)
  sum_is v e k =
      let known : Known v 0 (first + pairs d) mid = λ x p u. known-all f v e k x p (omega arith) in
      r.is v known ∙ ap (λ z. bit_xor z (word_sum (others d i) (λ j. v (mask_at d first i j)))) (ap (nth mid) x_is ∙ known (a i) (omega arith) (omega arith)) ∙ sym (e i l)

  pub masked_turn : Fills (Masked d first a) (sum_at d first 0) (sum_at d first (i + 1)) old (set mid p s)
  masked_turn = rw p-is (fills-set s (omega arith) sum_is f)

-- one output of REF; where the code finds the sum
pub held_turn : (d first : ℕ) {old mid : List ℕ} (i : ℕ) → Fills (Held d first) (held_at d first 0) (held_at d first i) old mid → i < d → held_at d first i < length old
    → (p : ℕ) → p ≡ sum_at d first i → Fills (Held d first) (held_at d first 0) (held_at d first (i + 1)) old (set mid (p + d) (nth mid p))
held_turn d first i f l room p p-is =
    let here : held_at d first i ≡ sum_at d first i + d = omega arith in
    rw p-is (fills-set _ (omega arith) (λ v e k. rw (← here, e i l) (known-all f v e k (sum_at d first i) (omega arith) (omega arith))) (fills-at refl here f))

-- REF's random bits and sums
pub mask_filled : (d first : ℕ) (a : ℕ → ℕ) (tape : List ℕ) (used : ℕ) {old one two : List ℕ} (count : ℕ) → count ≡ pairs d
    → Fills (Copied tape used first count) first (first + count) old one → Fills (Masked d first a) (sum_at d first 0) (sum_at d first d) one two
    → Fills (DrawnMasked d first a tape used) first (sum_at d first d) old two
mask_filled d first a tape used count e draws sums =
    fills-next (omega arith) (omega arith) (λ v q k. q.masked)
    (fills_for (λ v q. subst (λ (n : ℕ). Copied tape used first n v) (sym e) q.drawn) (fills-at refl (omega (arith, e)) draws)) sums

-- the words that they take are the first d behind the kind's first
pub row_word : (d : ℕ) (ops : List ℕ) (i : ℕ) → i < d → word_a (take (1 + d) ops) i ≡ word_a ops i
row_word d ops i l = get_or-take (1 + d) ops (1 + i) 0 (omega arith)

pub row_masks : (d first : ℕ) (ops tape : List ℕ) (used : ℕ) {old new : List ℕ} {from to : ℕ}
    → Fills (DrawnMasked d first (word_a (take (1 + d) ops)) tape used) from to old new → Fills (DrawnMasked d first (word_a ops) tape used) from to old new
row_masks d first ops tape used = fills_for (λ v q. record { drawn = q.drawn; masked = λ i l. rw (row_word d ops i l) (q.masked i l) })

pub ref_filled : (d first : ℕ) (a : ℕ → ℕ) (tape : List ℕ) (used : ℕ) {old one two : List ℕ} → Fills (DrawnMasked d first a tape used) first (sum_at d first d) old one
    → Fills (Held d first) (held_at d first 0) (held_at d first d) one two → Fills (RefValues d first a tape used) first (first + (pairs d + 2 * d)) old two
ref_filled d first a tape used masks holds =
    fills-next (omega arith) (omega arith) (λ v q k. q.held)
    (fills_for (λ v q. record { drawn = q.drawn; masked = q.masked }) (fills-at refl (omega arith) masks)) (fills-at refl (omega arith) holds)
