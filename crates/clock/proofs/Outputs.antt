-- The wires of AND behind B, m and M on a clock, share by share: a row, then its output, which stands behind all rows.
use mathlib.Core.Path.{◌≡◌, refl, sym, ap, ◌∙◌}
use mathlib.Core.List.{List, map}
use Prim.Native.Nat.{ℕ, ◌+◌, ◌-◌, ◌≤◌, ◌<◌}
use native.Mathlib.Omega.{arith}
use lib.Bits.{bit_xor}
use lib.ListN.{length, set, length-set}
use Rattle.circuit.specs.Lists.{nth, range}
use Rattle.circuit.specs.Gadgets.{others}
use Rattle.semantics.specs.Clock.{is_register}
use Rattle.gadgets.specs.Internal.Places.{cross_start, product_at, cross_at, out_at}
use Rattle.gadgets.proofs.Stored.{nth-set}
use Rattle.gadgets.proofs.Slots.{product-early, row_room, RowEnds, row_ends}
use Rattle.simulation.specs.Internal.Filling.{word_sum}
use Rattle.simulation.proofs.Adding.{word_sum-append, word_sum-map, word_sum-xor, add_others}
use Rattle.clock.specs.Internal.Running.{Clock, Upto, Runs}
use Rattle.clock.specs.Internal.Parts.{CrossesRow, Rows}
use Rattle.clock.proofs.Wires.{met, past, ahead, upto_at}
use Rattle.clock.proofs.Rows.{added}

-- the rows of the shares below i, and their outputs
pub record RowsOn (d first : ℕ) (a b : ℕ → ℕ) (values₀ bank₀ values bank : List ℕ) (i : ℕ) : Type 0 where
  pub most : i ≤ d
  pub on : (k : Clock) → Rows d first a b k → Upto k (first + cross_start d 0) values₀ bank₀
      → Upto k (first + cross_start d i) values bank × ((j : ℕ) → j < i → nth values (out_at d first j) ≡ k.shows (out_at d first j))
  pub sized : length values ≡ length values₀
  pub held_sized : length bank ≡ length bank₀

pub rows_end : {d first : ℕ} {a b : ℕ → ℕ} {values₀ bank₀ values bank : List ℕ} {i : ℕ} → d ≤ i → RowsOn d first a b values₀ bank₀ values bank i
    → Runs (Rows d first a b) (first + cross_start d 0) (out_at d first d) values₀ bank₀ values bank
rows_end {d} {first} {values = values} {i = i} h rows = record {
  on = λ k g u.
      let (now, outs) = rows.on k g u in
      let all : i ≡ d = omega (arith, rows.most) in
      past (upto_at (ap (λ n. first + cross_start d n) all) now) (out_at d first d) (omega arith) (λ x l m.
      let j = x - (first + cross_start d d) in
      let here : x ≡ out_at d first j = omega arith in
      (ap (λ y. is_register (k.gate y)) here ∙ ap is_register (g.2 j (omega arith)), ap (nth values) here ∙ outs j (omega arith) ∙ ap k.shows (sym here)));
  sized = rows.sized;
  held_sized = rows.held_sized;
}

-- what an output shows, from what M, U and W show
out-shows : (d first i : ℕ) (a b : ℕ → ℕ) (k : Clock) → Rows d first a b k → i < d
    → bit_xor (k.shows (product_at d first i + 2)) (word_sum (others d i) (added d first i k)) ≡ k.shows (out_at d first i)
out-shows d first i a b k g l =
    let us = map (λ j. cross_at d first i j + 1) (others d i) in
    let vs = map (λ j. cross_at d first i j + 5) (others d i) in
    sym (met k (out_at d first i) (omega (arith, g.0)) (g.2 i l) refl
    ∙ ap (bit_xor (k.shows (product_at d first i + 2))) (word_sum-append k.shows us vs ∙ rw (word_sum-map, word_sum-map, ← word_sum-xor) refl))

module _ {d first : ℕ} {a b : ℕ → ℕ} {values₀ bank₀ values bank : List ℕ} {i : ℕ} (rows : RowsOn d first a b values₀ bank₀ values bank i) (l : i < d)
    (early : a i < first) (room : out_at d first d ≤ length values)
    {one one_bank two two_bank : List ℕ} {s t : ℕ} (r : CrossesRow d first i b (nth values (a i)) (nth values (product_at d first i + 2)) 0 i values bank one one_bank s)
    (q : CrossesRow d first i b (nth values (a i)) s (i + 1) d one one_bank two two_bank t) (same : length two ≡ length values) (held_same : length two_bank ≡ length bank) where
  ends : RowEnds d first i
  ends = row_ends d first i l

  module _ (k : Clock) (g : Rows d first a b k) (u : Upto k (first + cross_start d 0) values₀ bank₀) where
    now : Upto k (first + cross_start d i) values bank
    now = (rows.on k g u).0

    a_is : nth values (a i) ≡ k.shows (a i)
    a_is = now.below (a i) (omega arith)

    m_is : nth values (product_at d first i + 2) ≡ k.shows (product_at d first i + 2)
    m_is = now.below (product_at d first i + 2) (product-early d first i i l)

    lower : Upto k (cross_at d first i i) one one_bank × (s ≡ bit_xor (nth values (product_at d first i + 2)) (word_sum (range 0 (i - 0)) (added d first i k)))
    lower = r.on k a g.0 (g.1 i l) a_is (upto_at (sym ends.first_is) now)

    upper : Upto k (cross_at d first i d) two two_bank × (t ≡ bit_xor s (word_sum (range (i + 1) (d - (i + 1))) (added d first i k)))
    upper = q.on k a g.0 (g.1 i l) a_is (upto_at (sym ends.mid) lower.0)

    out-is : t ≡ k.shows (out_at d first i)
    out-is =
        let f = added d first i k in
        upper.1 ∙ ap (λ z. bit_xor z (word_sum (range (i + 1) (d - (i + 1))) f)) lower.1 ∙ add_others f (nth values (product_at d first i + 2)) d i l
        ∙ ap (λ z. bit_xor z (word_sum (others d i) f)) m_is ∙ out-shows d first i a b k g l

    behind : Upto k (first + cross_start d (i + 1)) (set two (out_at d first i) t) two_bank
    behind = ahead (upto_at ends.last upper.0) (out_at d first i) t (omega (arith, row_room d first i l)) (omega (arith, g.0)) (ap is_register (g.2 i l))

    outs : (j : ℕ) → j < i + 1 → nth (set two (out_at d first i) t) (out_at d first j) ≡ k.shows (out_at d first j)
    outs j h = nth-set two (out_at d first i) t (out_at d first j) (omega arith)
        (λ e z. z ∙ out-is ∙ ap k.shows (sym e))
        (λ ne z. let low : j < i = omega arith in
        z ∙ q.above (out_at d first j) (omega (arith, ends.last, row_room d first i l)) ∙ r.above (out_at d first j) (omega (arith, ends.within, row_room d first i l)) ∙ (rows.on k g u).1 j low)

  turned : RowsOn d first a b values₀ bank₀ (set two (out_at d first i) t) two_bank (i + 1)
  turned = record {
    most = omega arith;
    on = λ k g u. (behind k g u, outs k g u);
    sized = length-set two (out_at d first i) t ∙ same ∙ rows.sized;
    held_sized = held_same ∙ rows.held_sized;
  }

-- where the code finds a, M and the output
pub rows_turn : {d first : ℕ} {a b : ℕ → ℕ} {values₀ bank₀ values bank : List ℕ} {i : ℕ} → RowsOn d first a b values₀ bank₀ values bank i → i < d → a i < first → out_at d first d ≤ length values
    → (x o p : ℕ) → x ≡ a i → o ≡ product_at d first i + 2 → p ≡ out_at d first i → {one one_bank two two_bank : List ℕ} {s t : ℕ}
    → CrossesRow d first i b (nth values x) (nth values o) 0 i values bank one one_bank s → CrossesRow d first i b (nth values x) s (i + 1) d one one_bank two two_bank t
    → length two ≡ length values → length two_bank ≡ length bank → RowsOn d first a b values₀ bank₀ (set two p t) two_bank (i + 1)
rows_turn rows l early room x o p x_is o_is p-is r q same held_same = rw p-is (turned rows l early room (rw (x_is, o_is) at r) (rw x_is at q) same held_same)
