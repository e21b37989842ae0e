-- The wires u to W of a share and each other, share by share.
use mathlib.Core.Path.{◌≡◌, refl, sym, ap, ◌∙◌}
use mathlib.Core.List.{List}
use Prim.Native.Nat.{ℕ, ◌+◌, ◌<◌}
use native.Mathlib.Omega.{arith}
use lib.Bits.{bit_xor}
use lib.Dec.{eqb}
use borrow.Author.Tests.{eqb-true, eqb-false}
use Rattle.circuit.specs.Lists.{nth}
use Rattle.circuit.specs.Gadgets.{others}
use Rattle.circuit.proofs.Base.{cases}
use Rattle.gadgets.specs.Internal.Places.{cross_start, pair_at, product_at, cross_at}
use Rattle.gadgets.proofs.Slots.{slot_next, pair_early, product-early, row_ends}
use Rattle.simulation.specs.Internal.Filling.{Values, word_sum, Known, Fills, Crossed, RowCrossed, crossing_at}
use Rattle.simulation.specs.Internal.Gadgets.{Crosses, CrossesOther, CrossesRow}
use Rattle.simulation.proofs.Adding.{rest, rest_start, rest_itself, rest_turn, rest_end}
use Rattle.simulation.proofs.Filled.{known-all, fills-none, fills-next, fills-at}

-- the row as far as j
pub record RowOn (d first i a word : ℕ) (old values : List ℕ) (sum j : ℕ) : Type 0 where
  pub fills : Fills (RowCrossed 1 d first i a) (first + cross_start d i) (cross_at d first i j) old values
  pub adds : (v : Values) → RowCrossed 1 d first i a v → Known v 0 (first + cross_start d i) old → let f = crossing_at 1 d first i a v in
      bit_xor word (word_sum (others d i) f) ≡ bit_xor sum (word_sum (rest d i j) f)

module _ {d first i a word : ℕ} (l : i < d) where
  pub row_start_lem : {old : List ℕ} → RowOn d first i a word old old word 0
  row_start_lem {old} = record {
    fills = fills-at refl (omega (arith, row_ends d first i l)) (fills-none (first + cross_start d i) old);
    adds = λ v e k. rest_start word (crossing_at 1 d first i a v) d i refl;
  }

  module _ {old values : List ℕ} {sum j : ℕ} (on : RowOn d first i a word old values sum j) where
    pub row_end : j ≡ d → CrossesRow d first i a word old values sum
    row_end e = record {
      fills = fills-at refl (ap (cross_at d first i) e ∙ (row_ends d first i l).last) on.fills;
      adds = λ v q k. rest_end sum (crossing_at 1 d first i a v) d i j (on.adds v q k) (omega arith);
    }

    -- the share i itself has no wires here
    row_itself : j < d → j ≡ i → RowOn d first i a word old values sum (j + 1)
    row_itself h e = record {
      fills = fills-at refl (rw e (sym (row_ends d first i l).mid)) on.fills;
      adds = λ v q k. rest_itself sum (crossing_at 1 d first i a v) d i j (on.adds v q k) h e;
    }

    -- one share more
    module _ (h : j < d) (ne : j ≡ i → ⊥) where
      known_at : (v : Values) → Known v 0 (cross_at d first i j) values
          → (nth values (product_at d first j) ≡ v (product_at d first j)) × (nth values (pair_at d first i j) ≡ v (pair_at d first i j))
      known_at v k = (
        k (product_at d first j) (omega arith) (omega (arith, product-early d first i j h)),
        k (pair_at d first i j) (omega arith) (omega (arith, pair_early d first i j l h ne, product-early d first i 0 (omega arith))),
      )

      crossed-at : (v : Values) → RowCrossed 1 d first i a v → Known v 0 (cross_at d first i j) values
          → Crossed 1 (cross_at d first i j) a (nth values (product_at d first j)) (nth values (pair_at d first i j)) v
      crossed-at v e k = rw ((known_at v k).0, (known_at v k).1) (e j h ne)

      row_turn : {new : List ℕ} {s : ℕ} → Crosses (cross_at d first i j) a (nth values (product_at d first j)) (nth values (pair_at d first i j)) values new s
          → RowOn d first i a word old new (bit_xor sum s) (j + 1)
      row_turn c = record {
        fills = fills-next (omega arith) (omega (arith, slot_next i j ne)) crossed-at on.fills (fills-at refl (omega (arith, slot_next i j ne)) c.fills);
        adds = λ v e k.
            let (b_is, r_is) = known_at v (known-all on.fills v e k) in
            rw (c.adds, b_is, r_is) (rest_turn sum (crossing_at 1 d first i a v) d i j (on.adds v e k) h ne);
      }

    -- each share in turn
    pub row_other : j < d → {new : List ℕ} {s : ℕ} → CrossesOther d first i j a sum values new s → RowOn d first i a word old new s (j + 1)
    row_other h {new} {s} c = cases (eqb j i)
        (λ e. let same = eqb-true j i e in let (sum_is, new_is) = c.itself same in rw (sum_is, new_is) (row_itself h same))
        (λ e. let ne = eqb-false j i e in let (t, crossed, s-is) = c.other ne in rw s-is (row_turn h ne crossed))
