-- The wires of AND behind B, m and M, share by share: a row, then its output, which stands behind all rows.
use mathlib.Core.Path.{◌≡◌, sym, ap, ap₂, ◌∙◌}
use mathlib.Core.List.{List}
use Prim.Native.Nat.{ℕ, ◌+◌, ◌≤◌, ◌<◌}
use native.Mathlib.Omega.{arith}
use lib.Bits.{bit_xor}
use lib.ListN.{length, set, length-set}
use Rattle.circuit.specs.Lists.{nth}
use Rattle.circuit.specs.Gadgets.{others}
use Rattle.gadgets.specs.Internal.Places.{cross_start, product_at, out_at}
use Rattle.gadgets.proofs.Stored.{nth-set}
use Rattle.gadgets.proofs.Slots.{product-early, row_room}
use Rattle.simulation.specs.Internal.Filling.{Values, word_sum, Known, RowCrossed, crossing_at, Multiplied}
use Rattle.simulation.specs.Internal.Gadgets.{CrossesRow}
use Rattle.simulation.proofs.Filled.{known-all}

-- the rows of the shares below i, and their outputs
pub record OutputsOn (d first : ℕ) (a : ℕ → ℕ) (old values : List ℕ) (i : ℕ) : Type 0 where
  pub most : i ≤ d
  pub known : (v : Values) → Multiplied 1 d first a v → Known v 0 (first + cross_start d 0) old → Known v 0 (first + cross_start d i) values
  pub outs : (v : Values) → Multiplied 1 d first a v → Known v 0 (first + cross_start d 0) old → Known v (out_at d first 0) (out_at d first i) values
  pub below : (x : ℕ) → x < first + cross_start d 0 → nth values x ≡ nth old x
  pub above : (x : ℕ) → out_at d first d ≤ x → nth values x ≡ nth old x
  pub size : length values ≡ length old

module _ {d first : ℕ} {a : ℕ → ℕ} {old values : List ℕ} {i : ℕ} (on : OutputsOn d first a old values i) (l : i < d) (early : a i < first) (room : out_at d first d ≤ length old)
    {row : List ℕ} {s : ℕ} (r : CrossesRow d first i (nth values (a i)) (nth values (product_at d first i + 2)) values row s) where
  module _ (v : Values) (e : Multiplied 1 d first a v) (k : Known v 0 (first + cross_start d 0) old) where
    now_known : Known v 0 (first + cross_start d i) values
    now_known = on.known v e k

    a_is : nth values (a i) ≡ v (a i)
    a_is = now_known (a i) (omega arith) (omega arith)

    by : RowCrossed 1 d first i (nth values (a i)) v
    by = rw a_is (e.crossed i l)

    out-known : s ≡ v (out_at d first i)
    out-known = r.adds v by now_known
        ∙ ap₂ (λ m x. bit_xor m (word_sum (others d i) (crossing_at 1 d first i x v))) (now_known (product_at d first i + 2) (omega arith) (product-early d first i i l)) a_is ∙ sym (e.out i l)

  in_room : out_at d first i < length row
  in_room = omega (arith, r.fills.size, on.size)

  turned : OutputsOn d first a old (set row (out_at d first i) s) (i + 1)
  turned = record {
    most = omega arith;
    known = λ v e k x p u. nth-set row (out_at d first i) s x in_room (λ same z. absurd (omega (arith, row_room d first i l))) (λ other z. z ∙ known-all r.fills v (by v e k) (now_known v e k) x p u);
    outs = λ v e k x p u. nth-set row (out_at d first i) s x in_room
        (λ same z. z ∙ out-known v e k ∙ ap v (sym same))
        (λ other z. z ∙ r.fills.above x (omega (arith, row_room d first i l)) ∙ on.outs v e k x p (omega arith));
    below = λ x h. nth-set row (out_at d first i) s x in_room (λ same z. absurd (omega arith)) (λ other z. z ∙ r.fills.below x (omega arith) ∙ on.below x h);
    above = λ x h. nth-set row (out_at d first i) s x in_room (λ same z. absurd (omega arith)) (λ other z. z ∙ r.fills.above x (omega (arith, row_room d first i l)) ∙ on.above x h);
    size = length-set row (out_at d first i) s ∙ r.fills.size ∙ on.size;
  }

-- where the code finds a, M and the output
pub outputs_turn : {d first : ℕ} {a : ℕ → ℕ} {old values : List ℕ} {i : ℕ} → OutputsOn d first a old values i → i < d → a i < first → out_at d first d ≤ length old
    → (x o p : ℕ) → x ≡ a i → o ≡ product_at d first i + 2 → p ≡ out_at d first i → {row : List ℕ} {s : ℕ}
    → CrossesRow d first i (nth values x) (nth values o) values row s → OutputsOn d first a old (set row p s) (i + 1)
outputs_turn on l early room x o p x_is o_is p-is r = rw p-is (turned on l early room (rw (x_is, o_is) at r))
