-- The list of counts, combination by combination.
use mathlib.Core.Path.{◌≡◌, sym, ap, ◌∙◌}
use mathlib.Core.List.{List}
use Prim.Native.Nat.{ℕ, ◌+◌, ◌*◌, ◌-◌, ◌≤◌, ◌<◌}
use native.Mathlib.Omega.{arith}
use lib.ListN.{length}
use lib.Seq.{sets, length-sets}
use Rattle.circuit.specs.Lists.{nth, concat_map}
use Rattle.circuit.proofs.Base.{stores_append}
use Rattle.gadgets.proofs.Ranges.{range_turn, range_end}
use Rattle.counting.specs.Internal.Listing.{four_of, list_of}

-- writing the whole list comes to writing the combinations from n on
pub record WrittenTo (one other : List ℕ) (pairs count : ℕ) (old counts : List ℕ) (n : ℕ) : Type 0 where
  pub most : n ≤ count
  pub sized : length counts ≡ length old
  pub left : sets old 0 (list_of one other pairs 0 count) ≡ sets counts (4 * n) (list_of one other pairs n (count - n))

module _ {one other : List ℕ} {pairs count : ℕ} {old counts : List ℕ} {n : ℕ} (w : WrittenTo one other pairs count old counts n) where
  abbrev four : ℕ → List ℕ
  four m = four_of (nth one m) (nth other m) pairs

  pub written_next : n < count → {new : List ℕ} → new ≡ sets counts (4 * n) (four n) → WrittenTo one other pairs count old new (n + 1)
  unfolding list_of
  written_next l {new} f =
      let rest = list_of one other pairs (n + 1) (count - (n + 1)) in
      let e : 4 * n + 4 ≡ 4 * (n + 1) = omega arith in
      record {
        most = omega arith;
        sized = ap length f ∙ length-sets counts (4 * n) (four n) ∙ w.sized;
        left = w.left ∙ ap (λ r. sets counts (4 * n) (concat_map r four)) (range_turn count n l) ∙ stores_append counts (4 * n) (four n) rest
            ∙ ap (λ m. sets (sets counts (4 * n) (four n)) m rest) e ∙ ap (λ t. sets t (4 * (n + 1)) rest) (sym f);
      }

  pub written_end : count ≤ n → counts ≡ sets old 0 (list_of one other pairs 0 count)
  unfolding list_of
  written_end l = sym (w.left ∙ ap (λ r. sets counts (4 * n) (concat_map r four)) (range_end count n l))
