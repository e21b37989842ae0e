-- The loop's invariant: the pairs of the batches so far are counted under both sets, whatever table the sums and terms are of.
use mathlib.Core.Path.{◌≡◌}
use mathlib.Core.Bool.{Bool}
use mathlib.Core.List.{List}
use Prim.Native.Nat.{ℕ}
use lib.ListN.{length, replicate}
use Rattle.counting.specs.Internal.Tallying.{Prepared, set_of}
use Rattle.counting.specs.Internal.Lanes.{tally_of}
use Rattle.counting.proofs.Tallying.{TalliedTo}
use Rattle.counting.proofs.tally.tally_some.Given as goal

abbrev pub invariant-loop-batch : goal.invariant-loop-batch
invariant-loop-batch l = (length l.words ≡ 256) × (length l.shown ≡ 32)
    × ((table secrets : List ℕ) → Prepared table secrets l.read l.sums l.terms.sums l.terms.outputs l.enumeration.plan
    → (second : Bool)
    → TalliedTo table (set_of table second secrets) l.read l.enumeration.factors l.enumeration.plan.free (replicate 256 0) (tally_of second l.tallies) l.batch l.enumeration.lanes)
