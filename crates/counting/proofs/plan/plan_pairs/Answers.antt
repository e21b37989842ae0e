-- The table's second word is its number of shares; the rest follows from its numbers.
use mathlib.Core.Path.{◌≡◌, ap, ap₂}
use Prim.Native.Nat.{◌+◌, ◌*◌, ◌-◌}
use native.Mathlib.Omega.{arith}
use Rattle.circuit.specs.Lists.{nth}
use Rattle.gadgets.specs.Internal.Accepting.{circuit_in}
use Rattle.semantics.specs.Counts.{free_bits}
use Rattle.counting.proofs.Batches.{second_is}
use Rattle.counting.proofs.plan.plan_pairs.Goals as goal
use Rattle.counting.proofs.plan.plan_pairs.Goals.{Start}

others : (s : Start) → nth s.args.table.now 1 - 1 ≡ (circuit_in s.args.table.now).d - 1
others s = ap (λ n. n - 1) (second_is s.requires.accepted)

free : (s : Start) → (nth s.args.table.now 1 - 1) * s.args.inputs + s.args.randoms ≡ free_bits (circuit_in s.args.table.now)
free s = ap₂ ◌+◌ (ap₂ ◌*◌ (others s) s.requires.inputs_are) s.requires.randoms_are

pub overflow_mul-start : goal.overflow_mul-start
overflow_mul-start c = omega (arith, free (goal.at.overflow_mul-start c).Start, c.requires.few)

pub overflow_add-result : goal.overflow_add-result
overflow_add-result c = omega (arith, free (goal.at.overflow_add-result c).Start, c.requires.few)

pub returns : goal.returns
returns c = let s = (goal.at.returns c).Start in record { others_are = others s; start_is = ap (λ n. (nth c.args.table.now 1 - 1) * n) c.requires.inputs_are; free_is = free s }
