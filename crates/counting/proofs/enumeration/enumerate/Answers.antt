-- Under seven free bits one batch has all pairs; from there on each has 128.
use mathlib.Core.Path.{subst}
use Prim.Native.Nat.{ℕ}
use native.Mathlib.Omega.{arith}
use Rattle.counting.specs.Internal.Pairs.{Divides}
use Rattle.counting.proofs.Batches.{whole_batches}
use Rattle.counting.proofs.Tallying.{varied-most}
use Rattle.counting.proofs.enumeration.enumerate.Goals as goal

pub power-requires-2 : goal.power-requires-2
power-requires-2 c = omega (arith, varied-most c.args.factors c.args.plan.free c.requires)

pub invariant_of-result-2 : goal.invariant_of-result-2
invariant_of-result-2 c = let most = varied-most c.args.factors c.args.plan.free c.requires in record {
  few = c.requires;
  divides = subst (λ (n : ℕ). Divides n c.power-2.result 128) c.count_free-varied.ensures (whole_batches _ _ (omega arith) c.power-2.ensures.0);
}
