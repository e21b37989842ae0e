-- The loop's invariant: the words of the products below one are written.
use native.Mathlib.Omega.{arith}
use Rattle.symbolic.proofs.Running.{runs_next}
use Rattle.symbolic.proofs.evaluate.run.Goals as goal

pub loop-n-preserved : goal.loop-n-preserved
loop-n-preserved c = runs_next c.loop-n.auto.n (λ m k u. c.requires.2 m k (omega arith)) c.loop-n.invariant c.write_product.ensures
