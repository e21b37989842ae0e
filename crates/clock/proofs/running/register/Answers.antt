-- One register.
use mathlib.Core.Path.{refl}
use native.Mathlib.Omega.{arith}
use lib.ListN.{length-set}
use Rattle.clock.proofs.Wires.{keep, runs_none, runs_next}
use Rattle.clock.proofs.running.register.Goals as goal

pub returns : goal.returns
returns c = runs_next (runs_none _ _ _) (λ k g u. keep u _ (omega (arith, g.0)) g.1 (u.below _ (omega arith))) refl (rw length-set refl)
