-- The loop's invariant: the outputs of the shares below i are filled in.
use mathlib.Core.Path.{refl}
use native.Mathlib.Omega.{arith}
use Rattle.simulation.proofs.Gadgets.{held_turn}
use Rattle.simulation.proofs.Filled.{fills-at}
use Rattle.simulation.proofs.gadget.holds.Goals as goal

pub loop-i-preserved : goal.loop-i-preserved
loop-i-preserved c = held_turn c.args.g.d c.args.g.first c.loop-i.i c.loop-i.invariant c.loop-i-test.true (omega arith) _ c.sum_at-sum.ensures.0

pub returns : goal.returns
returns c = fills-at refl (omega arith) c.loop-i.invariant
