-- The loop's invariant: the sums of the shares below i are filled in.
use mathlib.Core.Path.{refl}
use native.Mathlib.Omega.{arith}
use Rattle.simulation.proofs.Gadgets.{masked_turn}
use Rattle.simulation.proofs.Filled.{fills-at}
use Rattle.simulation.proofs.gadget.sums.Goals as goal

pub loop-i-preserved : goal.loop-i-preserved
loop-i-preserved c =
    let t = c.loop-i-test.true in
    masked_turn c.loop-i.invariant t (omega arith) (c.requires.0.1 c.loop-i.i t) _ _ c.word_a.ensures c.sum_at.ensures.0 c.add_masks.ensures

pub returns : goal.returns
returns c = fills-at refl (omega arith) c.loop-i.invariant
