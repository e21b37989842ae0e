-- The loop's invariant: the rows of the shares below i are filled in, and so are their outputs.
use mathlib.Core.Path.{ap}
use Prim.Native.Nat.{◌+◌}
use Rattle.simulation.proofs.Outputs.{outputs_turn}
use Rattle.simulation.proofs.gadget.cross_all.Goals as goal

pub loop-i-preserved : goal.loop-i-preserved
loop-i-preserved c =
    let t = c.loop-i-test.true in
    outputs_turn c.loop-i.invariant t (c.requires.0.1 c.loop-i.i t) c.requires.1 _ _ _ c.word_a.ensures (ap (λ n. n + 2) c.product_at.ensures.0) c.out_at.ensures.0 c.cross_row.ensures
