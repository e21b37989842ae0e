-- The loop's invariant: the wires of the shares below i are filled in.
use mathlib.Core.Path.{refl}
use native.Mathlib.Omega.{arith}
use Rattle.simulation.proofs.Products.{products_turn}
use Rattle.simulation.proofs.Filled.{fills-at}
use Rattle.simulation.proofs.gadget.share_products.Goals as goal

pub loop-i-preserved : goal.loop-i-preserved
loop-i-preserved c =
    let t = c.loop-i-test.true in
    let (_, a, b) = c.requires.0 in
    products_turn t (omega arith) (a c.loop-i.i t) (b c.loop-i.i t) c.loop-i.invariant _ _ _ _ c.product_at-at.ensures.0 c.word_a.ensures c.word_b.ensures c.m-m.ensures

pub returns : goal.returns
returns c = fills-at refl (omega arith) c.loop-i.invariant
