-- The loop's invariant: the clock has come past B, m and M of the shares below i.
use mathlib.Core.Path.{refl}
use native.Mathlib.Omega.{arith}
use lib.ListN.{length-set}
use Rattle.clock.proofs.Wires.{upto_at, runs_next}
use Rattle.clock.proofs.Crossing.{product-gates, product-on}
use Rattle.clock.proofs.gadget.share_products.Goals as goal

pub loop-i-preserved : goal.loop-i-preserved
loop-i-preserved c =
    let (_, early, late) = c.requires.0 in
    let i = c.loop-i.i in
    let t = c.loop-i-test.true in
    let (is, _) = c.product_at-at.ensures in
    runs_next c.loop-i.invariant
    (λ k g u. upto_at (omega (arith, is))
    (product-on _ _ _ (omega (arith, g.0, is)) (product-gates k.gate is c.word_a.ensures c.word_b.ensures (g.1 i t)) (upto_at (omega (arith, is)) u)
    (omega (arith, is, c.word_a.ensures, early i t)) (omega (arith, is, c.word_b.ensures, late i t)) _ c.m-m.ensures))
    (rw length-set refl) (rw (length-set, length-set) refl)
