-- The loop's invariant: the marks of the shares from i on are moved on.
use mathlib.Core.Path.{refl}
use Prim.Native.Nat.{◌-◌, ◌<◌}
use native.Mathlib.Omega.{arith}
use Rattle.gadgets.specs.Internal.Places.{word_a, word_b}
use Rattle.gadgets.proofs.Slots.{share-of}
use Rattle.reach.proofs.Moved.{moves_none, moves_at, products-moved}
use Rattle.reach.proofs.reach.propagate_products.Goals as goal

pub loop-i-init : goal.loop-i-init
loop-i-init c = moves_none _ _

pub propagate-requires : goal.propagate-requires
propagate-requires c =
    let g = c.args.gadget in
    let i = c.loop-i.i - 1 in
    let below : i < g.d = omega arith in
    omega (arith, share-of g.d g.first i g.small.2 below, c.requires.0, c.requires.1.1 i below, c.loop-i.invariant.size, c.word_a-a.ensures, c.product_at-at.ensures.0)

pub loop-i-preserved : goal.loop-i-preserved
loop-i-preserved c =
    let g = c.args.gadget in
    let ops = c.args.ops.now in
    products-moved g.d g.first (word_a ops) (word_b g.d ops) (c.loop-i.i - 1) (omega arith) (omega arith) c.loop-i.invariant _ _ c.product_at-at.ensures.0 c.word_a-a.ensures c.propagate.ensures

pub returns : goal.returns
returns c = moves_at (omega arith) refl c.loop-i.invariant
