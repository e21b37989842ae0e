-- The loop's invariant: the clock has come past the wires of the share i and the others below j, and what their U and W show is added.
use native.Mathlib.Omega.{arith}
use Rattle.gadgets.proofs.Slots.{Sites, sites}
use Rattle.clock.proofs.Rows.{row_turn, row_end}
use Rattle.clock.proofs.gadget.cross_row.Goals as goal
use Rattle.clock.proofs.gadget.cross_row.Goals.{In-loop-j}

site : (c : In-loop-j) → Sites c.args.g.d c.args.g.first c.args.i c.loop-j.j
site c = let (i, to, _, _, _, apart, _) = c.requires in sites _ _ _ _ c.args.g.small.2 i (omega arith) (apart c.loop-j.j (omega arith) c.loop-j-test.true)

pub bounds-values-pair : goal.bounds-values-pair
bounds-values-pair c = omega (arith, site (goal.at.bounds-values-pair c).In-loop-j)

pub bounds-values-pair-in-loop-j : goal.bounds-values-pair-in-loop-j
bounds-values-pair-in-loop-j c = omega (arith, site (goal.at.bounds-values-pair-in-loop-j c).In-loop-j)

pub cross-sum-requires : goal.cross-sum-requires
cross-sum-requires c = omega (arith, (site (goal.at.cross-sum-requires c).In-loop-j).room)

pub loop-j-preserved : goal.loop-j-preserved
loop-j-preserved c =
    let (i, to, ops, _, _, apart, _) = c.requires in
    row_turn c.loop-j.invariant c.args.g.small.2 i to apart ops.2 c.loop-j-test.true _ _ _ c.cross_at.ensures.0 c.pair_at-pair.ensures.0
    c.word_b.ensures c.cross-sum.ensures c.cross-sum.auto.values c.cross-sum.auto.bank

pub returns : goal.returns
returns c = row_end c.loop-j.invariant c.loop-j-test.false
