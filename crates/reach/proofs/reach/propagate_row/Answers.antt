-- The loop's invariant: the marks of the share i and each from j on are moved on.
use mathlib.Core.Path.{◌≡◌, refl, ap}
use Prim.Native.Nat.{◌-◌}
use native.Mathlib.Omega.{arith}
use Rattle.gadgets.specs.Internal.Places.{word_a, word_b, cross_at}
use Rattle.gadgets.proofs.Slots.{Sites, sites}
use Rattle.reach.proofs.Moved.{moves_none, moves_at, row_moved, below-is}
use Rattle.reach.proofs.reach.propagate_row.Goals as goal
use Rattle.reach.proofs.reach.propagate_row.Goals.{In-loop-j}

apart : (c : In-loop-j) → c.loop-j.j - 1 ≡ c.args.i → ⊥
apart c = c.requires.5 (c.loop-j.j - 1) (omega arith) (omega arith)

site : (c : In-loop-j) → Sites c.args.gadget.d c.args.gadget.first c.args.i (c.loop-j.j - 1)
site c = sites _ _ _ _ c.args.gadget.small.2 c.requires.2 (omega arith) (apart c)

pub loop-j-init : goal.loop-j-init
loop-j-init c = (c.requires.3, moves_none _ _)

pub pair_at-r-requires : goal.pair_at-r-requires
pair_at-r-requires c = (c.requires.2, omega arith, apart (goal.at.pair_at-r-requires c).In-loop-j)

pub propagate_cross-requires : goal.propagate_cross-requires
propagate_cross-requires c =
    let p = c.requires in
    let one = p.1.1 c.args.i p.2 in
    let two = p.1.2 (c.loop-j.j - 1) (omega arith) in
    omega (arith, one, two, site (goal.at.propagate_cross-requires c).In-loop-j, p.0, c.loop-j.invariant.1.size, c.word_a-a.ensures, c.word_b-b.ensures, c.pair_at-r.ensures.0, c.cross_at.ensures.0)

pub loop-j-preserved : goal.loop-j-preserved
loop-j-preserved c =
    let g = c.args.gadget in
    let ops = c.args.ops.now in
    let apart = apart (goal.at.loop-j-preserved c).In-loop-j in
    let moved = row_moved g.d g.first (word_a ops) (word_b g.d ops) c.args.i (c.loop-j.j - 1) c.args.to (omega arith) apart (omega arith) (omega arith) c.loop-j.invariant.1 in
    (omega arith, moved _ _ _ _ c.cross_at.ensures.0 c.pair_at-r.ensures.0 c.word_a-a.ensures c.word_b-b.ensures c.propagate_cross.ensures)

pub returns : goal.returns
returns c = moves_at (ap (cross_at _ _ _) (below-is _ _ c.loop-j.invariant.0 c.loop-j-test.false)) refl c.loop-j.invariant.1
