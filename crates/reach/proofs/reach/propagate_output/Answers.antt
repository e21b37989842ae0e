-- An output without a mark is left; another hands its mark to M, to every U and to every W.
use mathlib.Core.Path.{ap}
use Prim.Native.Nat.{◌+◌}
use native.Mathlib.Omega.{arith}
use lib.ListN.{length-set}
use Rattle.reach.proofs.Moved.{out_handed}
use Rattle.gadgets.proofs.Slots.{ShareOf, share-of}
use Rattle.reach.proofs.reach.propagate_output.Goals as goal
use Rattle.reach.proofs.reach.propagate_output.Goals.{Start}

-- where the share's wires stand
share : (s : Start) → ShareOf s.args.gadget.d s.args.gadget.first s.args.i
share s = share-of _ _ _ s.args.gadget.small.2 s.requires.0

pub bounds-marks-product_at : goal.bounds-marks-product_at
bounds-marks-product_at c = omega (arith, share (goal.at.bounds-marks-product_at c).Start, c.product_at.ensures.0)

pub mark_six_apart-requires : goal.mark_six_apart-requires
mark_six_apart-requires c = simp length-set (omega (arith, share (goal.at.mark_six_apart-requires c).Start, c.cross_start.ensures.0))

pub mark_six_apart-requires-2 : goal.mark_six_apart-requires-2
mark_six_apart-requires-2 c = omega (arith, share (goal.at.mark_six_apart-requires-2 c).Start, simp length-set at c.mark_six_apart.auto.marks, c.cross_start.ensures.0)

pub returns : goal.returns
returns c =
    let g = c.args.gadget in
    let row = ap (λ n. g.first + n) c.cross_start.ensures.0 in
    let product = ap (λ n. n + 2) c.product_at.ensures.0 in
    out_handed g.d g.first c.args.i c.args.marks.now _ _ _ c.out_at-wire.ensures.0 row product c.if-marks-wire-lt1.false c.mark_six_apart.ensures c.mark_six_apart-2.ensures
