-- A sum without a mark is left; another hands its mark to the share's wire and to its random bits, those of the shares below i and above.
use mathlib.Core.Path.{refl}
use Rattle.reach.proofs.Moved.{sum_handed}
use Rattle.reach.proofs.reach.propagate_sum.Goals as goal

pub returns : goal.returns
returns c =
    let g = c.args.gadget in
    sum_handed g.d g.first c.args.i c.args.a c.args.marks.now _ c.requires.0 c.sum_at-wire.ensures.0 c.if-marks-wire-lt1.false refl c.mark_masks.ensures
