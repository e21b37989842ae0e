-- The pairs before a row are all but those from it on.
use native.Mathlib.Omega.{arith}
use Rattle.frames.proofs.RandomBits.{few-pairs}
use Rattle.gadgets.proofs.Sites.{row-rest}
use Rattle.gadgets.proofs.places.row_start.Goals as goal

pub overflow_sub-result : goal.overflow_sub-result
overflow_sub-result c = omega (arith, row-rest c.args.d c.args.i c.requires.0, c.pairs.ensures.0, c.pairs-2.ensures.0)

pub returns : goal.returns
returns c =
    (omega (arith, row-rest c.args.d c.args.i c.requires.0, c.pairs.ensures.0, c.pairs-2.ensures.0), omega (arith, c.pairs.ensures.0, few-pairs c.args.d c.requires.1))
