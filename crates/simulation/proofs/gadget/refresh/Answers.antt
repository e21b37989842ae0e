-- The random bits and the sums, then the outputs are filled in.
use Rattle.gadgets.specs.Internal.Places.{word_a}
use Rattle.simulation.proofs.Gadgets.{row_masks, ref_filled}
use Rattle.simulation.proofs.gadget.refresh.Goals as goal

pub returns : goal.returns
returns c =
    let a = c.args in
    ref_filled a.g.d a.g.first (word_a a.ops.now) a.tape.now a.g.used (row_masks a.g.d a.g.first a.ops.now a.tape.now a.g.used c.mask.ensures) c.holds.ensures
