-- The random bits and the sums, then what the outputs show next.
use Rattle.simulation.proofs.Gadgets.{row_masks}
use Rattle.clock.proofs.Gadgets.{ref_runs}
use Rattle.clock.proofs.gadget.refresh.Goals as goal

pub returns : goal.returns
returns c =
    let a = c.args in
    ref_runs a.g.d a.g.first a.g.used a.ops.now a.tape.now (row_masks a.g.d a.g.first a.ops.now a.tape.now a.g.used c.mask.ensures) c.holds.ensures
