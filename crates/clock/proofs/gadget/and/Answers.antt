-- Three parts, one behind the other.
use Rattle.clock.proofs.Gadgets.{and_runs}
use Rattle.clock.proofs.gadget.and.Goals as goal

pub returns : goal.returns
returns c =
    let a = c.args in
    and_runs a.g.d a.g.first a.g.used a.g.pairs a.ops.now a.tape.now a.g.paired c.draws.ensures c.share_products.ensures c.cross_all.ensures
