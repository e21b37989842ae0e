-- r and R, then B, m and M, then the rows with the outputs are filled in.
use Rattle.gadgets.specs.Internal.Places.{word_a, word_b}
use Rattle.simulation.proofs.Gadgets.{and-filled}
use Rattle.simulation.proofs.gadget.and_shares.Goals as goal

pub returns : goal.returns
returns g c =
    let a = c.args in
    and-filled a.gadget.d a.gadget.first (word_a a.ops.now) (word_b a.gadget.d a.ops.now) a.tape.now a.gadget.used _ a.gadget.paired
    (rw c.of_shares-g.ensures at c.draws.ensures) (rw c.of_shares-g.ensures at c.share_products.ensures) (rw c.of_shares-g.ensures at c.cross_all.ensures)
