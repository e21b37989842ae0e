-- The random bits, then the sums are filled in.
use native.Mathlib.Omega.{arith}
use Rattle.gadgets.specs.Internal.Places.{word_a}
use Rattle.simulation.proofs.Filled.{fills_copied}
use Rattle.simulation.proofs.Gadgets.{mask_filled}
use Rattle.simulation.proofs.gadget.mask_shares.Goals as goal

pub returns : goal.returns
returns g c =
    let a = c.args in
    let copied = fills_copied a.tape.now a.gadget.used a.gadget.first a.gadget.pairs _ _ a.values.now c.copy_from_slice.new.self (omega arith) (omega arith)
    (omega arith) (omega arith) (rw c.of_shares-g.ensures at c.copy_from_slice.ensures.after) in
    mask_filled a.gadget.d a.gadget.first (word_a a.ops.now) a.tape.now a.gadget.used _ a.gadget.paired copied (rw c.of_shares-g.ensures at c.sums.ensures)
