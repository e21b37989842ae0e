-- The outputs, then the rows, then the wires m hand their marks on.
use Rattle.gadgets.specs.Internal.Places.{word_a, word_b}
use Rattle.reach.proofs.Moved.{and-moved}
use Rattle.reach.proofs.reach.propagate_and.Goals as goal

pub returns : goal.returns
returns c =
    let g = c.args.gadget in
    and-moved g.d g.first (word_a c.args.ops.now) (word_b g.d c.args.ops.now) c.propagate_outputs.ensures c.propagate_rows.ensures c.propagate_products.ensures
