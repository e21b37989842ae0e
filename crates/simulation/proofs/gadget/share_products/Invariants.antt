-- The loop's invariant: the wires of the shares below i are filled in.
use Rattle.gadgets.specs.Internal.Places.{word_a, word_b, product_at}
use Rattle.simulation.specs.Internal.Filling.{Fills, ShareProducts}
use Rattle.simulation.proofs.gadget.share_products.Given as goal

abbrev pub invariant-loop-i : goal.invariant-loop-i
invariant-loop-i l =
    Fills (ShareProducts l.g.d l.g.first (word_a l.ops) (word_b l.g.d l.ops)) (product_at l.g.d l.g.first 0) (product_at l.g.d l.g.first l.i) l.initial.values l.values
