-- The loop's invariant: the marks of the shares from i on are moved on.
use Rattle.gadgets.specs.Internal.Places.{word_a, word_b, product_at}
use Rattle.gadgets.specs.Internal.Gates.{ProductsGates}
use Rattle.reach.specs.Internal.Marks.{Moves}
use Rattle.reach.proofs.reach.propagate_products.Given as goal

abbrev pub invariant-loop-i : goal.invariant-loop-i
invariant-loop-i l = let g = l.gadget in
    Moves (ProductsGates g.d g.first (word_a l.ops) (word_b g.d l.ops)) (product_at g.d g.first l.i) (product_at g.d g.first g.d) l.initial.marks l.marks
