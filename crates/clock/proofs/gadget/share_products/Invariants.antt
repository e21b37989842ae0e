-- The loop's invariant: the clock has come past B, m and M of the shares below i.
use Rattle.gadgets.specs.Internal.Places.{word_a, word_b, product_at}
use Rattle.clock.specs.Internal.Running.{Runs}
use Rattle.clock.specs.Internal.Parts.{Products}
use Rattle.clock.proofs.gadget.share_products.Given as goal

abbrev pub invariant-loop-i : goal.invariant-loop-i
invariant-loop-i l =
    Runs (Products l.g.d l.g.first (word_a l.ops) (word_b l.g.d l.ops)) (product_at l.g.d l.g.first 0) (product_at l.g.d l.g.first l.i) l.initial.values l.initial.bank l.values l.bank
