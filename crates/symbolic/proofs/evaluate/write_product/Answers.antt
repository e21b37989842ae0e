-- The four words are those of the term.
use mathlib.Core.Path.{ap₂, ◌∙◌}
use native.Mathlib.Omega.{arith}
use lib.Bits.{bit_and}
use Rattle.symbolic.proofs.Running.{four, product-written}
use Rattle.symbolic.proofs.evaluate.write_product.Goals as goal

pub returns : goal.returns
returns c =
    let r = c.multiply.ensures in
    let q = c.sum-other.ensures in
    let p = c.sum-one.ensures in
    rw c.write_four.ensures (product-written c.requires.1 (four _ _ _ _ _ _ _ (omega arith) (
      r.0 ∙ ap₂ bit_and p.0 q.0,
      r.1 ∙ ap₂ bit_and p.1 q.1,
      r.2 ∙ ap₂ bit_and p.2 q.2,
      r.3 ∙ ap₂ bit_and p.3 q.3,
    )))
