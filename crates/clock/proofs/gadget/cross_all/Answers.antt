-- The loop's invariant: the clock has come past the rows of the shares below i, and their outputs are written.
use mathlib.Core.Path.{ap, ◌∙◌}
use Prim.Native.Nat.{◌+◌}
use native.Mathlib.Omega.{arith}
use Rattle.clock.proofs.Outputs.{rows_turn, rows_end}
use Rattle.clock.proofs.gadget.cross_all.Goals as goal

pub loop-i-preserved : goal.loop-i-preserved
loop-i-preserved c =
    let t = c.loop-i-test.true in
    rows_turn c.loop-i.invariant t (c.requires.0.1 c.loop-i.i t) (omega arith) _ _ _ c.word_a.ensures
    (ap (λ n. n + 2) c.product_at.ensures.0) c.out_at.ensures.0 c.cross_row-lower.ensures c.cross_row.ensures
    (c.cross_row.auto.values ∙ c.cross_row-lower.auto.values) (c.cross_row.auto.bank ∙ c.cross_row-lower.auto.bank)

pub returns : goal.returns
returns c = rows_end c.loop-i-test.false c.loop-i.invariant
