-- A free bit more, which varies or not.
use mathlib.Core.Path.{sym}
use native.Mathlib.Omega.{arith}
use Rattle.counting.proofs.Filling.{rank_lt, filled_none, filled_next}
use Rattle.counting.proofs.variables.fill_free.Goals as goal

pub loop-i-preserved-then-not-has : goal.loop-i-preserved-then-not-has
loop-i-preserved-then-not-has c = filled_none c.loop-i.invariant (omega arith) (omega arith) (sym c.if-not-has.ensures) c.write_four.ensures

pub write_varied-requires : goal.write_varied-requires
write_varied-requires c = (omega arith, omega (arith, rank_lt c.loop-i.invariant (omega arith)), c.requires.1)

pub overflow_add-rank : goal.overflow_add-rank
overflow_add-rank c = omega (arith, rank_lt c.loop-i.invariant (omega arith))

pub loop-i-preserved : goal.loop-i-preserved
loop-i-preserved c = filled_next c.loop-i.invariant (omega arith) (omega arith) (sym c.if-not-has.ensures) c.write_varied.ensures
