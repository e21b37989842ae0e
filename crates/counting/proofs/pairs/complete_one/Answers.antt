-- A word more, then the last.
use native.Mathlib.Omega.{arith}
use Rattle.counting.proofs.Sharing.{one-next, one_end}
use Rattle.counting.proofs.pairs.complete_one.Goals as goal

pub loop-i-preserved : goal.loop-i-preserved
loop-i-preserved c = one-next c.loop-i.invariant (omega arith)

pub returns : goal.returns
returns c = one_end c.loop-i.invariant c.requires (omega arith)
