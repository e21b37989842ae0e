-- All of them.
use native.Mathlib.Omega.{arith}
use Rattle.counting.proofs.Filling.{given_end}
use Rattle.counting.proofs.prepare.secret_sums.Goals as goal

pub returns : goal.returns
returns c = let t = c.loop-j.invariant in record { are = given_end t _ (omega arith) (omega arith); sized = t.sized }
