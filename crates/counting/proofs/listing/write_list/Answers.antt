-- A combination more.
use mathlib.Core.Bool.{true, false}
use native.Mathlib.Omega.{arith}
use Rattle.counting.proofs.Written.{written_next, written_end}
use Rattle.counting.proofs.listing.write_list.Goals as goal

pub write_four-requires : goal.write_four-requires
write_four-requires c = (omega arith, c.requires.3 false c.loop-n.n, c.requires.3 true c.loop-n.n, c.requires.2)

pub loop-n-preserved : goal.loop-n-preserved
loop-n-preserved c = written_next c.loop-n.invariant (omega arith) c.write_four.ensures

pub returns : goal.returns
returns c = written_end c.loop-n.invariant (omega arith)
