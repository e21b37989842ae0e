-- A wire more.
use Rattle.counting.proofs.Surveying.{read_next}
use Rattle.counting.proofs.linear.variables_read.Goals as goal

pub loop-wire-preserved : goal.loop-wire-preserved
loop-wire-preserved c = read_next c.loop-wire.invariant
