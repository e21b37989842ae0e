-- The loop's invariant: the wires of the share i and the others below j are filled in, and their U and W are added.
use native.Mathlib.Omega.{arith}
use Rattle.simulation.proofs.Rows.{row_start_lem, row_other, row_end}
use Rattle.simulation.proofs.gadget.cross_row.Goals as goal

pub loop-j-init : goal.loop-j-init
loop-j-init c = row_start_lem c.requires.0

pub loop-j-preserved : goal.loop-j-preserved
loop-j-preserved c = row_other c.requires.0 c.loop-j.invariant c.loop-j-test.true c.cross_other-sum.ensures

pub returns : goal.returns
returns c = row_end c.requires.0 c.loop-j.invariant (omega arith)
