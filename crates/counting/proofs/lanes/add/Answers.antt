-- A lane more.
use Rattle.counting.proofs.Adding.{added_next}
use Rattle.counting.proofs.lanes.add.Goals as goal

pub loop-lane-preserved : goal.loop-lane-preserved
loop-lane-preserved c = added_next c.loop-lane.invariant c.loop-lane-test.true
