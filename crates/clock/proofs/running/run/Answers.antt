-- The bank copied, then all frames.
use Rattle.clock.proofs.Whole.{copied_run}
use Rattle.clock.proofs.running.run.Goals as goal

pub returns : goal.returns
returns c = copied_run c.requires.1 c.copy.ensures c.run_frames.ensures
