-- The marked wires are those that are read.
use Rattle.counting.proofs.Marked.{lists_read}
use Rattle.counting.proofs.read.list_by.Goals as goal

pub returns : goal.returns
returns g c = lists_read c.requires.0 c.reach_stops.ensures c.list_marked.ensures
