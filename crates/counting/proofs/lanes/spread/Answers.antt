-- The product spreads each half by itself.
use Rattle.counting.proofs.Gathering.{byte_spread}
use Rattle.counting.proofs.lanes.spread.Goals as goal

pub returns : goal.returns
returns c = byte_spread c.args.bits c.requires
