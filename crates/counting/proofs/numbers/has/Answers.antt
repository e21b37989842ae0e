-- A digit is 0 or 1.
use Rattle.counting.proofs.WordBits.{digit-test}
use Rattle.counting.proofs.numbers.has.Goals as goal

pub returns : goal.returns
returns c = digit-test c.args.n c.args.set
