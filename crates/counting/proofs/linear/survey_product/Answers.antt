-- By whether the product is needed.
use native.Mathlib.Omega.{arith}
use Rattle.counting.proofs.Surveying.{survey_both}
use Rattle.counting.proofs.linear.survey_product.Goals as goal

pub returns : goal.returns
returns c = survey_both (c.requires.1 c.args.n (omega arith) (omega arith))
