-- A product more.
use native.Mathlib.Omega.{arith}
use Rattle.counting.proofs.Surveying.{survey_from, survey_next}
use Rattle.counting.proofs.linear.survey_products.Goals as goal

pub loop-n-preserved : goal.loop-n-preserved
loop-n-preserved c = survey_next (omega arith) (survey_from (omega arith) c.loop-n.invariant) c.survey_product-all.ensures
