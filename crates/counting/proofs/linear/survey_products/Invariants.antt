-- The loop's invariant: the products from one on are surveyed.
use Rattle.counting.specs.Internal.Linear.{SurveysMore}
use Rattle.counting.proofs.linear.survey_products.Given as goal

abbrev pub invariant-loop-n : goal.invariant-loop-n
invariant-loop-n l = SurveysMore l.terms l.n l.to l.initial.all.needed l.initial.all.factors l.all.needed l.all.factors
