-- The read wires' variables, then the products that are read, then the outputs.
use Rattle.counting.proofs.Surveying.{all_surveyed, needed_surveyed}
use Rattle.counting.proofs.linear.find_varied.Goals as goal

pub returns-then-count_free-found : goal.returns-then-count_free-found
returns-then-count_free-found c = needed_surveyed c.requires.3 c.variables_read.ensures c.survey_products-inner.ensures c.survey_products-all.ensures

pub returns : goal.returns
returns c = all_surveyed c.requires.3 c.variables_read.ensures c.survey_products-inner.ensures c.survey_products-all.ensures
