-- By the place that is found, rule 19's judgement.
use borrow.Author.Tests.{tests}
use Rattle.std.proofs.Common.{rules}
use lib.Dec.{leb}
use Rattle.std.proofs.lemmas.Iterator.{YieldsList-from_slice}
use Rattle.std.proofs.lemmas.Iterator.Search.{position_from_yields_List}
use Rattle.evaluation.proofs.Refusals.{missing_first}
use Rattle.evaluation.proofs.rules.first_missing.Goals as goal

pub returns : goal.returns
returns c =
    let found = position_from_yields_List (λ p. leb c.args.wires p) _ _ c.position.result c.position.ensures.ran (YieldsList-from_slice c.args.probes.now cc) (λ x b q k. search (rules, tests)) in
    record { found = found; judged = missing_first c.args.probes.now c.args.wires found }
