-- Where the largest byte is at most 1, none is over it; by the place that is found, rule 18's judgement.
use native.Mathlib.Omega.{arith}
use borrow.Author.Tests.{tests}
use Rattle.std.proofs.Common.{rules}
use lib.Dec.{ltb}
use Rattle.std.proofs.lemmas.Iterator.{YieldsList-from_slice}
use Rattle.std.proofs.lemmas.Iterator.Search.{position_from_yields_List}
use Rattle.evaluation.proofs.Refusals.{over_first, none_over}
use Rattle.evaluation.proofs.rules.first_over.Goals as goal

pub returns-then-largest-le1 : goal.returns-then-largest-le1
returns-then-largest-le1 c =
    let found = none_over c.args.bytes.now (λ x l. omega (arith, c.largest.ensures.is x l)) in
    record { found = found; judged = over_first c.args.bytes.now found }

pub returns : goal.returns
returns c =
    let found = position_from_yields_List (λ b. ltb 1 b) _ _ c.position.result c.position.ensures.ran (YieldsList-from_slice c.args.bytes.now cc) (λ x b q k. search (rules, tests)) in
    record { found = found; judged = over_first c.args.bytes.now found }
