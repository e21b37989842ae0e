-- Where one of rules 1 to 4 is broken, its refusal is the answer.
use mathlib.Core.Path.{sym, ◌∙◌}
use Rattle.std.proofs.lemmas.Result.{err_from_is_err_and}
use Rattle.checker.proofs.Checking.{head_refused}
use Rattle.checker.proofs.check.Goals as goal

pub returns-in_err-head_rule : goal.returns-in_err-head_rule
returns-in_err-head_rule c =
    let e = err_from_is_err_and c.from_residual.result c.from_residual.ensures.1 in
    let p = head_refused c.args.table.now c.args.notes.now c.in_err-head_rule.field-0.0 (sym c.head_rule.ensures ∙ c.in_err-head_rule.was) in
    rw (e.1, e.2) (record { answered = p.0; noted = p.1.0; inputs = p.1.1 })
