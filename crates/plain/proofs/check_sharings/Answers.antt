-- The call ends in one of three ways, each a judgement; what it promises follows from that judgement.
use mathlib.Core.Path.{sym, subst}
use Rattle.std.proofs.lemmas.Result.{err_from_is_err_and}
use Rattle.circuit.proofs.Exact.{sound}
use Rattle.gadgets.specs.Internal.Accepting.{circuit_in}
use Rattle.gadgets.proofs.Walking.{least-notes}
use Rattle.plain.specs.Internal.Tests.{Labels}
use Rattle.plain.proofs.Calling.{refused_first, passes, misfits, fits_all, plain_where, labels-noted}
use Rattle.plain.proofs.check_sharings.Goals as goal

pub returns-in_err-accepted-clause-answered : goal.returns-in_err-accepted-clause-answered
returns-in_err-accepted-clause-answered c =
    let p = err_from_is_err_and c.from_residual.result c.from_residual.ensures.1 in
    rw (p.1, p.2) (refused_first c.args.table.now c.args.notes.now c.in_err-accepted.ensures.answered)

pub judge-requires : goal.judge-requires
judge-requires c =
    let table = c.args.table.now in
    let notes = c.args.notes.now in
    let a = sound _ _ (passes table notes c.in_ok-accepted.ensures.answered) in
    (least-notes a, subst (λ ns. Labels ns (circuit_in table)) (sym c.check.ensures.noted) (labels-noted table notes a))

pub returns-in_err-judge-clause-answered : goal.returns-in_err-judge-clause-answered
returns-in_err-judge-clause-answered c =
    let p = err_from_is_err_and c.from_residual-in_err-judge.result c.from_residual-in_err-judge.ensures.1 in
    rw (p.1, p.2) (misfits c.args.table.now c.args.notes.now c.in_ok-accepted.ensures.answered c.in_err-judge.ensures)

pub returns-clause-answered : goal.returns-clause-answered
returns-clause-answered c = fits_all c.args.table.now c.args.notes.now c.in_ok-accepted.ensures.answered c.in_ok-judge.ensures

pub returns-in_err-accepted-clause-plain : goal.returns-in_err-accepted-clause-plain
returns-in_err-accepted-clause-plain c = plain_where c.args.table.now c.args.notes.now

pub returns-in_err-judge-clause-plain : goal.returns-in_err-judge-clause-plain
returns-in_err-judge-clause-plain c = plain_where c.args.table.now c.args.notes.now

pub returns-clause-plain : goal.returns-clause-plain
returns-clause-plain c = plain_where c.args.table.now c.args.notes.now
