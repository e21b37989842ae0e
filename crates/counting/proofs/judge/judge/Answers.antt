-- At each place the judgement is that of the rules so far.
use mathlib.Core.Path.{sym, ap, ◌∙◌}
use native.Mathlib.Omega.{arith}
use Rattle.std.proofs.lemmas.Result.{err_from_is_err_and}
use Rattle.circuit.specs.Answer.{answer}
use Rattle.semantics.specs.Calls.{circuit_of}
use Rattle.gadgets.proofs.Walking.{headed}
use Rattle.counting.proofs.Judging.{refuses, checker_refuses, Told, told, at15, at17, at18, at19, at24, at_end}
use Rattle.counting.proofs.judge.judge.Goals as goal
use Rattle.counting.proofs.judge.judge.Goals.{In_ok-accepted}

tells : (v : In_ok-accepted) → let a = v.args in Told a.table.now a.notes.now a.secrets.now a.probes.now a.room v.in_ok-accepted.accepted
tells v = told _ _ _ _ _ v.in_ok-accepted.accepted v.in_ok-accepted.ensures.answered v.in_ok-accepted.ensures.inputs

pub returns-in_err-accepted : goal.returns-in_err-accepted
returns-in_err-accepted c =
    let e = err_from_is_err_and c.from_residual.result c.from_residual.ensures.1 in
    let h = c.in_err-accepted.ensures in
    rw (e.1, e.2) (checker_refuses _ _ _ _ _ h.noted h.answered)

pub overflow_mul-inputs : goal.overflow_mul-inputs
overflow_mul-inputs c = let t = tells (goal.at.overflow_mul-inputs c).In_ok-accepted in omega (arith, t.inputs, t.small.inputs)

pub returns-then-secrets-inputs : goal.returns-then-secrets-inputs
returns-then-secrets-inputs c =
    refuses _ _ _ _ _ c.check.ensures.noted c.refusal.ensures (at15 _ _ _ _ _ (tells (goal.at.returns-then-secrets-inputs c).In_ok-accepted) c.if-secrets-inputs.true)

pub returns-then-room-lt-SHEET : goal.returns-then-room-lt-SHEET
returns-then-room-lt-SHEET c =
    let t = tells (goal.at.returns-then-room-lt-SHEET c).In_ok-accepted in
    refuses _ _ _ _ _ c.check.ensures.noted c.refusal-then-room-lt-SHEET.ensures (at17 _ _ _ _ _ t c.if-secrets-inputs.false c.if-room-lt-SHEET.true)

pub returns-in-Some : goal.returns-in-Some
returns-in-Some c =
    let t = tells (goal.at.returns-in-Some c).In_ok-accepted in
    refuses _ _ _ _ _ c.check.ensures.noted c.refusal-in-Some.ensures
    (at18 _ _ _ _ _ t c.if-secrets-inputs.false c.if-room-lt-SHEET.false c.first_over.ensures.judged c.in-Some.is)

pub returns-in-Some-first_missing : goal.returns-in-Some-first_missing
returns-in-Some-first_missing c =
    let t = tells (goal.at.returns-in-Some-first_missing c).In_ok-accepted in
    refuses _ _ _ _ _ c.check.ensures.noted c.refusal-in-Some-first_missing.ensures
    (at19 _ _ _ _ _ t c.if-secrets-inputs.false c.if-room-lt-SHEET.false c.first_over.ensures.judged c.in_default.is c.first_missing.ensures.judged c.in-Some-first_missing.is)

pub bounds-table-1 : goal.bounds-table-1
bounds-table-1 c = omega (arith, headed (tells (goal.at.bounds-table-1 c).In_ok-accepted).of.accepted)

pub overflow_sub-table : goal.overflow_sub-table
overflow_sub-table c = omega (arith, (tells (goal.at.overflow_sub-table c).In_ok-accepted).small.least)

pub overflow_mul-table : goal.overflow_mul-table
overflow_mul-table c = omega (arith, (tells (goal.at.overflow_mul-table c).In_ok-accepted).shares)

pub overflow_add-table : goal.overflow_add-table
overflow_add-table c = let t = tells (goal.at.overflow_add-table c).In_ok-accepted in omega (arith, t.shares, t.randoms, t.small.randoms)

pub returns-then-table-inputs-gt-FREE_BITS : goal.returns-then-table-inputs-gt-FREE_BITS
returns-then-table-inputs-gt-FREE_BITS c =
    let t = tells (goal.at.returns-then-table-inputs-gt-FREE_BITS c).In_ok-accepted in
    refuses _ _ _ _ _ c.check.ensures.noted c.refusal-then-table-inputs-gt-FREE_BITS.ensures
    (at24 _ _ _ _ _ t c.if-secrets-inputs.false c.if-room-lt-SHEET.false c.first_over.ensures.judged c.in_default.is c.first_missing.ensures.judged c.in_default-first_missing.is c.if-table-inputs-gt-FREE_BITS.true)

pub returns : goal.returns
returns c =
    let k = circuit_of c.args.table.now c.args.notes.now in
    let t = tells (goal.at.returns c).In_ok-accepted in
    let e = at_end _ _ _ _ _ t c.if-secrets-inputs.false c.if-room-lt-SHEET.false c.first_over.ensures.judged c.in_default.is c.first_missing.ensures.judged c.in_default-first_missing.is
    c.if-table-inputs-gt-FREE_BITS.false in
    record { answers = c.in_ok-accepted.ensures.answered ∙ ap (answer k) (t.passes ∙ sym e); noted = c.check.ensures.noted; inputs = t.inputs }
