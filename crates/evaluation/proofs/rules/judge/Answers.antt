-- Each rule in its turn: what is left of the call's judgement behind it, or the refusal that ends it.
use mathlib.Core.Path.{◌≡◌, sym, ap, ap₂, subst, ◌∙◌}
use mathlib.Core.List.{List}
use Prim.Native.Nat.{ℕ, ◌*◌}
use native.Mathlib.Omega.{arith}
use lib.ListN.{length}
use Rattle.std.specs.Prelude.{Result}
use Rattle.circuit.specs.Lists.{nth}
use Rattle.circuit.specs.Circuit.{size}
use Rattle.circuit.specs.Rules.{pass, checked}
use Rattle.circuit.specs.Answer.{answer}
use Rattle.circuit.specs.declared.rules.Refusal.{Refusal}
use Rattle.circuit.proofs.Answers.{answer-pass}
use Rattle.semantics.specs.Calls.{circuit_of}
use Rattle.checker.specs.declared.Accepted.{Accepted}
use Rattle.checker.specs.Answers.{answer_of, InputsAre}
use Rattle.gadgets.proofs.Walking.{headed}
use Rattle.evaluation.proofs.Answering.{Taken, taken, refused-first}
use Rattle.evaluation.proofs.Judging.{Call, judged, from15, breaks15, breaks16, breaks17, at16, at17, at18, breaks_share, from_tape, breaks_tape, from19, breaks19, passes}
use Rattle.evaluation.proofs.rules.judge.Goals as goal
use Rattle.evaluation.proofs.rules.judge.Goals.{In-Ok}

abbrev call : In-Ok → Call
call v = let a = v.args in record { table = a.table.now; notes = a.notes.now; shares = a.shares.now; tape = a.tape.now; probes = a.probes.now; room = a.room }

-- what the checker tells of a table that it accepts
record Numbers (table notes : List ℕ) (a : Accepted) : Type 0 where
  passed : (checked table (length notes)).judgement ≡ pass
  of : Taken table notes
  wires_are : size (circuit_of table notes) ≡ a.wires
  randoms_are : a.randoms ≡ (circuit_of table notes).randoms
  shares_are : a.inputs * nth table 1 ≡ (circuit_of table notes).inputs * (circuit_of table notes).d

numbers : (v : In-Ok) → Numbers v.args.table.now v.args.notes.now v.in-Ok.field-0
numbers v =
    let table = v.args.table.now in
    let notes = v.args.notes.now in
    let k = circuit_of table notes in
    let (p, wires, randoms) = answer-pass k _ (sym (ap answer_of v.in-Ok.is) ∙ v.check-answer.ensures.answered) in
    let inputs = subst (λ (r : Result Accepted Refusal). InputsAre r k.inputs) v.in-Ok.is v.check-answer.ensures.inputs in
    let t = taken table notes p in
    record { passed = p; of = t; wires_are = sym wires; randoms_are = randoms; shares_are = ap₂ (λ x y. x * y) inputs t.d_is }

-- the same of the numbers that the code takes from the answer
module _ (v : In-Ok) {a : Accepted} (same : a ≡ v.in-Ok.field-0) where
  shares : a.inputs * nth v.args.table.now 1 ≡ (circuit_of v.args.table.now v.args.notes.now).inputs * (circuit_of v.args.table.now v.args.notes.now).d
  shares = ap (λ (x : Accepted). x.inputs * nth v.args.table.now 1) same ∙ (numbers v).shares_are

  randoms : a.randoms ≡ (circuit_of v.args.table.now v.args.notes.now).randoms
  randoms = ap (λ (x : Accepted). x.randoms) same ∙ (numbers v).randoms_are

  wires : size (circuit_of v.args.table.now v.args.notes.now) ≡ a.wires
  wires = (numbers v).wires_are ∙ sym (ap (λ (x : Accepted). x.wires) same)

pub returns-in_default : goal.returns-in_default
returns-in_default c =
    let a = c.args in
    let told = sym (ap answer_of c.in_default.is) ∙ c.check-answer.ensures.answered in
    record { answers = λ sheets h. ap answer_of c.in_default.is ∙ refused-first a.table.now a.notes.now a.shares.now a.tape.now sheets a.probes.now told; noted = c.check-answer.ensures.noted }

pub bounds-table-1 : goal.bounds-table-1
bounds-table-1 c = omega (arith, headed (numbers (goal.at.bounds-table-1 c).In-Ok).of.accepted)

pub overflow_mul-inputs : goal.overflow_mul-inputs
overflow_mul-inputs c = let v = (goal.at.overflow_mul-inputs c).In-Ok in omega (arith, shares v c.in-Ok.field-0-is, (numbers v).of.shares_few)

-- a refusal, or the answer, by the judgement that the call comes to
pub returns-then-shares-inputs : goal.returns-then-shares-inputs
returns-then-shares-inputs c =
    let v = (goal.at.returns-then-shares-inputs c).In-Ok in
    judged (call v) c.check-answer.ensures.noted c.refusal.ensures
    (breaks15 (call v) (from15 (call v) (numbers v).passed) (λ e. omega (arith, shares v c.in-Ok.field-0-is)))

pub returns-then-tape-randoms : goal.returns-then-tape-randoms
returns-then-tape-randoms c =
    let v = (goal.at.returns-then-tape-randoms c).In-Ok in
    judged (call v) c.check-answer.ensures.noted c.refusal-then-tape-randoms.ensures
    (breaks16 (call v) (at16 (call v) (numbers v).passed (omega (arith, shares v c.in-Ok.field-0-is))) (λ e. omega (arith, randoms v c.in-Ok.field-0-is)))

pub returns-then-room-lt-WIRES : goal.returns-then-room-lt-WIRES
returns-then-room-lt-WIRES c =
    let v = (goal.at.returns-then-room-lt-WIRES c).In-Ok in
    judged (call v) c.check-answer.ensures.noted c.refusal-then-room-lt-WIRES.ensures
    (breaks17 (call v) (at17 (call v) (numbers v).passed (omega (arith, shares v c.in-Ok.field-0-is)) (omega (arith, randoms v c.in-Ok.field-0-is))) (omega arith))

pub returns-in-Some : goal.returns-in-Some
returns-in-Some c =
    let v = (goal.at.returns-in-Some c).In-Ok in
    judged (call v) c.check-answer.ensures.noted c.refusal-in-Some.ensures
    (breaks_share (call v) c.first_over.ensures.judged (at18 (call v) (numbers v).passed (omega (arith, shares v c.in-Ok.field-0-is)) (omega (arith, randoms v c.in-Ok.field-0-is)) (omega arith)) c.in-Some.is)

pub returns-in-Some-first_over : goal.returns-in-Some-first_over
returns-in-Some-first_over c =
    let v = (goal.at.returns-in-Some-first_over c).In-Ok in
    let tape = from_tape (call v) c.first_over.ensures.judged (at18 (call v) (numbers v).passed (omega (arith, shares v c.in-Ok.field-0-is)) (omega (arith, randoms v c.in-Ok.field-0-is)) (omega arith)) c.in_default-first_over.is in
    judged (call v) c.check-answer.ensures.noted c.refusal-in-Some-first_over.ensures
    (breaks_tape (call v) c.first_over-2.ensures.judged tape c.in-Some-first_over.is)

pub returns-in-Some-first_missing : goal.returns-in-Some-first_missing
returns-in-Some-first_missing c =
    let v = (goal.at.returns-in-Some-first_missing c).In-Ok in
    let tape = from_tape (call v) c.first_over.ensures.judged (at18 (call v) (numbers v).passed (omega (arith, shares v c.in-Ok.field-0-is)) (omega (arith, randoms v c.in-Ok.field-0-is)) (omega arith)) c.in_default-first_over.is in
    let probes = from19 (call v) c.first_over-2.ensures.judged tape c.in_default-first_over-2.is in
    judged (call v) c.check-answer.ensures.noted c.refusal-in-Some-first_missing.ensures
    (breaks19 (call v) c.first_missing.ensures.judged (wires v c.in-Ok.field-0-is) probes c.in-Some-first_missing.is)

pub returns : goal.returns
returns c =
    let v = (goal.at.returns c).In-Ok in
    let tape = from_tape (call v) c.first_over.ensures.judged (at18 (call v) (numbers v).passed (omega (arith, shares v c.in-Ok.field-0-is)) (omega (arith, randoms v c.in-Ok.field-0-is)) (omega arith)) c.in_default-first_over.is in
    let probes = from19 (call v) c.first_over-2.ensures.judged tape c.in_default-first_over-2.is in
    let told = c.check-answer.ensures.answered ∙ ap (answer (circuit_of c.args.table.now c.args.notes.now)) (numbers v).passed in
    judged (call v) c.check-answer.ensures.noted told (passes (call v) c.first_missing.ensures.judged (wires v c.in-Ok.field-0-is) probes c.in_default-first_missing.is)
