-- The step is judged, rule 18 of the bank last; accepted, values and bank are written, refused, both are as found.
use mathlib.Core.Path.{◌≡◌, sym, ap, ◌∙◌}
use mathlib.Core.List.{[], ◌∷◌}
use Prim.Native.Nat.{◌*◌, ◌≤◌}
use native.Mathlib.Omega.{arith}
use Rattle.std.proofs.Common.{rules}
use Rattle.std.specs.Prelude.{None}
use lib.ListN.{length}
use Rattle.circuit.specs.Limits.{wire_limit}
use Rattle.circuit.specs.Circuit.{Circuit}
use Rattle.circuit.specs.Answer.{answer}
use Rattle.semantics.specs.Calls.{circuit_of}
use Rattle.semantics.proofs.Pipeline.{pipelined}
use Rattle.semantics.proofs.Banks.{registers-alone, is_clock, bank_stays}
use Rattle.checker.specs.Answers.{answer_of}
use Rattle.evaluation.proofs.Answering.{Passed, passed, evaluable, two_sheets}
use Rattle.clock.proofs.Calling.{refused-before, left, over_at, over_within, passes_all, valued, banked}
use Rattle.clock.proofs.step.Goals as goal
use Rattle.clock.proofs.step.Goals.{In-Ok}

passes : (v : In-Ok) → let a = v.args in
    Passed a.table.now a.notes.now a.shares.now a.tape.now (a.values.now ∷ a.bank.now ∷ []) [] v.smaller-room.result v.in-Ok.field-0.wires
passes v = passed v.judge-answer.ensures (v.args.values.now ∷ v.args.bank.now ∷ []) (two_sheets _ _ _ v.smaller-room.ensures) v.in-Ok.is

pub returns-in_default : goal.returns-in_default
returns-in_default c =
    let a = c.args in
    let j = c.judge-answer.ensures in
    let e = refused-before _ _ _ _ a.values.now a.bank.now (sym (ap answer_of c.in_default.is) ∙ j.answers (a.values.now ∷ a.bank.now ∷ []) (two_sheets _ _ _ c.smaller-room.ensures)) in
    let same = left _ _ _ _ a.values.now a.bank.now e in
    record {
      answered = ap answer_of c.in_default.is ∙ e;
      noted = j.noted;
      valued = same _ _;
      banked = same _ _;
      pipelined = pipelined _ _;
      registers_alone = registers-alone _ _ _ _ _ _;
      is_clock = is_clock _ _ _;
      bank_stays = bank_stays _ _ _ _ _ _;
    }

pub first_register_over-requires : goal.first_register_over-requires
first_register_over-requires c =
    let p = passes (goal.at.first_register_over-requires c).In-Ok in
    rw c.in-Ok.is ((evaluable _ _ _ _ _ _ p (omega arith), omega (arith, p.wires_are, p.few, p.roomy)), p.wires_are, p.share_bits, p.tape_bits)

-- the numbers that are added for a refusal stay small
few : (v : In-Ok) → length v.args.shares.now ≤ wire_limit
few v = let p = passes v in omega (arith, p.shared, p.of.shares_few, ap (λ (k : Circuit). k.inputs * k.d) p.of.circuit_is)

pub overflow_add-shares : goal.overflow_add-shares
overflow_add-shares c = omega (arith, few (goal.at.overflow_add-shares c).In-Ok)

pub overflow_add-shares-in-Some : goal.overflow_add-shares-in-Some
overflow_add-shares-in-Some c =
    let i = (goal.at.overflow_add-shares-in-Some c).In-Ok in
    omega (arith, few i, (passes i).few, over_within _ _ _ _ c.args.values.now c.args.bank.now (passes i) c.first_register_over.ensures c.in-Some.is)

pub returns-in-Some : goal.returns-in-Some
returns-in-Some c =
    let a = c.args in
    let over = over_at _ _ _ _ a.values.now a.bank.now (passes (goal.at.returns-in-Some c).In-Ok) c.first_register_over.ensures c.in-Some.is in
    let e = sym (ap (answer (circuit_of a.table.now a.notes.now)) over) in
    let same = left _ _ _ _ a.values.now a.bank.now e in
    record {
      answered = c.refusal.ensures ∙ e;
      noted = c.judge-answer.ensures.noted;
      valued = same _ _;
      banked = same _ _;
      pipelined = pipelined _ _;
      registers_alone = registers-alone _ _ _ _ _ _;
      is_clock = is_clock _ _ _;
      bank_stays = bank_stays _ _ _ _ _ _;
    }

pub run-requires : goal.run-requires
run-requires c =
    let p = passes (goal.at.run-requires c).In-Ok in
    rw c.in-Ok.is ((evaluable _ _ _ _ _ _ p (omega arith), omega (arith, p.wires_are, p.few, p.roomy)), p.wires_are)

pub returns : goal.returns
returns c =
    let a = c.args in
    let j = c.judge-answer.ensures in
    let p = passes (goal.at.returns c).In-Ok in
    let none : c.first_register_over.result ≡ None = search rules in
    let all = passes_all _ _ _ _ a.values.now a.bank.now p c.first_register_over.ensures none in
    record {
      answered = j.answers (a.values.now ∷ a.bank.now ∷ []) (two_sheets _ _ _ c.smaller-room.ensures) ∙ ap (answer (circuit_of a.table.now a.notes.now)) (p.passes ∙ sym all);
      noted = j.noted;
      valued = valued _ _ _ _ _ _ p c.first_register_over.ensures none c.run.ensures;
      banked = banked _ _ _ _ _ _ p c.first_register_over.ensures none c.run.ensures;
      pipelined = pipelined _ _;
      registers_alone = registers-alone _ _ _ _ _ _;
      is_clock = is_clock _ _ _;
      bank_stays = bank_stays _ _ _ _ _ _;
    }
