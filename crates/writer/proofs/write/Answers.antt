-- The call ends in one of three ways, each a judgement; what it promises follows from that judgement.
use mathlib.Core.Path.{refl, sym, ap}
use native.Mathlib.Omega.{arith}
use Rattle.std.proofs.lemmas.Result.{err_from_is_err_and}
use Rattle.circuit.proofs.Exact.{sound}
use Rattle.gadgets.proofs.Walking.{least-notes}
use Rattle.text.specs.Answer.{accepted}
use Rattle.writer.proofs.ReadingBack.{reads_back}
use Rattle.writer.proofs.OnlyText.{only_text}
use Rattle.writer.proofs.Calling.{text_length, short, fits, stops, passes, answered_as, written_as}
use Rattle.writer.proofs.write.Goals as goal

pub returns-in_err-check : goal.returns-in_err-check
returns-in_err-check c =
    let table = c.args.table.now in
    let stopped = stops table c.args.notes.now c.args.text.now c.in_err-check.ensures.answered in
    let p = err_from_is_err_and c.from_residual.result c.from_residual.ensures.1 in
    record {
      answered = rw (p.1, p.2) (answered_as table c.args.notes.now c.args.text.now stopped refl);
      noted = c.check.ensures.noted;
      written = written_as table c.args.notes.now c.args.text.now stopped refl;
      reads_back = λ h. reads_back (λ i. omega (arith, c.type_inv.table i)) (sound table _ h);
      only_text = only_text table;
    }

pub overflow_mul-bytes : goal.overflow_mul-bytes
overflow_mul-bytes c = omega (arith, (sound _ _ (passes c.args.table.now c.args.notes.now c.args.text.now c.in_ok-check.ensures.answered)).short)

pub write_text-requires : goal.write_text-requires
write_text-requires c = (least-notes (sound _ _ (passes c.args.table.now c.args.notes.now c.args.text.now c.in_ok-check.ensures.answered)), omega arith)

pub returns-then-text-bytes : goal.returns-then-text-bytes
returns-then-text-bytes c =
    let table = c.args.table.now in
    let passed = passes table c.args.notes.now c.args.text.now c.in_ok-check.ensures.answered in
    let shorter = short table c.args.notes.now c.args.text.now passed c.if-text-bytes.true in
    record {
      answered = answered_as table c.args.notes.now c.args.text.now shorter (rw c.of_call.ensures);
      noted = c.check.ensures.noted;
      written = written_as table c.args.notes.now c.args.text.now shorter refl;
      reads_back = λ h. reads_back (λ i. omega (arith, c.type_inv.table i)) (sound table _ h);
      only_text = only_text table;
    }

pub returns : goal.returns
returns c =
    let table = c.args.table.now in
    let passed = passes table c.args.notes.now c.args.text.now c.in_ok-check.ensures.answered in
    let fitting = fits table c.args.notes.now c.args.text.now passed c.if-text-bytes.false in
    record {
      answered = answered_as table c.args.notes.now c.args.text.now fitting (ap accepted (sym (text_length table)));
      noted = c.check.ensures.noted;
      written = written_as table c.args.notes.now c.args.text.now fitting c.write_text.ensures;
      reads_back = λ h. reads_back (λ i. omega (arith, c.type_inv.table i)) (sound table _ h);
      only_text = only_text table;
    }
