-- The call is judged; accepted, its values are filled in, refused, they are as found.
use mathlib.Core.List.{[], ◌∷◌}
use native.Mathlib.Omega.{arith}
use lib.ListN.{length}
use Rattle.circuit.specs.Circuit.{Circuit}
use Rattle.semantics.specs.Values.{bits, bytes, values_of}
use Rattle.secrecy.proofs.Accepted.{gadgets_compute}
use Rattle.evaluation.proofs.Answering.{Passed, passed, left, evaluable, evaluated, holds, one-sheet}
use Rattle.evaluation.proofs.evaluate.Goals as goal
use Rattle.evaluation.proofs.evaluate.Goals.{In-Ok}

passes : (v : In-Ok) → let a = v.args in Passed a.table.now a.notes.now a.shares.now a.tape.now (a.values.now ∷ []) [] (length a.values.now) v.in-Ok.field-0.wires
passes v = passed v.judge-answer.ensures _ (one-sheet v.args.values.now) v.in-Ok.is

pub returns-in_default : goal.returns-in_default
returns-in_default c =
    let j = c.judge-answer.ensures in
    let s = one-sheet c.args.values.now in
    record {
      answered = j.answers _ s;
      noted = j.noted;
      valued = left j _ s c.in_default.is _ _;
      computes = λ h. gadgets_compute _ _ h _ _;
    }

pub fill-requires : goal.fill-requires
fill-requires c = evaluable _ _ _ _ _ _ (passes (goal.at.fill-requires c).In-Ok) (omega arith)

pub returns : goal.returns
returns c =
    let j = c.judge-answer.ensures in
    let a = c.args in
    let p = passes (goal.at.returns c).In-Ok in
    let new = evaluated _ _ _ _ _ _ p c.fill.ensures (omega arith) in
    record {
      answered = j.answers _ (one-sheet a.values.now);
      noted = j.noted;
      valued = holds _ _ _ _ _ _ p (λ (k : Circuit). bytes (values_of k.wires (bits a.shares.now) (bits a.tape.now))) a.values.now new;
      computes = λ h. gadgets_compute _ _ h _ _;
    }
