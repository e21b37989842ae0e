-- The call is judged; accepted, its values and its reading are written, refused, both are as found.
use mathlib.Core.List.{[], ◌∷◌}
use mathlib.Core.Path.{refl, ap}
use native.Mathlib.Omega.{arith}
use Rattle.circuit.specs.Circuit.{Circuit}
use Rattle.semantics.specs.Values.{bits, bytes, values_of}
use Rattle.semantics.specs.Probes.{reading_of}
use Rattle.secrecy.proofs.Accepted.{equal_counts}
use Rattle.checker.specs.declared.Accepted.{Accepted}
use Rattle.evaluation.proofs.Answering.{Passed, passed, left, evaluable, evaluated, holds, two_sheets}
use Rattle.evaluation.proofs.read_probes.Goals as goal
use Rattle.evaluation.proofs.read_probes.Goals.{In-Ok}

passes : (v : In-Ok) → let a = v.args in
    Passed a.table.now a.notes.now a.shares.now a.tape.now (a.values.now ∷ a.reading.now ∷ []) a.probes.now v.smaller-room.result v.in-Ok.field-0.wires
passes v = let a = v.args in passed v.judge-answer.ensures (a.values.now ∷ a.reading.now ∷ []) (two_sheets a.values.now a.reading.now _ v.smaller-room.ensures) v.in-Ok.is

pub returns-in_default : goal.returns-in_default
returns-in_default c =
    let j = c.judge-answer.ensures in
    let shorter = two_sheets c.args.values.now c.args.reading.now _ c.smaller-room.ensures in
    let same = left j _ shorter c.in_default.is in
    record {
      answered = j.answers _ shorter;
      noted = j.noted;
      valued = same _ _;
      shown = same _ _;
      secret = λ h. equal_counts _ _ h _;
    }

pub fill-requires : goal.fill-requires
fill-requires c = evaluable _ _ _ _ _ _ (passes (goal.at.fill-requires c).In-Ok) (omega arith)

pub reach_stops-requires : goal.reach_stops-requires
reach_stops-requires c =
    let p = passes (goal.at.reach_stops-requires c).In-Ok in
    record { accepted = p.of.accepted; made = λ x i. omega (arith, p.probed x i, p.wires_are); clear = refl; room = omega (arith, p.few, p.wires_are) }

pub show-requires : goal.show-requires
show-requires c =
    let p = passes (goal.at.show-requires c).In-Ok in
    let e = ap (λ (x : Accepted). x.wires) c.in-Ok.field-0-is in
    (omega (arith, e, p.few), omega (arith, p.roomy), omega (arith, p.roomy), λ x m. omega (arith, e, c.reach_stops.ensures.made x m, p.wires_are))

pub returns : goal.returns
returns c =
    let j = c.judge-answer.ensures in
    let a = c.args in
    let p = passes (goal.at.returns c).In-Ok in
    let new = evaluated _ _ _ _ _ _ p c.fill.ensures (omega arith) in
    let read = c.show.ensures.is _ _ (bits a.shares.now) (bits a.tape.now) _ c.reach_stops.ensures new in
    record {
      answered = j.answers _ (two_sheets a.values.now a.reading.now _ c.smaller-room.ensures);
      noted = j.noted;
      valued = holds _ _ _ _ _ _ p (λ (k : Circuit). bytes (values_of k.wires (bits a.shares.now) (bits a.tape.now))) a.values.now new;
      shown = holds _ _ _ _ _ _ p (λ (k : Circuit). reading_of k.wires a.probes.now (bits a.shares.now) (bits a.tape.now)) a.reading.now read;
      secret = λ h. equal_counts _ _ h _;
    }
