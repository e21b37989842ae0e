-- Each turn passes a frame or answers.
use mathlib.Core.Path.{◌≡◌, sym, ap, ◌∙◌}
use Rattle.std.specs.Prelude.{Some, Ok, Err}
use Rattle.std.proofs.lemmas.Result.{err_from_is_err_and}
use Rattle.circuit.specs.Refusals.{refusal}
use Rattle.frames.specs.Walk.{step_at}
use Rattle.checker.proofs.Mapped.{was_ok, was_err}
use Rattle.checker.proofs.Checking.{start}
use Rattle.checker.proofs.Ways.{stepped, way_end, way_refused, frame_of, way_broken, turn, bounded}
use Rattle.checker.proofs.check_frames.Goals as goal
use Rattle.checker.proofs.check_frames.Goals.{After-operands-ops}

-- a whole frame stands at the walk's place
met : (c : After-operands-ops) → Ok (Some c.in-Some.next) ≡ step_at c.args.table.now c.loop-next.walk.d c.loop-next.walk.at
met c = sym (was_ok _ c.step.result c.map_err.result c.map_err.ensures.cases (c.in_ok-next.was ∙ ap Ok c.in-Some.is)) ∙ stepped c.loop-next.invariant c.random_bits-randoms.ensures.0 c.step.ensures

pub loop-next-init : goal.loop-next-init
loop-next-init c = rw c.head_alone-tally.ensures (start c.args.table.now c.args.notes.now c.requires)

pub returns-in_err-next : goal.returns-in_err-next
returns-in_err-next c =
    let w = c.loop-next.invariant in
    let (rule, was, is) = was_err _ c.step.result c.map_err.result c.map_err.ensures.cases c.in_err-next.was in
    let e = err_from_is_err_and c.from_residual.result c.from_residual.ensures.1 in
    let same : c.from_residual.result ≡ Err (refusal rule c.loop-next.tally.frames 0) = cc in
    let p = way_refused w rule (sym was ∙ stepped w c.random_bits-randoms.ensures.0 c.step.ensures) in
    rw same (record { answered = p.0; noted = p.1.0; inputs = p.1.1 })

pub add-requires : goal.add-requires
add-requires c = let w = c.loop-next.invariant in (bounded w, frame_of w (met (goal.at.add-requires c).After-operands-ops) c.operands-ops.result.now c.operands-ops.ensures)

pub loop-next-preserved : goal.loop-next-preserved
loop-next-preserved c =
    turn c.loop-next.invariant (met (goal.at.loop-next-preserved c).After-operands-ops) c.operands-ops.result.now c.operands-ops.ensures _ c.add.result c.add.ensures _
    (was_ok _ c.add.result c.map_err-in-Some.result c.map_err-in-Some.ensures.cases c.in_ok-tally.was)

pub returns-in_err-tally : goal.returns-in_err-tally
returns-in_err-tally c =
    let w = c.loop-next.invariant in
    let (spot, was, is) = was_err _ c.add.result c.map_err-in-Some.result c.map_err-in-Some.ensures.cases c.in_err-tally.was in
    let e = err_from_is_err_and c.from_residual-in_err-tally.result c.from_residual-in_err-tally.ensures.1 in
    let same : c.from_residual-in_err-tally.result ≡ Err (refusal spot.rule c.loop-next.tally.frames spot.word) = cc in
    let p = way_broken w (met (goal.at.returns-in_err-tally c).After-operands-ops) c.operands-ops.result.now c.operands-ops.ensures _ c.add.result c.add.ensures spot was in
    rw same (record { answered = p.0; noted = p.1.0; inputs = p.1.1 })

pub returns : goal.returns
returns c =
    let w = c.loop-next.invariant in
    let was = was_ok _ c.step.result c.map_err.result c.map_err.ensures.cases (c.in_ok-next.was ∙ ap Ok c.in_default.is) in
    let p = way_end w (sym was ∙ stepped w c.random_bits-randoms.ensures.0 c.step.ensures) in
    rw c.answer.ensures (record { answered = p.0; noted = p.1.0; inputs = p.1.1 })
