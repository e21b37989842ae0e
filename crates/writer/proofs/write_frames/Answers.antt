-- The loop's invariant: the lines of the frames before the walk's place are written.
use mathlib.Core.Path.{◌≡◌, refl, sym, ap, ◌∙◌}
use Prim.Native.Nat.{◌*◌}
use native.Mathlib.Omega.{arith}
use Rattle.std.specs.Prelude.{Option, None, Result, Ok}
use Rattle.std.proofs.Common.{rules}
use Rattle.circuit.specs.Lists.{nth}
use Rattle.circuit.specs.Circuit.{size}
use Rattle.circuit.specs.declared.rules.Rule.{Rule}
use Rattle.frames.specs.declared.walk.Next.{Next}
use Rattle.frames.proofs.KindTable.{right_step}
use Rattle.frames.specs.Walk.{step_at}
use Rattle.gadgets.proofs.Walking.{second_word, given_bits, so_far, Met, Answers, step_answers}
use Rattle.writer.proofs.Writing.{lines_start, lines_next, lines_done}
use Rattle.writer.proofs.write_frames.Goals as goal
use Rattle.writer.proofs.write_frames.Goals.{After-step, In-Ok-Some}

-- what the step answers
answered : (c : After-step) {s : Result (Option Next) Rule} → c.step.result ≡ s → let h = c.loop-next.invariant.1 in let k = so_far h.accepted h.between in
    Answers h.accepted h.between (nth c.args.table.now 1) (size k) (k.inputs * h.accepted.d) s
answered c e =
    let l = c.loop-next in
    let h = l.invariant.1 in
    let table = c.args.table.now in
    let answer = right_step table c.random_bits-randoms.result l.walk.d l.walk.at c.step.ensures (given_bits c.requires.0 c.random_bits-randoms.ensures.0 l.invariant.0) in
    step_answers h.accepted h.between (second_word h.accepted) refl refl (ap (λ n. step_at table n l.walk.at) (sym l.invariant.0) ∙ sym answer ∙ e)

met : (c : In-Ok-Some) (s : After-step) → s.step.result ≡ Ok c.in-Ok-Some.field-0 → let h = s.loop-next.invariant.1 in let k = so_far h.accepted h.between in let n = c.in-Ok-Some.next in
    Met h.accepted h.between (nth s.args.table.now 1) (size k) (k.inputs * h.accepted.d) n.frame n.shape n.walk
met c s e = answered s (e ∙ ap Ok c.in-Ok-Some.field-0-is)

pub loop-next-init : goal.loop-next-init
loop-next-init c = (refl, lines_start _ c.requires.0)

pub write_words-requires : goal.write_words-requires
write_words-requires c =
    let m = met (goal.at.write_words-requires c).In-Ok-Some (goal.at.write_words-requires c).After-step c.in-Ok-Some.is in
    (m.later, m.onward.most, omega (arith, m.onward.most, c.requires.1))

pub loop-next-preserved : goal.loop-next-preserved
loop-next-preserved c =
    let m = met (goal.at.loop-next-preserved c).In-Ok-Some (goal.at.loop-next-preserved c).After-step c.in-Ok-Some.is in
    (m.same, lines_next c.loop-next.invariant.1 m c.write_words.ensures c.end_line.ensures)

pub returns-in_default : goal.returns-in_default
returns-in_default c =
    let none : c.in_default.field-0 ≡ None = search rules in
    lines_done c.loop-next.invariant.1 (answered (goal.at.returns-in_default c).After-step (c.in_default.is ∙ ap Ok none))

pub returns-in_default-2 : goal.returns-in_default-2
returns-in_default-2 c = absurd (answered (goal.at.returns-in_default-2 c).After-step c.in_default.is)
