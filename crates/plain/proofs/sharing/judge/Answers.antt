-- The loop's invariant: the frames before the walk's place are in sharings, and the table's judgement is that of the frames left.
use mathlib.Core.Path.{◌≡◌, refl, sym, ap, ◌∙◌}
use native.Mathlib.Omega.{arith}
use Rattle.std.specs.Prelude.{Option, None, Result, Ok}
use Rattle.std.proofs.Common.{rules}
use Rattle.circuit.specs.Lists.{nth}
use Rattle.circuit.specs.declared.rules.Rule.{Rule}
use Rattle.frames.specs.declared.walk.Next.{Next}
use Rattle.frames.proofs.KindTable.{right_step}
use Rattle.frames.specs.Walk.{step_at}
use Rattle.gadgets.proofs.Walking.{second_word, given_bits}
use Rattle.plain.proofs.Walked.{whole_start, Turn, Meets, turn}
use Rattle.plain.proofs.sharing.judge.Goals as goal
use Rattle.plain.proofs.sharing.judge.Goals.{After-step, In-Ok-Some, After-fits}

-- what the step answers
found : (c : After-step) {s : Result (Option Next) Rule} → c.step.result ≡ s → Meets c.loop-next.invariant.1 c.requires.1 (nth c.args.table.now 1) s
found c e =
    let table = c.args.table.now in
    let l = c.loop-next in
    let given = given_bits c.requires.0 c.random_bits-randoms.ensures.0 l.invariant.0 in
    let answer = right_step table c.random_bits-randoms.result l.walk.d l.walk.at c.step.ensures given ∙ ap (λ d. step_at table d l.walk.at) l.invariant.0 in
    turn l.invariant.1 c.requires.1 refl (sym answer ∙ e)

met : (c : In-Ok-Some) (s : After-step) → s.step.result ≡ Ok c.in-Ok-Some.field-0 → let n = c.in-Ok-Some.next in
    Turn s.loop-next.invariant.1 s.requires.1 (nth s.args.table.now 1) n.frame n.shape n.walk
met c s e = found s (e ∙ ap Ok c.in-Ok-Some.field-0-is)

pub loop-next-init : goal.loop-next-init
loop-next-init c = (refl, whole_start c.requires.0)

pub fits-requires : goal.fits-requires
fits-requires c =
    let t = met (goal.at.fits-requires c).In-Ok-Some (goal.at.fits-requires c).After-step c.in-Ok-Some.is in
    let a = c.requires.0 in
    (omega (arith, t.inside), omega (arith, second_word a, a.most), omega (arith, second_word a, a.least), t.rows)

pub returns-then-not-fits : goal.returns-then-not-fits
returns-then-not-fits c =
    let t = met (goal.at.returns-then-not-fits c).In-Ok-Some (goal.at.returns-then-not-fits c).After-step c.in-Ok-Some.is in
    t.wrong (sym c.fits.ensures ∙ c.if-not-fits.true)

pub loop-next-preserved : goal.loop-next-preserved
loop-next-preserved c =
    let t = met (goal.at.loop-next-preserved c).In-Ok-Some (goal.at.loop-next-preserved c).After-step c.in-Ok-Some.is in
    (refl, rw c.frames_further-further.ensures (t.right (sym c.fits.ensures ∙ c.if-not-fits.false)).next)

pub returns-in_default : goal.returns-in_default
returns-in_default c =
    let none : c.in_default.field-0 ≡ None = search rules in
    found (goal.at.returns-in_default c).After-step (c.in_default.is ∙ ap Ok none)

pub returns-in_default-2 : goal.returns-in_default-2
returns-in_default-2 c = absurd (found (goal.at.returns-in_default-2 c).After-step c.in_default.is)
