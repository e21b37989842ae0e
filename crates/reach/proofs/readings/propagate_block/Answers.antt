-- The loop's invariant: the frames from the i-th on have moved their marks on.
use mathlib.Core.Path.{◌≡◌, refl, sym, ap, subst, ◌∙◌}
use Prim.Native.Nat.{ℕ, ◌-◌}
use native.Mathlib.Omega.{arith}
use Rattle.std.specs.Prelude.{Ok, Some, None}
use Rattle.std.proofs.Common.{rules}
use Rattle.circuit.specs.Kinds.{pairs}
use Rattle.circuit.specs.Lists.{nth}
use Rattle.frames.specs.Walk.{step_at}
use Rattle.frames.proofs.KindTable.{right_step}
use Rattle.gadgets.proofs.Walking.{headed, given_bits}
use Rattle.reach.specs.Internal.Listing.{start_of, first_of}
use Rattle.reach.specs.Internal.Marks.{Moves, GatesOf}
use Rattle.reach.proofs.Moved.{moves_none}
use Rattle.reach.proofs.Propagating.{no_end, no_refusal, found, top, within_all, moved-next}
use Rattle.reach.proofs.readings.propagate_block.Goals as goal
use Rattle.reach.proofs.readings.propagate_block.Goals.{After-step, In-Ok-Some}

-- the random bits that the step is given are those of a gadget
given : (c : After-step) → c.random_bits-randoms.result ≡ pairs (nth c.args.table.now 1)
given c = given_bits c.requires.0.accepted c.random_bits-randoms.ensures.0 refl

-- what the step answers
answer : (c : After-step) → let table = c.args.table.now in c.step.result ≡ step_at table (nth table 1) (start_of c.args.list.now (c.loop-i.i - 1))
answer c =
    let table = c.args.table.now in
    right_step table c.random_bits-randoms.result (nth table 1) (start_of c.args.list.now (c.loop-i.i - 1)) c.step.ensures (given c)

pub bounds-table-1 : goal.bounds-table-1
bounds-table-1 c = omega (arith, headed c.requires.0.accepted)

pub loop-i-init : goal.loop-i-init
loop-i-init c = (c.requires.1, moves_none _ _)

pub returns-in_default : goal.returns-in_default
returns-in_default c =
    let s = (goal.at.returns-in_default c).After-step in
    let none : c.in_default.field-0 ≡ None = search rules in
    absurd (no_end c.requires.0 {i = c.loop-i.i} (omega arith) (omega arith) (sym (answer s) ∙ c.in_default.is ∙ ap Ok none))

pub returns-in_default-2 : goal.returns-in_default-2
returns-in_default-2 c =
    let s = (goal.at.returns-in_default-2 c).After-step in
    absurd (no_refusal c.requires.0 {i = c.loop-i.i} (omega arith) (omega arith) (sym (answer s) ∙ c.in_default.is))

met : (c : In-Ok-Some) (s : After-step) → s.step.result ≡ Ok c.in-Ok-Some.field-0 → let a = s.args in
    step_at a.table.now (nth a.table.now 1) (start_of a.list.now (s.loop-i.i - 1)) ≡ Ok (Some c.in-Ok-Some.next)
met c s e = sym (answer s) ∙ e ∙ ap Ok c.in-Ok-Some.field-0-is

pub invariant_of-place : goal.invariant_of-place
invariant_of-place c =
    let s = (goal.at.invariant_of-place c).After-step in
    record { small = (found c.requires.0 {i = c.loop-i.i} (omega arith) (omega arith) (met (goal.at.invariant_of-place c).In-Ok-Some s c.in-Ok-Some.is)).small; paired = given s }

pub propagate_frame-requires : goal.propagate_frame-requires
propagate_frame-requires c =
    let p = c.requires in
    let e = met (goal.at.propagate_frame-requires c).In-Ok-Some (goal.at.propagate_frame-requires c).After-step c.in-Ok-Some.is in
    let i = c.loop-i.i in
    let f = found p.0 {i = i} (omega arith) (omega arith) e in
    let t = top p.0 {i = i} (omega arith) (omega arith) e in
    (omega (arith, t, within_all p.0 {i = i} (omega arith), p.3), rw c.operands.ensures f.early)

pub loop-i-preserved : goal.loop-i-preserved
loop-i-preserved c =
    let (least, moves) = c.loop-i.invariant in
    let e = met (goal.at.loop-i-preserved c).In-Ok-Some (goal.at.loop-i-preserved c).After-step c.in-Ok-Some.is in
    (omega arith, moved-next c.requires.0 {i = c.loop-i.i} (omega arith) (omega arith) e (omega arith) (omega arith) moves (rw c.operands.ensures at c.propagate_frame.ensures))

pub returns : goal.returns
returns c = let a = c.args in let e : c.loop-i.i ≡ a.from = omega arith in
    subst (λ (n : ℕ). Moves (GatesOf a.table.now) (first_of a.list.now n) (first_of a.list.now a.to) a.marks.now c.loop-i.marks) e c.loop-i.invariant.1
