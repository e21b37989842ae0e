-- The loop's invariant: no register before x has a byte over 1. The clock on buffers of its own has marked the registers.
use mathlib.Core.Path.{◌≡◌, ◌∙◌}
use Prim.Native.Nat.{ℕ}
use native.Mathlib.Omega.{arith}
use Rattle.std.proofs.Common.{below_more}
use lib.ListN.{get_or-replicate}
use Rattle.circuit.specs.Limits.{wire_limit}
use Rattle.circuit.specs.Lists.{nth}
use Rattle.circuit.proofs.Exact.{accepted-size}
use Rattle.semantics.specs.Clock.{register_bytes}
use Rattle.semantics.proofs.Clocked.{register_length}
use Rattle.clock.specs.Internal.Whole.{wires_of}
use Rattle.evaluation.proofs.Refusals.{none_over}
use Rattle.clock.proofs.Whole.{mark_byte, first_at}
use Rattle.clock.proofs.running.search_registers.Goals as goal
use Rattle.clock.proofs.running.search_registers.Goals.{After-register_byte}

-- the byte that a turn looks at is the register's
looked : (c : After-register_byte) → c.register_byte.result ≡ nth (register_bytes (wires_of c.args.table.now) c.args.bank.now) c.loop-x.x
looked c =
    let few = accepted-size c.requires.0.0.accepted in
    c.register_byte.ensures ∙ mark_byte c.run_frames.ensures
    (record { share_bits = c.requires.2; tape_bits = c.requires.3; shown_bits = λ x l b. omega (arith, get_or-replicate {A = ℕ} wire_limit x 0 0 (omega arith)) })
    (λ x l. omega (arith, get_or-replicate {A = ℕ} wire_limit x 2 0 (omega arith))) c.args.bank.now c.loop-x.x (omega (arith, c.requires.1))

pub run_frames-requires : goal.run_frames-requires
run_frames-requires c =
    let e = c.requires.0.0 in
    let few = accepted-size e.accepted in
    (record { accepted = e.accepted; shared = e.shared; drawn = e.drawn; roomy = few }, few)

pub bounds-marks-x : goal.bounds-marks-x
bounds-marks-x c = omega (arith, c.requires.1, accepted-size c.requires.0.0.accepted)

pub loop-x-preserved : goal.loop-x-preserved
loop-x-preserved c = below_more _ _ c.loop-x.invariant (omega (arith, looked (goal.at.loop-x-preserved c).After-register_byte, c.if-register_byte-gt1.false))

pub returns-then-register_byte-gt1 : goal.returns-then-register_byte-gt1
returns-then-register_byte-gt1 c =
    let regs = register_bytes (wires_of c.args.table.now) c.args.bank.now in
    let count = register_length (wires_of c.args.table.now) c.args.bank.now in
    first_at regs c.loop-x.x (omega (arith, count, c.requires.1)) (omega (arith, looked (goal.at.returns-then-register_byte-gt1 c).After-register_byte, c.if-register_byte-gt1.true)) c.loop-x.invariant

pub returns : goal.returns
returns c = none_over _ (λ k l. c.loop-x.invariant k (omega (arith, register_length (wires_of c.args.table.now) c.args.bank.now, c.requires.1)))
