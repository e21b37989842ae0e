-- Each arm's callee ensures what the contract says of its frame.
use Rattle.clock.proofs.Frames.{in_runs, con_runs, xor_runs, not_runs, out_runs, reg_runs}
use Rattle.clock.proofs.running.run_frame.Goals as goal

pub returns-in-Gate-In : goal.returns-in-Gate-In
returns-in-Gate-In c =
    let is = rw c.in-Gate-In.is at c.in-Gate-In.field-0-is in
    rw (c.in-Gate-In.is, is) (in_runs c.copy.ensures)

pub returns-in-Gate-Con : goal.returns-in-Gate-Con
returns-in-Gate-Con c =
    let is = rw c.in-Gate-Con.is at c.in-Gate-Con.field-0-is in
    rw (c.in-Gate-Con.is, is) (con_runs c.constant.ensures)

pub returns-in-Gate-Xor : goal.returns-in-Gate-Xor
returns-in-Gate-Xor c =
    let is = rw c.in-Gate-Xor.is at c.in-Gate-Xor.field-0-is in
    rw (c.in-Gate-Xor.is, is) (xor_runs c.sum.ensures)

pub returns-in-Gate-Not : goal.returns-in-Gate-Not
returns-in-Gate-Not c =
    let is = rw c.in-Gate-Not.is at c.in-Gate-Not.field-0-is in
    rw (c.in-Gate-Not.is, is) (not_runs c.inverse.ensures)

pub returns-in-Gate-Reg : goal.returns-in-Gate-Reg
returns-in-Gate-Reg c =
    let is = rw c.in-Gate-Reg.is at c.in-Gate-Reg.field-0-is in
    rw (c.in-Gate-Reg.is, is) (reg_runs c.register.ensures)

pub returns-in-Gate-Out : goal.returns-in-Gate-Out
returns-in-Gate-Out c =
    let is = rw c.in-Gate-Out.is at c.in-Gate-Out.field-0-is in
    rw (c.in-Gate-Out.is, is) out_runs

pub returns-in-And : goal.returns-in-And
returns-in-And c = rw c.in-And.is (c.and.ensures _ _)

pub returns-in-Ref : goal.returns-in-Ref
returns-in-Ref c = rw c.in-Ref.is (c.refresh.ensures _ _)
