-- Each arm's callee ensures what the contract says of its frame.
use Rattle.simulation.proofs.values.write_frame.Goals as goal

pub returns-in-Gate-In : goal.returns-in-Gate-In
returns-in-Gate-In c =
    let is = rw c.in-Gate-In.is at c.in-Gate-In.field-0-is in
    rw (c.in-Gate-In.is, is) c.copy.ensures

pub returns-in-Gate-Con : goal.returns-in-Gate-Con
returns-in-Gate-Con c =
    let is = rw c.in-Gate-Con.is at c.in-Gate-Con.field-0-is in
    rw (c.in-Gate-Con.is, is) c.constant.ensures

pub returns-in-Ref : goal.returns-in-Ref
returns-in-Ref c = rw c.in-Ref.is c.refresh.ensures
