-- Each arm's callee asks what the contract says of its frame.
use mathlib.Core.Path.{◌≡◌, sym, subst, ◌∙◌}
use Prim.Native.Nat.{◌+◌}
use native.Mathlib.Omega.{arith}
use Rattle.frames.specs.declared.walk.Frame.{Frame as FrameCode}
use Rattle.plain.specs.Internal.Tests.{gate_fits, frame_fits, RowsIn}
use Rattle.plain.proofs.sharing.fits.Goals as goal
use Rattle.plain.proofs.sharing.fits.Goals.{Start}

-- the words of a frame that is known
rows : (s : Start) {f : FrameCode} → s.args.frame ≡ f → RowsIn s.args.table.now s.args.at s.args.n f
rows s e = subst (RowsIn s.args.table.now s.args.at s.args.n) e s.requires.3

pub returns-in-In : goal.returns-in-In
unfolding gate_fits frame_fits
returns-in-In c = rw (c.in-Gate.is, c.in-In.is)

pub returns-in-Con : goal.returns-in-Con
unfolding gate_fits frame_fits
returns-in-Con c = rw (c.in-Gate.is, c.in-Con.is) c.labelled.ensures

pub returns-in-Xor : goal.returns-in-Xor
unfolding gate_fits frame_fits
returns-in-Xor c = rw (c.in-Gate.is, c.in-Xor.is) c.over_rows.ensures

pub returns-in-Not : goal.returns-in-Not
unfolding gate_fits frame_fits
returns-in-Not c = rw (c.in-Gate.is, c.in-Not.is) c.over_row.ensures

pub returns-in-Reg : goal.returns-in-Reg
unfolding gate_fits frame_fits
returns-in-Reg c = rw (c.in-Gate.is, c.in-Reg.is) c.over_row-in-Reg.ensures

pub returns-in-Out : goal.returns-in-Out
unfolding gate_fits frame_fits
returns-in-Out c = rw (c.in-Gate.is, c.in-Out.is) c.rises.ensures

pub returns-then-rises : goal.returns-then-rises
unfolding frame_fits
returns-then-rises c =
    let e : c.args.at + (2 + c.args.n) ≡ c.args.at + 2 + c.args.n = omega arith in
    rw (c.in-And.is, sym c.rises-in-And.ensures ∙ c.if-rises.true) (rw e at c.rises-then-rises.ensures)

pub returns-else-rises : goal.returns-else-rises
unfolding frame_fits
returns-else-rises c = rw (c.in-And.is, sym c.rises-in-And.ensures ∙ c.if-rises.false) c.if-rises.false

pub returns-in-Ref : goal.returns-in-Ref
unfolding frame_fits
returns-in-Ref c = rw c.in-Ref.is c.rises-in-Ref.ensures
