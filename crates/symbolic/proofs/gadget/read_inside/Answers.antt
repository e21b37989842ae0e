-- The loop's invariant: the wires below a place of the list are written.
use native.Mathlib.Omega.{arith}
use Rattle.symbolic.proofs.Reading.{reads-next, reads_end}
use Rattle.symbolic.proofs.gadget.read_inside.Goals as goal

pub loop-n-preserved : goal.loop-n-preserved
loop-n-preserved c =
    let p = c.requires in
    rw (c.read_one.ensures.0, c.read_one.ensures.1) (reads-next c.loop-n.invariant p.0 (p.1.1 _ c.loop-n-test.true) (omega (arith, p.1.0, c.loop-n-test.true)))

pub returns : goal.returns
returns c = reads_end c.loop-n.invariant (omega (arith, c.loop-n.auto.n-end, c.loop-n-test.false))
