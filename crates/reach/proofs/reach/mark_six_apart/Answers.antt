-- The loop's invariant: marking all wires comes to marking those that are left.
use Rattle.reach.proofs.Moved.{six_apart_turn, six_apart_end}
use Rattle.reach.proofs.reach.mark_six_apart.Goals as goal

pub loop-k-preserved : goal.loop-k-preserved
loop-k-preserved c = rw (six_apart_turn c.args.from c.args.count c.loop-k.k c.loop-k-test.true) at c.loop-k.invariant

pub returns : goal.returns
returns c = rw (six_apart_end c.args.from c.args.count c.loop-k.k c.loop-k-test.false) at c.loop-k.invariant
