-- A count more.
use native.Mathlib.Omega.{arith}
use Rattle.counting.proofs.Shifting.{paired_next}
use Rattle.counting.proofs.linear.add_shifted.Goals as goal

pub loop-n-preserved : goal.loop-n-preserved
loop-n-preserved c =
    let p = c.requires in
    rw c.add_pair.ensures (paired_next _ _ _ c.loop-n.invariant (omega arith) p.1 (p.2 c.loop-n.n (omega arith)).0 (omega arith))
