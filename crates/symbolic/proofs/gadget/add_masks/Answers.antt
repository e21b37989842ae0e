-- The loop's invariant: the random bits of the share i and each other below j are added.
use Rattle.simulation.proofs.Adding.{rest_itself, rest_turn}
use Rattle.symbolic.proofs.gadget.add_masks.Goals as goal
use Rattle.symbolic.proofs.gadget.add_masks.Goals.{then-j-i, else-j-i}

pub loop-j-preserved : goal.loop-j-preserved
loop-j-preserved c =
    let e = c.loop-j.invariant in
    let h = c.loop-j-test.true in
    elim c.if-j-i.branch [
      | then-j-i w ↦ rw (w.all-is, w.mask-all.ensures) (rest_turn _ _ _ _ _ e h w.if-j-i.true)
      | else-j-i w ↦ rw w.all-is (rest_itself _ _ _ _ _ e h w.if-j-i.false)
    ]
