-- The loop's invariant: the sums below j are added.
use Rattle.circuit.specs.Lists.{nth}
use Rattle.gadgets.specs.Internal.Places.{word_b}
use Rattle.simulation.proofs.Adding.{adds_turn, adds_end}
use Rattle.symbolic.proofs.gadget.add_row.Goals as goal

pub loop-j-preserved : goal.loop-j-preserved
loop-j-preserved c =
    let s = c.args in
    rw c.share_b-all.ensures (adds_turn c.loop-j.all (λ i. nth s.sums.now (word_b s.d s.ops.now i)) s.d c.loop-j.j c.loop-j.invariant c.loop-j-test.true)

pub returns : goal.returns
returns c = let s = c.args in adds_end c.loop-j.all (λ i. nth s.sums.now (word_b s.d s.ops.now i)) s.d c.loop-j.j c.loop-j.invariant c.loop-j-test.false
