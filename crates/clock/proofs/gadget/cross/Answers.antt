-- Six wires, one after the other.
use Rattle.clock.proofs.Crossing.{crosses}
use Rattle.clock.proofs.gadget.cross.Goals as goal

pub returns : goal.returns
returns c =
    let a = c.args in
    crosses a.values.now a.bank.now a.at a.a a.b a.r a.shown _ _ _ c.u-u.ensures c.v-v.ensures c.w-w.ensures c.requires.0 c.requires.1
