-- The marks of w, v and u go on one after the other.
use Rattle.reach.proofs.Moved.{cross_moved}
use Rattle.reach.proofs.reach.propagate_cross.Goals as goal

pub returns : goal.returns
returns c =
    let a = c.args in
    cross_moved a.at a.a a.b a.r a.marks.now c.propagate.ensures c.propagate-2.ensures c.propagate-3.ensures
