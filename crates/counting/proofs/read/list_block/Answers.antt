-- A wire more, marked or not.
use native.Mathlib.Omega.{arith}
use Rattle.counting.proofs.Marked.{none_marked, marked_few, lists_more}
use Rattle.counting.proofs.read.list_block.Goals as goal
use Rattle.counting.proofs.read.list_block.Goals.{then-marks-x-ne0, else-marks-x-ne0}

pub with-list-requires : goal.with-list-requires
with-list-requires c = let l = c.loop-x in (omega (arith, l.invariant.all, marked_few c.args.marks.now l.x), omega arith)

pub loop-x-preserved : goal.loop-x-preserved
loop-x-preserved c =
    let marks = c.args.marks.now in
    let l = c.loop-x in
    elim c.if-marks-x-ne0.branch [
      | then-marks-x-ne0 w ↦ rw w.list-is (lists_more marks l.x l.invariant (omega (arith, w.if-marks-x-ne0.true)) w.with-list.ensures.counted w.with-list.ensures.listed)
      | else-marks-x-ne0 w ↦ rw (w.list-is, none_marked marks l.x w.if-marks-x-ne0.false) l.invariant
    ]
