-- The loops' invariant: writing all bytes comes to writing those from wire x on. From `wires` on no wire is marked, so each is 2.
use mathlib.Core.Path.{◌≡◌, subst}
use native.Mathlib.Omega.{arith}
use Rattle.reach.proofs.Showing.{ShownTo, shown-next, shown_end, unmarked}
use Rattle.reach.proofs.readings.show.Goals as goal
use Rattle.reach.proofs.readings.show.Goals.{At-loop-x-2}

-- both loops together
shown : (c : At-loop-x-2) → ShownTo c.args.marks.now c.args.values.now c.args.reading.now c.loop-x-2.reading c.loop-x-2.x
shown c = let e : c.loop-x.x ≡ c.args.wires = omega arith in c.loop-x-2.invariant.1 _ (subst (ShownTo c.args.marks.now c.args.values.now c.args.reading.now c.loop-x.reading) e c.loop-x.invariant)

pub loop-x-preserved : goal.loop-x-preserved
loop-x-preserved c = shown-next _ _ c.loop-x.invariant (omega arith) c.shown.ensures

pub loop-x-2-init : goal.loop-x-2-init
loop-x-2-init c = (omega arith, λ old s. s)

pub loop-x-2-preserved : goal.loop-x-2-preserved
loop-x-2-preserved c =
    let l = c.loop-x-2 in
    (omega arith, λ old t. shown-next _ _ (l.invariant.1 old t) (omega arith) (unmarked c.args.marks.now c.args.values.now {x = l.x} c.requires.3 l.invariant.0))

pub returns : goal.returns
returns c = shown_end _ _ (shown (goal.at.returns c).At-loop-x-2) (omega arith) c.requires.2
