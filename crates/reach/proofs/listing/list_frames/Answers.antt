-- The loop's invariant: the frames before the place are listed, and the shape is that of the kind.
use mathlib.Core.Path.{◌≡◌, refl, sym, ◌∙◌}
use Prim.Native.Nat.{◌+◌, ◌<◌}
use native.Mathlib.Omega.{arith}
use lib.ListN.{length}
use Rattle.circuit.specs.Lists.{nth}
use Rattle.circuit.specs.Kinds.{kind_of, pairs}
use Rattle.frames.specs.Walk.{shape_taking}
use Rattle.gadgets.proofs.Walking.{headed, given_bits}
use Rattle.reach.proofs.Listed.{Passes, listed_start, first-few, goes_on, passes, listed_next, listed_end}
use Rattle.reach.proofs.listing.list_frames.Goals as goal
use Rattle.reach.proofs.listing.list_frames.Goals.{Joined-table-at, then-table-at, else-table-at}

-- a turn's frame
given : (c : Joined-table-at) → c.random_bits-randoms.result ≡ pairs (nth c.args.table.now 1)
given c = given_bits c.requires.0 c.random_bits-randoms.ensures.0 refl

here : (c : Joined-table-at) → nth c.args.table.now c.loop-first.at ≡ c.if-table-at.kind
here c = elim c.if-table-at.branch [ then-table-at w ↦ sym w.kind-is | else-table-at w ↦ w.if-table-at.false ∙ sym w.kind-is ]

shaped : (c : Joined-table-at) → c.if-table-at.shape ≡ shape_taking c.random_bits-randoms.result (nth c.args.table.now 1) (kind_of c.if-table-at.kind)
shaped c = elim c.if-table-at.branch [
  | then-table-at w ↦ rw (w.shape-is, w.kind-is) w.decide-shape-then-table-at.ensures.shaped
  | else-table-at w ↦ rw (w.shape-is, w.kind-is) c.loop-first.invariant.1
]

decided : (c : Joined-table-at) → c.if-table-at.shape ≡ shape_taking c.random_bits-randoms.result (nth c.args.table.now 1) (kind_of (nth c.args.table.now c.loop-first.at))
decided c = rw (here c) (shaped c)

there : (c : Joined-table-at) → c.loop-first.at < length c.args.table.now
there c = goes_on c.loop-first.invariant.0 c.loop-first-test.true c.requires.1

bounds : (c : Joined-table-at) → let s = c.if-table-at.shape in Passes (length c.args.table.now) c.loop-first.at (c.loop-first.at + (1 + s.words)) c.loop-first.first s.wires c.loop-first.count
bounds c = passes c.loop-first.invariant.0 (there c) (given c) (decided c)

pub bounds-table-1 : goal.bounds-table-1
bounds-table-1 c = omega (arith, headed c.requires.0)

pub loop-first-init : goal.loop-first-init
loop-first-init c = (listed_start c.requires.0 _, c.decide-shape.ensures.shaped)

pub bounds-table-at : goal.bounds-table-at
bounds-table-at c = goes_on c.loop-first.invariant.0 c.loop-first-test.true c.requires.1

pub bounds-table-at-then-table-at : goal.bounds-table-at-then-table-at
bounds-table-at-then-table-at c = goes_on c.loop-first.invariant.0 c.loop-first-test.true c.requires.1

pub overflow_cast-list-in-loop-first : goal.overflow_cast-list-in-loop-first
overflow_cast-list-in-loop-first c = omega (arith, first-few c.loop-first.invariant.0)

pub overflow_add-at : goal.overflow_add-at
overflow_add-at c = let p = bounds (goal.at.overflow_add-at c).Joined-table-at in omega (arith, p.most, p.short)

pub overflow_add-at-in-loop-first : goal.overflow_add-at-in-loop-first
overflow_add-at-in-loop-first c = let p = bounds (goal.at.overflow_add-at-in-loop-first c).Joined-table-at in omega (arith, p.most, p.short)

pub overflow_add-first : goal.overflow_add-first
overflow_add-first c = omega (arith, (bounds (goal.at.overflow_add-first c).Joined-table-at).few)

pub loop-first-smaller : goal.loop-first-smaller
loop-first-smaller c = let p = bounds (goal.at.loop-first-smaller c).Joined-table-at in omega (arith, p.past, p.most)

pub loop-first-preserved : goal.loop-first-preserved
loop-first-preserved c =
    let j = (goal.at.loop-first-preserved c).Joined-table-at in
    let l = c.loop-first in
    let room : l.count < length l.list = omega (arith, (bounds j).room, c.requires.2, l.auto.list) in
    (listed_next l.invariant.0 (there j) (given j) (decided j) room, shaped j)

pub overflow_cast-list-3 : goal.overflow_cast-list-3
overflow_cast-list-3 c = omega (arith, first-few c.loop-first.invariant.0)

pub returns : goal.returns
returns c =
    let h = c.loop-first.invariant.0 in
    let e = listed_end h (omega (arith, h.spaced, h.between.most, c.requires.2, c.loop-first.auto.list)) _ refl in
    (e.0, omega (arith, e.1))
