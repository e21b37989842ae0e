-- The loop's invariant: the marks of the sums from i on are moved on.
use mathlib.Core.Path.{refl}
use Prim.Native.Nat.{◌-◌}
use native.Mathlib.Omega.{arith}
use Rattle.gadgets.specs.Internal.Places.{word_a}
use Rattle.reach.proofs.Moved.{moves_then, moves_at, sums_moved, held_moved, drawn-moved}
use Rattle.reach.proofs.reach.propagate_refresh.Goals as goal

pub loop-i-init : goal.loop-i-init
loop-i-init c = let g = c.args.gadget in held_moved g.d g.first (word_a c.args.ops.now) c.args.marks.now

pub propagate_sum-requires : goal.propagate_sum-requires
propagate_sum-requires c = let l = c.loop-i in
    omega (arith, c.requires.0, c.requires.1.1 (l.i - 1) (omega arith), c.word_a.ensures, l.invariant.size)

pub loop-i-preserved : goal.loop-i-preserved
loop-i-preserved c =
    let l = c.loop-i in
    let g = c.args.gadget in
    sums_moved g.d g.first (word_a c.args.ops.now) (l.i - 1) (omega arith) (omega arith) l.invariant _ c.word_a.ensures c.propagate_sum.ensures (omega arith)

pub returns : goal.returns
returns c = let g = c.args.gadget in moves_then (omega arith) (moves_at (omega arith) refl c.loop-i.invariant) (drawn-moved g.d g.first _ _)
