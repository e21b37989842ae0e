-- The loop's invariant: the marks of the rows from i on are moved on.
use mathlib.Core.Path.{refl, ap}
use Prim.Native.Nat.{◌+◌, ◌-◌}
use native.Mathlib.Omega.{arith}
use Rattle.gadgets.specs.Internal.Places.{word_a, word_b, cross_start}
use Rattle.reach.proofs.Moved.{moves_none, moves_at, rows_moved, below-is}
use Rattle.reach.proofs.reach.propagate_rows.Goals as goal

pub loop-i-init : goal.loop-i-init
loop-i-init c = moves_none _ _

pub propagate_row-requires : goal.propagate_row-requires
propagate_row-requires c = (omega arith, c.requires.1, omega arith, omega arith, omega arith, λ j l u e. omega arith)

pub propagate_row-requires-in-loop-i : goal.propagate_row-requires-in-loop-i
propagate_row-requires-in-loop-i c = (omega arith, c.requires.1, omega arith, omega arith, omega arith, λ j l u e. omega arith)

pub loop-i-preserved : goal.loop-i-preserved
loop-i-preserved c =
    let l = c.loop-i in
    let g = c.args.gadget in
    let ops = c.args.ops.now in
    rows_moved g.d g.first (word_a ops) (word_b g.d ops) (l.i - 1) (omega arith) (omega arith) l.invariant c.propagate_row.ensures c.propagate_row-in-loop-i.ensures

pub returns : goal.returns
returns c = let g = c.args.gadget in moves_at (ap (λ n. g.first + cross_start g.d n) (below-is _ 0 (omega arith) c.loop-i-test.false)) refl c.loop-i.invariant
