-- The loop's invariant: the marks of the outputs from i on are moved on.
use mathlib.Core.Path.{refl}
use Prim.Native.Nat.{◌-◌}
use native.Mathlib.Omega.{arith}
use Rattle.reach.proofs.Moved.{moves_none, moves_at, outs-moved}
use Rattle.reach.proofs.reach.propagate_outputs.Goals as goal

pub loop-i-init : goal.loop-i-init
loop-i-init c = moves_none _ _

pub loop-i-preserved : goal.loop-i-preserved
loop-i-preserved c =
    let l = c.loop-i in
    let g = c.args.gadget in
    outs-moved g.d g.first (l.i - 1) (omega arith) (omega arith) l.invariant c.propagate_output.ensures

pub returns : goal.returns
returns c = moves_at (omega arith) refl c.loop-i.invariant
