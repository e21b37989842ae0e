-- Two shares have a random bit.
use native.Mathlib.Omega.{arith}
use Rattle.gadgets.proofs.Slots.{mask_lt}
use Rattle.symbolic.proofs.gadget.mask.Goals as goal

pub bounds-tape-mask_at : goal.bounds-tape-mask_at
bounds-tape-mask_at c =
    let g = c.args.gadget in
    let p = c.requires in
    omega (arith, c.mask_at.ensures.0, mask_lt g.d g.used c.args.i c.args.j p.1 p.2 p.3, p.0.1)
