-- The wires of two shares stand before the outputs.
use mathlib.Core.Path.{sym}
use native.Mathlib.Omega.{arith}
use Rattle.gadgets.proofs.Slots.{cross_room}
use Rattle.simulation.proofs.gadget.cross_other.Goals as goal

pub cross-requires : goal.cross-requires
cross-requires c = let (i, j, _) = c.requires in omega (arith, cross_room c.args.g.d c.args.g.first c.args.i c.args.j i j (λ e. c.if-i-j.false (sym e)))
