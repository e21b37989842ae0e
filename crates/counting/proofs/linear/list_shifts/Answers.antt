-- All of them.
use mathlib.Core.Path.{◌≡◌}
use native.Mathlib.Omega.{arith}
use lib.ListN.{length}
use Rattle.counting.proofs.Shifts.{shifts_all}
use Rattle.counting.proofs.linear.list_shifts.Goals as goal

pub returns : goal.returns
returns c = let e : c.loop-i.i ≡ length c.args.shifts.now = omega arith in shifts_all (rw e at c.loop-i.invariant)
