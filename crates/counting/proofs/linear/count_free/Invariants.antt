-- The loop's invariant: so many of the free bits before one are among the variables.
use mathlib.Core.Path.{◌≡◌}
use Rattle.counting.specs.Internal.Linear.{varied_in}
use Rattle.counting.proofs.Placed.{rank_in}
use Rattle.counting.proofs.linear.count_free.Given as goal

abbrev pub invariant-loop-i : goal.invariant-loop-i
invariant-loop-i l = l.count ≡ rank_in (varied_in l.variables l.free) l.i
