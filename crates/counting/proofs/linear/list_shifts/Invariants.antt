-- The loop's invariant: the numbers of the free bits up to one are written.
use lib.ListN.{length}
use Rattle.counting.specs.Internal.Linear.{shift_in}
use Rattle.counting.proofs.Filling.{GivenTo}
use Rattle.counting.proofs.linear.list_shifts.Given as goal

abbrev pub invariant-loop-i : goal.invariant-loop-i
invariant-loop-i l = GivenTo (shift_in l.sums l.read) (length l.initial.shifts) l.shifts l.i
