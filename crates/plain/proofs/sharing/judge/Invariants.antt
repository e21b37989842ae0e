-- The loop's invariant: the frames before the walk's place are in sharings, and the table's judgement is that of the frames left.
use mathlib.Core.Path.{◌≡◌}
use Prim.Native.Nat.{◌-◌}
use lib.ListN.{length}
use Rattle.circuit.specs.Lists.{nth}
use Rattle.plain.proofs.Walked.{WholeTo}
use Rattle.plain.proofs.sharing.judge.Given as goal

abbrev pub invariant-loop-next : goal.invariant-loop-next
invariant-loop-next l = (l.walk.d ≡ nth l.table 1) × WholeTo l.table l.walk.at l.number

abbrev pub decreases-loop-next : goal.decreases-loop-next
decreases-loop-next l = length l.table - l.walk.at
