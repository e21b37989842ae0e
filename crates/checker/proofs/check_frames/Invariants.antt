-- The loop's invariant: the frames so far are a circuit whose notes are written, and the rest is still to be judged. Each turn passes
-- a frame or answers.
use Prim.Native.Nat.{◌-◌}
use lib.ListN.{length}
use Rattle.checker.proofs.Checking.{Walking}
use Rattle.checker.proofs.check_frames.Given as goal

abbrev pub invariant-loop-next : goal.invariant-loop-next
invariant-loop-next l = Walking l.table l.initial.notes l.notes l.d l.walk l.tally

abbrev pub decreases-loop-next : goal.decreases-loop-next
decreases-loop-next l = length l.table - l.walk.at
