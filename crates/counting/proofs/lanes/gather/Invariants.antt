-- The loop's invariant: the numbers of the combinations that the wires so far show.
use mathlib.Core.Path.{◌≡◌}
use Prim.Native.Nat.{◌/◌, ◌^◌}
use Rattle.counting.specs.Internal.Lanes.{gathered, shown_by, column_of}
use Rattle.counting.proofs.lanes.gather.Given as goal

abbrev pub invariant-loop-i : goal.invariant-loop-i
invariant-loop-i l = l.numbers ≡ gathered 8 (shown_by (λ j. column_of l.shown l.word j / 2 ^ l.from) l.i)
