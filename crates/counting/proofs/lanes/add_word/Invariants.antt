-- The loop's invariant: the pairs so far are counted, under both sets.
use mathlib.Core.Bool.{Bool}
use Prim.Native.Nat.{min}
use Rattle.counting.specs.Internal.Lanes.{shown_by, column_of, place_of, Adds, tally_of}
use Rattle.counting.proofs.lanes.add_word.Given as goal

abbrev pub invariant-loop-done : goal.invariant-loop-done
invariant-loop-done l = (second : Bool) → Adds (shown_by (column_of l.shown (place_of second l.word)) l.found) (min l.done l.lanes) (tally_of second l.initial.tallies) (tally_of second l.tallies)
