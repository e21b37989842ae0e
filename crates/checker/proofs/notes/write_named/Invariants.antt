-- The loop's invariant: the words still to write, written from here on, give what all words written from the start give.
use mathlib.Core.Path.{◌≡◌}
use Prim.Native.Nat.{◌+◌, ◌*◌, ◌-◌, ◌≤◌}
use lib.ListN.{length}
use lib.Seq.{sets}
use Rattle.checker.specs.Internal.Notes.{named_words}
use Rattle.checker.proofs.notes.write_named.Given as goal

abbrev pub invariant-loop-i : goal.invariant-loop-i
invariant-loop-i l =
    (l.i ≤ l.count) × (l.start ≡ 2 * l.from) × (length l.notes ≡ length l.initial.notes)
    × (sets l.initial.notes (2 * l.from) (named_words l.first l.stage l.count) ≡ sets l.notes (2 * l.from + 2 * l.i) (named_words (l.first + l.i) l.stage (l.count - l.i)))

abbrev pub decreases-loop-i : goal.decreases-loop-i
decreases-loop-i l = l.count - l.i
