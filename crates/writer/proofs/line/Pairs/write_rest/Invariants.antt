-- The loop's invariant: the words still to write, written from their place on, give what all words with their spaces give.
use mathlib.Core.Path.{◌≡◌}
use Prim.Native.Nat.{◌*◌}
use lib.Seq.{sets, slice}
use Rattle.writer.specs.Internal.Line.{spaced_of}
use Rattle.writer.proofs.line.Pairs.write_rest.Given as goal

abbrev pub invariant-loop-i : goal.invariant-loop-i
invariant-loop-i l = sets l.initial.text (5 * l.from) (spaced_of (slice l.from l.to l.table)) ≡ sets l.text (5 * l.i) (spaced_of (slice l.i l.to l.table))
