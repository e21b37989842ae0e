-- The words still to write, written from i on, give what all words written from the start give.
use mathlib.Core.Path.{◌≡◌}
use Prim.Native.Nat.{◌*◌, ◌-◌}
use lib.ListN.{replicate}
use lib.Seq.{sets}
use Rattle.circuit.specs.Limits.{inner_note}
use Rattle.checker.specs.Internal.Notes.{inner_words}
use Rattle.checker.proofs.notes.write_inner.Given as goal

abbrev pub invariant-loop-i : goal.invariant-loop-i
invariant-loop-i l = sets l.initial.notes (2 * l.from) (inner_words l.count) ≡ sets l.notes l.i (replicate (l.i-end - l.i) inner_note)
