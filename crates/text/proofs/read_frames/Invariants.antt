-- The loop's invariant: `Progress`, and there are no more lines than bytes; the measure is what is left of the text.
use Prim.Native.Nat.{◌+◌, ◌≤◌}
use lib.ListN.{length}
use Rattle.text.specs.Internal.Blocks.{rest_read}
use Rattle.text.proofs.Progress.{Progress}
use Rattle.text.proofs.read_frames.Given as goal

abbrev pub invariant-loop-text : goal.invariant-loop-text
invariant-loop-text l = record {
  progress : Progress (rest_read l.d l.initial.table l.initial.text) l.initial.table l.d l.table l.text l.line l.stored;
  lines : l.line + length l.text ≤ 1 + length l.initial.text;
}

abbrev pub decreases-loop-text : goal.decreases-loop-text
decreases-loop-text l = length l.text
