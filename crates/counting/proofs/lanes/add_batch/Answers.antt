-- The first word, then the second.
use native.Mathlib.Omega.{arith}
use Rattle.counting.proofs.Adding.{adds-room}
use Rattle.counting.proofs.Columns.{batch_words, tally_sized}
use Rattle.counting.proofs.lanes.add_batch.Goals as goal

pub add_word-requires-2 : goal.add_word-requires-2
add_word-requires-2 c =
    (omega arith, c.requires.0, omega arith, λ second. adds-room (c.add_word.ensures second) (tally_sized second c.args.tallies.now) (c.requires.2 second) _ (omega arith))

pub returns : goal.returns
returns c = λ second. batch_words _ _ _ second c.requires.1 c.min.ensures c.saturating_sub.ensures (c.add_word.ensures second) (c.add_word-2.ensures second)
