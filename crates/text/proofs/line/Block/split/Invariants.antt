-- The loop's invariant: `Cut`; the block has no line until the loop ends.
use mathlib.Core.Path.{◌≡◌}
use Rattle.text.proofs.Blocks.{Cut}
use Rattle.text.proofs.line.Block.split.Given as goal

abbrev pub invariant-loop-k : goal.invariant-loop-k
invariant-loop-k l = record { cut : Cut l.text l.self.words l.self.ends l.lines l.k; none : l.self.lines ≡ 0 }
