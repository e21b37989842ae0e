-- The words still to write, written from i on, give what all words written from the start give.
use mathlib.Core.Path.{◌∙◌}
use Prim.Native.Nat.{◌+◌, ◌*◌}
use Rattle.checker.proofs.Stores.{inner_start, inner_turn}
use Rattle.checker.proofs.notes.write_inner.Goals as goal

pub loop-i-init : goal.loop-i-init
loop-i-init c = inner_start c.args.notes.now c.args.from c.args.count

pub loop-i-preserved : goal.loop-i-preserved
loop-i-preserved c = c.loop-i.invariant ∙ inner_turn c.loop-i.notes (2 * (c.args.from + c.args.count)) c.loop-i.i c.loop-i-test.true
