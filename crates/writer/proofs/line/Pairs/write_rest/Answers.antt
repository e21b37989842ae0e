-- The loop's invariant: the words still to write, written from their place on, give what all words with their spaces give.
use mathlib.Core.Path.{sym, ◌∙◌}
use native.Mathlib.Omega.{arith}
use Rattle.writer.proofs.Lines.{words_turn, words_end}
use Rattle.writer.proofs.line.Pairs.write_rest.Goals as goal

pub loop-i-preserved : goal.loop-i-preserved
loop-i-preserved c = c.loop-i.invariant ∙ words_turn c.loop-i.text c.args.table.now c.loop-i.i c.args.to (omega arith) (omega arith) c.write_word.ensures

pub returns : goal.returns
returns c = sym (c.loop-i.invariant ∙ words_end _ _ c.loop-i.i _ (omega arith) c.loop-i-test.false)
