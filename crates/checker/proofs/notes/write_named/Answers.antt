-- The loop's invariant: the words still to write, written from here on, give what all words written from the start give.
use mathlib.Core.Path.{sym, ap, ◌∙◌}
use Prim.Native.Nat.{◌+◌, ◌*◌}
use lib.Seq.{sets}
use borrow.Author.Rules.{rules}
use Rattle.checker.proofs.Stores.{store_turn, named_turn, named_end}
use Rattle.checker.proofs.notes.write_named.Goals as goal

pub loop-i-preserved : goal.loop-i-preserved
loop-i-preserved c =
    let l = c.loop-i in
    let a = c.args in
    (search rules, search rules, search rules, l.invariant.3 ∙ store_turn l.notes a.from l.i (a.first + l.i) a.stage _ _ (named_turn a.first a.stage a.count l.i c.loop-i-test.true))

pub returns : goal.returns
returns c =
    let l = c.loop-i in
    let a = c.args in
    sym (l.invariant.3 ∙ ap (sets l.notes (2 * a.from + 2 * l.i)) (named_end a.first a.stage a.count l.i l.invariant.0 c.loop-i-test.false))
