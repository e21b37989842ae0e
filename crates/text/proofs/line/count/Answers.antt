-- The loop's invariant: the count of words is that from here on, behind those passed.
use mathlib.Core.Path.{◌≡◌, sym, ap, ◌∙◌}
use Prim.Native.Nat.{◌+◌, ◌*◌}
use native.Mathlib.Omega.{arith}
use lib.Seq.{drop-drop}
use Rattle.std.proofs.lemmas.List.{take_rest}
use Rattle.text.specs.Internal.Scan.{line_count}
use Rattle.text.proofs.Scanning.{count_end, no_word, last_word, more_words, line_count_more}
use Rattle.text.proofs.line.count.Goals as goal

pub returns-then-not-is_whole : goal.returns-then-not-is_whole
returns-then-not-is_whole c =
    let k = rw take_rest at c.word-word.ensures in
    rw (c.loop-k.invariant ∙ no_word k (c.loop-k.k + 1) (sym (c.is_whole.ensures _ k) ∙ c.if-not-is_whole.true))

pub returns-then-word-eq1 : goal.returns-then-word-eq1
returns-then-word-eq1 c =
    let k = rw take_rest at c.word-word.ensures in
    sym (ap line_count (c.loop-k.invariant ∙ last_word k (c.loop-k.k + 1) (sym (c.is_whole.ensures _ k) ∙ c.if-not-is_whole.false) c.if-word-eq1.true)
    ∙ line_count_more c.loop-k.k)

pub loop-k-preserved : goal.loop-k-preserved
loop-k-preserved c =
    let k = rw take_rest at c.word-word.ensures in
    let next : 5 * c.loop-k.k + 5 ≡ 5 * (c.loop-k.k + 1) = omega arith in
    c.loop-k.invariant ∙ more_words k (c.loop-k.k + 1) (sym (c.is_whole.ensures _ k) ∙ c.if-not-is_whole.false) c.if-word-eq1.false
    ∙ rw (drop-drop 5 (5 * c.loop-k.k) c.args.text.now, next)

pub returns : goal.returns
returns c = rw (c.loop-k.invariant ∙ count_end (c.loop-k.k + 1) c.args.text.now (5 * c.loop-k.k) (omega arith))
