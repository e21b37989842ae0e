-- The loop's invariant: `Cut`; the block has no line until the loop ends.
use mathlib.Core.Path.{sym, ◌∙◌}
use Prim.Native.Nat.{◌+◌, ◌*◌}
use native.Mathlib.Omega.{arith}
use lib.Dec.{ltb}
use lib.ListN.{drop}
use borrow.Author.Tests.{ltb-true, ltb-false}
use Rattle.std.proofs.lemmas.List.{take_rest}
use Rattle.circuit.proofs.Base.{cases}
use Rattle.text.specs.Internal.Blocks.{block_words}
use Rattle.text.proofs.Hex.{coded_value}
use Rattle.text.proofs.Scanning.{count_end, no_word}
use Rattle.text.proofs.Splitting.{count-least}
use Rattle.text.proofs.Blocks.{cut_turn, cut_end}
use Rattle.text.proofs.line.Block.split.Goals as goal
use Rattle.text.proofs.line.Block.split.Goals.{else-loop-k-test, then-loop-k-test+then-not-is_whole}

pub number-requires : goal.number-requires
number-requires c =
    let w = rw take_rest at c.word-word.ensures in
    let v = coded_value w (sym (c.is_whole.ensures _ w) ∙ c.if-not-is_whole.false) in
    (v.0, v.1)

pub loop-k-preserved : goal.loop-k-preserved
loop-k-preserved c =
    let w = rw take_rest at c.word-word.ensures in
    let is = sym (c.is_whole.ensures _ w) ∙ c.if-not-is_whole.false in
    let cut = c.loop-k.invariant.cut in
    record {
      cut = rw c.number.ensures (cut_turn cut (omega arith) (omega (arith, cut.few)) w is);
      none = c.loop-k.invariant.none;
    }

pub returns : goal.returns
returns c =
    let l = c.loop-k in
    elim c.loop-k-test.branch [
      | else-loop-k-test w ↦
          cut_end l.invariant.cut (omega arith) (λ h. cases (ltb l.k block_words)
          (λ e. count_end (l.k + 1) c.args.text.now (5 * l.k) (omega (arith, ltb-true l.k block_words e)))
          (λ e. count-least (l.k + 1) (drop (5 * l.k) c.args.text.now) (omega (arith, ltb-false l.k block_words e))))
      | then-loop-k-test+then-not-is_whole w ↦
          let k = rw take_rest at w.word-word.ensures in
          cut_end l.invariant.cut (omega arith) (λ h. no_word k (l.k + 1) (sym (w.is_whole.ensures _ k) ∙ w.if-not-is_whole.true))
    ]
