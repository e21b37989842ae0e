-- Behind the tests that were passed the frames are there.
use mathlib.Core.Path.{◌≡◌, sym, ◌∙◌}
use mathlib.Core.Bool.{true, false≢true}
use native.Mathlib.Omega.{arith}
use borrow.Author.Tests.{ne_eqb}
use Rattle.plain.specs.Internal.Tests.{alike_from}
use Rattle.plain.proofs.Rising.{run_room, has_column}
use Rattle.plain.proofs.sharing.Places.labelled.Goals as goal
use Rattle.plain.proofs.sharing.Places.labelled.Goals.{Joined-label-eq0, then-label-eq0, else-label-eq0, then-alike, else-alike}

there : (c : Joined-label-eq0) → c.if-label-eq0.value ≡ true → alike_from c.args.table.now c.args.self.at c.args.self.by c.args.self.n ≡ true
there c h = elim c.if-label-eq0.branch [
  | then-label-eq0 w ↦ sym w.alike.ensures ∙ sym w.value-is ∙ h
  | else-label-eq0 w ↦ absurd (false≢true (sym (ne_eqb _ _ w.if-label-eq0.false) ∙ sym w.value-is ∙ h))
]

pub rises-requires : goal.rises-requires
rises-requires c = (has_column _ _ _ _ _ (run_room _ _ _ _ (there (goal.at.rises-requires c).Joined-label-eq0 c.if-alike.true)) (omega arith), omega arith)

pub rises-requires-then-rises : goal.rises-requires-then-rises
rises-requires-then-rises c =
    let j = (goal.at.rises-requires-then-rises c).Joined-label-eq0 in
    let passed : c.if-label-eq0.value ≡ true = elim c.if-alike.branch [
      | then-alike w ↦ w.if-alike.true
      | else-alike w ↦ absurd (false≢true (sym w.if-alike.false ∙ sym w.value-is ∙ c.if-rises.true))
    ] in
    (has_column _ _ _ _ _ (run_room _ _ _ _ (there j passed)) (omega arith), omega arith)
