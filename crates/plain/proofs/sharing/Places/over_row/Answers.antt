-- Each test in its turn: the first that fails decides.
use mathlib.Core.Path.{◌≡◌, sym, ap, ◌∙◌}
use mathlib.Core.Bool.{◌&&◌}
use native.Mathlib.Omega.{arith}
use lib.Dec.{eqb}
use Rattle.circuit.specs.Answer.{label_noted}
use Rattle.circuit.proofs.Base.{and_left}
use Rattle.plain.specs.Internal.Tests.{alike_from, over_row}
use Rattle.plain.proofs.Rising.{run_room, has_column}
use Rattle.plain.proofs.sharing.Places.over_row.Goals as goal
use Rattle.plain.proofs.sharing.Places.over_row.Goals.{Joined-alike, then-alike, else-alike}

-- what the first two tests say
both : (c : Joined-alike) → c.if-alike.value ≡ (alike_from c.args.table.now c.args.self.at c.args.self.by c.args.self.n && eqb (label_noted c.args.notes.now c.args.wire) 0)
both c = elim c.if-alike.branch [
  | then-alike w ↦ rw (sym c.alike.ensures ∙ w.if-alike.true) (w.value-is ∙ ap (λ l. eqb l 0) w.label.ensures)
  | else-alike w ↦ rw (sym c.alike.ensures ∙ w.if-alike.false) (w.value-is ∙ w.if-alike.false)
]

pub rises-requires : goal.rises-requires
rises-requires c =
    let there = and_left _ _ (sym (both (goal.at.rises-requires c).Joined-alike) ∙ c.if-label-eq0.true) in
    (has_column _ _ _ _ _ (run_room _ _ _ _ there) (omega arith), omega arith)

pub returns-then-label-eq0 : goal.returns-then-label-eq0
unfolding over_row
returns-then-label-eq0 c = rw (sym (both (goal.at.returns-then-label-eq0 c).Joined-alike) ∙ c.if-label-eq0.true) c.rises.ensures

pub returns-else-label-eq0 : goal.returns-else-label-eq0
unfolding over_row
returns-else-label-eq0 c = rw (sym (both (goal.at.returns-else-label-eq0 c).Joined-alike) ∙ c.if-label-eq0.false) c.if-label-eq0.false
