-- What the whole row breaks first is what the wires from i on break first.
use mathlib.Core.Path.{◌≡◌, sym, ap, ◌∙◌}
use Prim.Native.Nat.{◌+◌}
use lib.ListN.{drop}
use Rattle.std.specs.Prelude.{Result}
use Rattle.std.proofs.lemmas.Result.{err_from_is_err_and}
use Rattle.checker.specs.declared.forms.Spot.{Spot}
use Rattle.checker.specs.Internal.Notes.{noted}
use Rattle.checker.specs.Internal.Adding.{at_word, ◌and_then◌, row_broken}
use Rattle.checker.proofs.Judged.{row_next, row_end}
use Rattle.checker.proofs.Mapped.{told}
use Rattle.checker.proofs.forms.row_rule.Goals as goal
use Rattle.checker.proofs.forms.row_rule.Goals.{After-map_err}

turn : (c : After-map_err) {s : Result (Unit {0}) Spot} → c.map_err.result ≡ s → let a = c.args in let i = c.loop-i.i in
    row_broken (noted a.notes.now a.wires) a.wanted a.first 0 a.row.now ≡ (s and_then row_broken (noted a.notes.now a.wires) a.wanted (a.first + (i + 1)) (i + 1) (drop (i + 1) a.row.now))
turn c e =
    let a = c.args in
    let l = c.loop-i in
    let at = at_word (a.first + l.i) in
    row_next (noted a.notes.now a.wires) a.wanted a.first l.i a.row.now l.invariant c.loop-i-test.true
    (ap at (sym c.wire_rule-told.ensures) ∙ sym (told (a.first + l.i) c.wire_rule-told.result c.map_err.result c.map_err.ensures.cases (λ e y p. cc)) ∙ e)

pub returns-in_err-map_err : goal.returns-in_err-map_err
returns-in_err-map_err c =
    let e = err_from_is_err_and c.from_residual.result c.from_residual.ensures.1 in
    rw (e.1, e.2) (sym (turn (goal.at.returns-in_err-map_err c).After-map_err c.in_err-map_err.was))

pub loop-i-preserved : goal.loop-i-preserved
loop-i-preserved c = turn (goal.at.loop-i-preserved c).After-map_err c.in_ok-map_err.was

pub returns : goal.returns
returns c = let a = c.args in sym (row_end (noted a.notes.now a.wires) a.wanted a.first c.loop-i.i a.row.now c.loop-i.invariant c.loop-i-test.false)
