-- What the whole row breaks first is what the wires from i on break first.
use mathlib.Core.Path.{◌≡◌}
use Prim.Native.Nat.{◌+◌}
use lib.ListN.{drop}
use Rattle.checker.specs.Internal.Notes.{noted}
use Rattle.checker.specs.Internal.Adding.{row_broken}
use Rattle.checker.proofs.forms.row_rule.Given as goal

abbrev pub invariant-loop-i : goal.invariant-loop-i
invariant-loop-i l = row_broken (noted l.notes l.wires) l.wanted l.first 0 l.row ≡ row_broken (noted l.notes l.wires) l.wanted (l.first + l.i) l.i (drop l.i l.row)
