-- The first words, then the second.
use mathlib.Core.Path.{sym, ◌∙◌}
use native.Mathlib.Omega.{arith}
use Rattle.plain.proofs.Rising.{over_room, has_column}
use Rattle.plain.proofs.sharing.Places.over_rows.Goals as goal

pub rises-requires : goal.rises-requires
rises-requires c = (has_column _ _ _ _ _ (over_room _ _ _ _ _ _ (sym c.over_row.ensures ∙ c.if-over_row.true)) (omega arith), omega arith)
