-- The free bits, then the set, then 1.
use mathlib.Core.Path.{◌∙◌}
use Rattle.counting.proofs.Filling.{set_words, one-words, filled_end}
use Rattle.counting.proofs.variables.fill_variables.Goals as goal

pub returns : goal.returns
returns c =
    let t = c.fill_free.ensures in
    let set = set_words t.sized c.write_four.ensures in
    filled_end c.requires.0 t set (one-words (set.sized ∙ t.sized) c.write_four-2.ensures)
