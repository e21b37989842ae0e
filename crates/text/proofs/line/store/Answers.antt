-- The loop's invariant: so many of the words are in their places.
use mathlib.Core.Path.{ap, ◌∙◌}
use mathlib.Core.List.{List}
use Prim.Native.Nat.{ℕ, ◌+◌}
use native.Mathlib.Omega.{arith}
use lib.ListN.{get_or, set}
use Rattle.std.proofs.lemmas.List.Edits.{paste_more}
use Rattle.text.proofs.line.store.Goals as goal

pub loop-i-preserved : goal.loop-i-preserved
loop-i-preserved c =
    let a = c.args in
    let i = c.loop-i.i in
    ap (λ (t : List ℕ). set t (a.from + i) (get_or a.words.now i 0)) c.loop-i.invariant
    ∙ paste_more a.table.now a.from a.words.now i 0 (omega arith) (omega arith)
