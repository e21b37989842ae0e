-- The words of the inner wires, then those of the named ones behind them, are the words of all.
use mathlib.Core.Path.{ap₂, ◌∙◌}
use Prim.Native.Nat.{◌+◌, ◌*◌}
use lib.Seq.{sets}
use Rattle.checker.specs.Internal.Notes.{first_word, named_words}
use Rattle.checker.proofs.Stores.{stores_made}
use Rattle.checker.proofs.notes.write.Goals as goal

pub returns : goal.returns
returns c =
    let a = c.args in
    let m = a.made in
    c.write_named.ensures
    ∙ ap₂ (λ l w. sets l (2 * (a.from + m.inner)) (named_words w m.stage m.named)) c.write_inner.ensures c.first_word-first.ensures.0
    ∙ stores_made a.notes.now a.from m.inner (named_words (first_word m.label m.registered) m.stage m.named)
