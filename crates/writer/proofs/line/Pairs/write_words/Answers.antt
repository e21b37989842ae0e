-- Two words, and the words behind them.
use Rattle.writer.proofs.Lines.{words-two}
use Rattle.writer.proofs.line.Pairs.write_words.Goals as goal

pub returns : goal.returns
returns c =
    let a = c.args in
    words-two a.text.now a.table.now a.from a.to c.requires.0 c.requires.1
    c.write_word.ensures c.write_word-2.ensures c.write_rest.ensures
