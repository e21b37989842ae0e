-- The four digits of a word, each by its code.
use Rattle.text.proofs.Hex.{word_long, coded_value}
use Rattle.text.proofs.digits.Codes.value.Goals as goal

pub word-requires : goal.word-requires
word-requires c = word_long c.args.bytes.now c.requires

pub number-requires : goal.number-requires
number-requires c = let v = coded_value c.word.ensures c.requires in (v.0, v.1)
