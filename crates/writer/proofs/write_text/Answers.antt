-- HEAD's line, then those behind it, are the text.
use Rattle.writer.proofs.Writing.{head_and_lines}
use Rattle.writer.proofs.write_text.Goals as goal

pub returns : goal.returns
returns c =
    head_and_lines c.args.table.now c.args.text.now c.requires.0 c.requires.1 c.write_words.ensures c.end_line.ensures
    c.write_frames.ensures
