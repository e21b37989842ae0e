-- Each call writes behind what was written before it.
use Rattle.judge.proofs.Runs.{written_more}
use Rattle.judge.proofs.line.put_line.Goals as goal

pub returns : goal.returns
returns c = written_more (written_more (written_more c.put_field-second.ensures c.put_field.ensures) c.put_field-2.ensures) c.put_bytes.ensures
