-- No line has more than 93 bytes.
use Rattle.std.proofs.Common.{arith, rules}
use native.Mathlib.Nat.{le_trans}
use Rattle.judge.specs.Printed.{accepted_name, random_name, latency_name, refused_name, frame_name, word_name}
use Rattle.judge.proofs.Lengths.{short_line}
use Rattle.judge.proofs.line.write.Goals as goal

pub put_line-requires : goal.put_line-requires
put_line-requires c =
    le_trans (short_line accepted_name _ random_name _ latency_name _ (search rules) (search rules) (search rules) (omega arith)) c.requires

pub put_line-requires-in-Err : goal.put_line-requires-in-Err
put_line-requires-in-Err c =
    le_trans (short_line refused_name _ frame_name _ word_name _ (search rules) (search rules) (search rules) (omega arith)) c.requires
