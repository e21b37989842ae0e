-- A line of the form has its first word.
use mathlib.Core.Path.{sym}
use Rattle.text.specs.Internal.Scan.{count_from}
use Rattle.text.proofs.Scanning.{counted-word, line_count-some}
use Rattle.text.proofs.rules.Lengths.first.Goals as goal

pub value-requires : goal.value-requires
value-requires c = counted-word 1 _ (line_count-some (count_from 1 c.args.text.now) c.in-Some.count (sym c.in-Some.ensures)).1
