-- A whole block with no mark adds none.
use native.Mathlib.Omega.{arith}
use Rattle.reach.proofs.Highest.{none_over}
use Rattle.counting.proofs.Marked.{lists_same}
use Rattle.counting.proofs.read.list_some.Goals as goal

pub returns-then-largest-lt-MARK : goal.returns-then-largest-lt-MARK
returns-then-largest-lt-MARK c = lists_same _ _ c.requires.3 _ c.requires.0 (none_over _ _ _ (omega arith) c.largest.ensures (omega arith))
