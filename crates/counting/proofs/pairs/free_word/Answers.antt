-- Of the lowest six free bits the word is a pattern, of the others all ones or 0.
use mathlib.Core.Path.{◌≡◌, sym, ap, ◌∙◌}
use Prim.Native.Nat.{ℕ, ◌<◌}
use native.Mathlib.Omega.{arith}
use Rattle.simulation.specs.Internal.Evaluating.{packed}
use Rattle.counting.specs.Internal.Lanes.{lane_bit}
use Rattle.counting.specs.Internal.Words.{free_word}
use Rattle.counting.proofs.FreeBits.{low_word, high_word}
use Rattle.counting.proofs.pairs.free_word.Goals as goal
use Rattle.counting.proofs.pairs.free_word.Goals.{Start}

low : (s : Start) {j : ℕ} → s.args.i ≡ j → j < 6 → packed 64 (lane_bit j) ≡ free_word s.args.i s.args.number
low s e h = sym (ap (λ m. free_word m s.args.number) e ∙ low_word _ s.args.number h)

pub returns-then-i-gt5 : goal.returns-then-i-gt5
returns-then-i-gt5 c = sym (high_word c.args.i c.args.number (omega arith))

pub returns-in-1 : goal.returns-in-1
returns-in-1 c = low (goal.at.returns-in-1 c).Start c.in-1.is (omega arith)

pub returns-in-2 : goal.returns-in-2
returns-in-2 c = low (goal.at.returns-in-2 c).Start c.in-2.is (omega arith)

pub returns-in-3 : goal.returns-in-3
returns-in-3 c = low (goal.at.returns-in-3 c).Start c.in-3.is (omega arith)

pub returns-in-4 : goal.returns-in-4
returns-in-4 c = low (goal.at.returns-in-4 c).Start c.in-4.is (omega arith)

pub returns-in_default : goal.returns-in_default
returns-in_default c = let e : c.args.i ≡ 5 = omega arith in low (goal.at.returns-in_default c).Start e (omega arith)
