-- A wire more doubles the numbers and adds its bits.
use mathlib.Core.Path.{◌≡◌, sym, ap, ◌∙◌}
use Prim.Native.Nat.{ℕ, ◌+◌, ◌*◌, ◌/◌, ◌%◌, ◌^◌, ◌<◌}
use native.Mathlib.Omega.{arith}
use Rattle.counting.specs.Internal.Lanes.{spread_of, gathered, shown_by, column_of}
use Rattle.counting.proofs.Gathering.{gathered_zero, gathered_lt, gather_turn, shown-small}
use Rattle.counting.proofs.lanes.gather.Goals as goal
use Rattle.counting.proofs.lanes.gather.Goals.{In-loop-i}

-- the columns, and what the numbers become in a turn
abbrev columns : In-loop-i → ℕ → ℕ
columns c j = column_of c.args.shown.now c.args.word j / 2 ^ c.args.from

turned : (c : In-loop-i) → let l = c.loop-i in 2 * l.numbers + spread_of 8 (columns c l.i % 256) ≡ gathered 8 (shown_by (columns c) (l.i + 1))
turned c = gather_turn (columns c) c.loop-i.i c.loop-i.numbers c.loop-i.invariant

small : (c : In-loop-i) → gathered 8 (shown_by (columns c) (c.loop-i.i + 1)) < 0x10000000000000000
small c = gathered_lt 8 (shown_by (columns c) (c.loop-i.i + 1)) (λ l. shown-small (columns c) (c.loop-i.i + 1) l (omega arith))

pub loop-i-init : goal.loop-i-init
loop-i-init c = sym (gathered_zero 8)

pub overflow_mul-numbers : goal.overflow_mul-numbers
overflow_mul-numbers c = let d = (goal.at.overflow_mul-numbers c).In-loop-i in omega (arith, turned d, small d)

pub overflow_add-numbers : goal.overflow_add-numbers
overflow_add-numbers c = let d = (goal.at.overflow_add-numbers c).In-loop-i in omega (arith, c.spread.ensures, turned d, small d)

pub loop-i-preserved : goal.loop-i-preserved
loop-i-preserved c = ap (λ s. 2 * c.loop-i.numbers + s) c.spread.ensures ∙ turned (goal.at.loop-i-preserved c).In-loop-i
