-- The loop's invariant: the words before the i-th are on step.
use mathlib.Core.Path.{sym}
use native.Mathlib.Omega.{arith}
use Rattle.plain.proofs.Rising.{each_rises, not-rising}
use Rattle.plain.proofs.sharing.Places.rises.Goals as goal

pub returns-then-table-at : goal.returns-then-table-at
returns-then-table-at c = sym (not-rising _ _ _ _ _ c.loop-i.i (omega arith) c.if-table-at.true)

pub returns : goal.returns
returns c = sym (each_rises _ _ _ _ _ (λ i l. c.loop-i.invariant i (omega arith)))
