-- The loop's invariant: the digits before this one have their codes.
use mathlib.Core.Path.{◌≡◌}
use Rattle.text.proofs.Table.{written}
use Rattle.text.proofs.digits.Codes.new.Given as goal

abbrev pub invariant-loop-value : goal.invariant-loop-value
invariant-loop-value l = l.table ≡ written l.value
