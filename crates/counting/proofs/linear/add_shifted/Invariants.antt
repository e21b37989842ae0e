-- The loop's invariant: the counts up to one, and those with which they are added, are sums.
use Rattle.counting.proofs.Shifting.{PairedTo}
use Rattle.counting.proofs.linear.add_shifted.Given as goal

abbrev pub invariant-loop-n : goal.invariant-loop-n
invariant-loop-n l = PairedTo l.shift l.count l.initial.tally l.tally l.n
