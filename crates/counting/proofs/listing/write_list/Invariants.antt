-- The loop's invariant: writing the whole list comes to writing the combinations from this one on.
use Prim.Native.Nat.{◌^◌}
use Rattle.counting.proofs.Written.{WrittenTo}
use Rattle.counting.proofs.listing.write_list.Given as goal

abbrev pub invariant-loop-n : goal.invariant-loop-n
invariant-loop-n l = WrittenTo l.tallies.first l.tallies.second (2 ^ l.free) l.combinations l.initial.counts l.counts l.n
