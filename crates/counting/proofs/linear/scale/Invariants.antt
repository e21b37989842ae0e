-- The loop's invariant: the counts below one are multiplied.
use Prim.Native.Nat.{◌*◌}
use Rattle.circuit.specs.Lists.{nth}
use Rattle.counting.specs.Internal.Linear.{Remade}
use Rattle.counting.proofs.linear.scale.Given as goal

abbrev pub invariant-loop-n : goal.invariant-loop-n
invariant-loop-n l = Remade (λ m. l.times * nth l.initial.tally m) l.n l.initial.tally l.tally
