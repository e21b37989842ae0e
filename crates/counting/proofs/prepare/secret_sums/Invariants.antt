-- The loop's invariant: the sums up to a place are written.
use Prim.Native.Nat.{◌+◌}
use Rattle.circuit.specs.Lists.{nth}
use Rattle.counting.specs.Internal.Preparing.{secret_sum}
use Rattle.counting.proofs.Filling.{GivenTo}
use Rattle.counting.proofs.prepare.secret_sums.Given as goal

abbrev pub invariant-loop-j : goal.invariant-loop-j
invariant-loop-j l = GivenTo (λ i. secret_sum (nth l.secrets i) (nth l.secrets (l.inputs + i))) 16 l.sums l.j
