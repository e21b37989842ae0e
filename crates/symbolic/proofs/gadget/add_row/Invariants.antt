-- The loop's invariant: the sums below j are added.
use mathlib.Core.Path.{◌≡◌}
use Prim.Native.Nat.{◌-◌}
use lib.Bits.{bit_xor}
use Rattle.circuit.specs.Lists.{nth, range}
use Rattle.gadgets.specs.Internal.Places.{word_b}
use Rattle.simulation.specs.Internal.Filling.{word_sum}
use Rattle.symbolic.proofs.gadget.add_row.Given as goal

abbrev pub invariant-loop-j : goal.invariant-loop-j
invariant-loop-j l =
    word_sum (range 0 l.d) (λ i. nth l.sums (word_b l.d l.ops i)) ≡ bit_xor l.all (word_sum (range l.j (l.d - l.j)) (λ i. nth l.sums (word_b l.d l.ops i)))
