-- The loop's invariant: the random bits of the share i and each other below j are added.
use mathlib.Core.Path.{◌≡◌}
use Prim.Native.Nat.{ℕ}
use lib.Bits.{bit_xor}
use Rattle.circuit.specs.Lists.{nth}
use Rattle.circuit.specs.Gadgets.{others}
use Rattle.gadgets.specs.Internal.Places.{mask_at}
use Rattle.simulation.specs.Internal.Filling.{word_sum}
use Rattle.simulation.proofs.Adding.{rest}
use Rattle.symbolic.proofs.gadget.add_masks.Given as goal

abbrev pub invariant-loop-j : goal.invariant-loop-j
invariant-loop-j l =
    let d = l.gadget.d in
    let f = λ (j : ℕ). nth l.tape (mask_at d l.gadget.used l.i j) in
    bit_xor l.sum (word_sum (others d l.i) f) ≡ bit_xor l.all (word_sum (rest d l.i l.j) f)
