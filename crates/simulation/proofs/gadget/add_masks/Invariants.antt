-- The loops' invariants: the random bits of the share i and each below j are added, and the next one's place is known; then those of
-- the row of i.
use Prim.Native.Nat.{◌+◌}
use Rattle.gadgets.proofs.Masks.{BelowAt}
use Rattle.simulation.proofs.Gadgets.{MasksOn}
use Rattle.simulation.proofs.gadget.add_masks.Given as goal

abbrev pub invariant-loop-j : goal.invariant-loop-j
invariant-loop-j l = MasksOn l.g.d l.g.first l.i l.word l.values l.sum l.j × BelowAt l.g.d l.g.first l.i l.j l.at

abbrev pub invariant-loop-bit : goal.invariant-loop-bit
invariant-loop-bit l = MasksOn l.fn.g.d l.fn.g.first l.i l.word l.values l.sum (l.i + 1 + l.bit-index)
