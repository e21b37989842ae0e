-- The loops' invariants: marking all random bits comes to marking those that are left, and the next one's place is known.
use mathlib.Core.Path.{◌≡◌}
use mathlib.Core.List.{map}
use Prim.Native.Nat.{◌+◌, ◌-◌}
use Rattle.circuit.specs.Lists.{range}
use Rattle.gadgets.specs.Internal.Places.{mask_at}
use Rattle.reach.specs.Internal.Marks.{mark_all}
use Rattle.gadgets.proofs.Masks.{BelowAt, AboveAt}
use Rattle.reach.proofs.reach.mark_masks.Given as goal

abbrev pub invariant-loop-j : goal.invariant-loop-j
invariant-loop-j l = let masks = mask_at l.fn.gadget.d l.fn.gadget.first l.i in
    BelowAt l.d l.fn.gadget.first l.i l.j l.at × (mark_all l.marks (map masks (range l.j (l.i - l.j))) ≡ mark_all l.initial.marks (map masks (range 0 (l.i - 0))))

abbrev pub invariant-loop-k : goal.invariant-loop-k
invariant-loop-k l = let masks = mask_at l.fn.gadget.d l.fn.gadget.first l.i in let j = l.i + 1 + l.k in
    AboveAt l.d l.fn.gadget.first l.i j (l.at + l.k) × (mark_all l.marks (map masks (range j (l.d - j))) ≡ mark_all l.initial.marks (map masks (range (l.i + 1) (l.d - (l.i + 1)))))
