-- The loop's invariant: the clock has come past the outputs of the shares below i.
use mathlib.Core.Path.{◌≡◌, refl, sym, ap, ◌∙◌}
use Prim.Native.Nat.{◌+◌}
use native.Mathlib.Omega.{arith}
use lib.ListN.{length-set}
use Rattle.gadgets.specs.Internal.Places.{held_at}
use Rattle.clock.proofs.Wires.{keep, upto_at, runs_next}
use Rattle.clock.proofs.gadget.holds.Goals as goal

pub loop-i-preserved : goal.loop-i-preserved
loop-i-preserved c =
    let h = c.loop-i in
    let (is, _) = c.sum_at-sum.ensures in
    let there : c.sum_at-sum.result + c.args.g.d ≡ held_at c.args.g.d c.args.g.first h.i = omega (arith, is) in
    runs_next h.invariant
    (λ k g u. upto_at (omega (arith, there))
    (keep (upto_at (sym there) u) _ (omega (arith, g.0, h.invariant.held_sized)) (ap k.gate there ∙ g.1 h.i c.loop-i-test.true) (u.below _ (omega (arith, is)) ∙ ap k.shows is)))
    refl (rw length-set refl)
