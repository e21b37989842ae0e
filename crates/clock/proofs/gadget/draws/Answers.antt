-- The loop's invariant: the clock has come past r and R of the pairs below q.
use mathlib.Core.Path.{refl, sym, ap}
use native.Mathlib.Omega.{arith}
use lib.ListN.{length-set}
use Rattle.semantics.specs.Clock.{is_register}
use Rattle.clock.proofs.Wires.{keep, wrote, runs_next, runs_at}
use Rattle.clock.proofs.gadget.draws.Goals as goal

pub loop-q-preserved : goal.loop-q-preserved
loop-q-preserved c =
    let h = c.loop-q in
    runs_at refl (omega arith) (runs_next h.invariant
    (λ k g u. let (r, held, fed) = g.1 h.q c.loop-q-test.true in keep (wrote u _ (omega (arith, g.0, u.sized, h.invariant.sized)) (ap is_register r) (sym fed)) _ (omega (arith, g.0)) held (sym fed))
    (rw length-set refl) (rw length-set refl))
