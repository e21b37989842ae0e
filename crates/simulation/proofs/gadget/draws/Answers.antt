-- The loop's invariant: r and R of the pairs below q are filled in.
use mathlib.Core.Path.{refl, sym}
use native.Mathlib.Omega.{arith}
use Rattle.simulation.proofs.Filled.{fills-at, fills-set}
use Rattle.simulation.proofs.gadget.draws.Goals as goal

pub loop-q-preserved : goal.loop-q-preserved
loop-q-preserved c =
    let q = c.loop-q.q in
    let t = c.loop-q-test.true in
    fills-set _ (omega arith) (λ v e k. sym (e q t).1) (fills-set _ (omega arith) (λ v e k. sym (e q t).0) c.loop-q.invariant)

pub returns : goal.returns
returns c = fills-at refl (omega arith) c.loop-q.invariant
