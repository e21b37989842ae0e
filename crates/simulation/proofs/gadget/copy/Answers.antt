-- The loop's invariant: the bytes below q are copied.
use mathlib.Core.Path.{refl, sym}
use native.Mathlib.Omega.{arith}
use Rattle.simulation.proofs.Filled.{fills-at, fills-set}
use Rattle.simulation.proofs.gadget.copy.Goals as goal

pub loop-q-preserved : goal.loop-q-preserved
loop-q-preserved c = fills-set _ (omega arith) (λ v e k. sym (e c.loop-q.q c.loop-q-test.true)) c.loop-q.invariant

pub returns : goal.returns
returns c = fills-at refl (omega arith) c.loop-q.invariant
