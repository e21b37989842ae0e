-- A probed wire is among those of the marks.
use native.Mathlib.Omega.{arith}
use Rattle.reach.proofs.Marked.{nth_in}
use Rattle.reach.proofs.readings.mark.Goals as goal

pub bounds-marks-wire : goal.bounds-marks-wire
bounds-marks-wire c = omega (arith, c.requires _ (nth_in c.args.probes.now c.loop-wire.wire-index c.loop-wire-test.true), c.loop-wire.auto.marks)
