-- The loop's invariant: marking all probes comes to marking those that are left.
use mathlib.Core.Path.{◌≡◌}
use lib.ListN.{drop}
use Rattle.reach.specs.Internal.Marks.{mark_all}
use Rattle.reach.proofs.readings.mark.Given as goal

abbrev pub invariant-loop-wire : goal.invariant-loop-wire
invariant-loop-wire l = mark_all l.initial.marks l.probes ≡ mark_all l.marks (drop l.wire-index l.probes)
