-- A batch more, counted under both sets.
use mathlib.Core.Path.{refl}
use Prim.Native.Nat.{◌≤◌}
use native.Mathlib.Omega.{arith}
use Rattle.counting.specs.Internal.Linear.{varied_in}
use Rattle.counting.specs.Internal.Pairs.{count_varied}
use Rattle.counting.proofs.Tallying.{zeros_at, tallied_start, tallied_next, tallied_small, tallied_end, varied-most}
use Rattle.counting.proofs.tally.tally_some.Goals as goal
use Rattle.counting.proofs.tally.tally_some.Goals.{At-loop-batch}

few : (c : At-loop-batch) → count_varied (varied_in c.args.enumeration.factors c.args.enumeration.plan.free) ≤ 16
few c = let e = c.args.enumeration in varied-most e.factors e.plan.free e.few

pub loop-batch-init : goal.loop-batch-init
loop-batch-init c = (refl, refl, λ table secrets q second. rw (c.requires.1 second) (tallied_start refl (zeros_at 256)))

pub add_batch-requires : goal.add_batch-requires
add_batch-requires c =
    let r = c.requires.0 in
    let e = c.args.enumeration in
    let t = c.loop-batch.invariant.2 r.table r.secrets r.prepared in
    let most : e.lanes ≤ 128 = e.divides.few in
    let small = few (goal.at.add_batch-requires c).At-loop-batch in (
      r.prepared.read_in.few,
      most,
      λ second n. omega (arith, tallied_small (t second) e.divides (omega arith) small n),
    )

pub loop-batch-preserved : goal.loop-batch-preserved
loop-batch-preserved c =
    let e = c.args.enumeration in
    let d = e.divides in
    let (shows, wide, sized) = c.show_batch.ensures in
    let behind = d.behind c.loop-batch.batch (omega arith) in (
      wide,
      sized,
      λ table secrets p second. tallied_next second (c.loop-batch.invariant.2 table secrets p second) behind d.few (shows table secrets p) (c.add_batch.ensures second),
    )

pub returns : goal.returns
returns c = λ table secrets p second. tallied_end (c.loop-batch.invariant.2 table secrets p second) c.args.enumeration.divides (omega arith) (few (goal.at.returns c).At-loop-batch)
