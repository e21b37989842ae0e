-- The table is prepared once; the list is written from the tallies of both sets.
use mathlib.Core.Path.{◌∙◌}
use mathlib.Core.Bool.{Bool, true, false}
use Prim.Native.Nat.{◌≤◌}
use native.Mathlib.Omega.{arith}
use lib.ListN.{length}
use Rattle.counting.specs.Internal.Tallying.{Prepared, set_of, Tallied}
use Rattle.counting.specs.Internal.Lanes.{tally_of}
use Rattle.counting.proofs.Numbered.{pow_mono}
use Rattle.counting.proofs.Batches.{pairs-are}
use Rattle.counting.proofs.Counts.{set-countable, lists}
use Rattle.counting.proofs.tally.list_on.Goals as goal
use Rattle.counting.proofs.tally.list_on.Goals.{After-tally_both}

-- what the batches rest on, and the counts of both sets
prepared : (c : After-tally_both) → let a = c.args in
    Prepared a.table.now a.secrets.now a.read.now c.prepare-terms.new.sums c.prepare-terms.result.sums c.prepare-terms.result.outputs c.plan_pairs-plan.result
prepared c =
    let a = c.args in
    let (n, room, most) = c.requires in
    let m = n.numbered.inputs_are in
    record {
      countable = set-countable n.numbered a.secrets.now n.sized n.bit;
      planned = c.plan_pairs-plan.ensures;
      read_in = n.read_in;
      room = omega (arith, n.wires_are, room, c.prepare-terms.auto.sums);
      sized = n.sized ∙ omega (arith, m);
      bit = n.bit;
      terms_sized = c.prepare-terms.result.sized;
      expanded = rw (← m) c.prepare-terms.ensures;
    }

tallied : (c : After-tally_both) (second : Bool) → let a = c.args in Tallied a.table.now (set_of a.table.now second a.secrets.now) a.read.now (tally_of second c.tally_both.new.tallies)
tallied c = c.tally_both.ensures c.args.table.now c.args.secrets.now (rw c.enumerate-enumeration.ensures.0 (prepared c))

pub write_list-requires : goal.write_list-requires
write_list-requires c =
    let most = pow_mono 8 (length c.args.read.now) c.requires.0.read_in.few in
    let e = c.power-combinations.ensures.0 in
    let few : c.plan_pairs-plan.result.free ≤ 16 = omega (arith, c.plan_pairs-plan.ensures.free_is, c.requires.0.numbered.few) in
    (omega (arith, e, most), omega (arith, e, most, c.requires.0.room), few, λ second. (tallied (goal.at.write_list-requires c).After-tally_both second).few)

pub returns : goal.returns
returns c =
    let a = c.args in
    let n = c.requires.0 in
    let t = tallied (goal.at.returns c).After-tally_both in
    let all = pairs-are c.plan_pairs-plan.ensures in
    (c.power.ensures.0 ∙ all, lists n.numbered a.secrets.now n.sized n.bit n.read_in (t false) (t true) _ n.room _ _ c.power-combinations.ensures.0 all c.write_list.ensures)
