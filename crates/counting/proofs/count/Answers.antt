-- The call ends in one of three ways; what every accepted circuit's counts obey holds in each.
use mathlib.Core.Path.{ap}
use Prim.Native.Nat.{◌≤◌}
use native.Mathlib.Omega.{arith}
use lib.ListN.{length, length-take}
use Rattle.std.proofs.lemmas.Result.{err_from_is_err_and}
use Rattle.counting.specs.Internal.Reading.{ReadBy}
use Rattle.counting.proofs.Marked.{read_by}
use Rattle.counting.proofs.Calling.{ends_refused, Goes, goes, probed, ends_many, listable, ends_counted, adds_up, same_columns}
use Rattle.counting.proofs.count.Goals as goal
use Rattle.counting.proofs.count.Goals.{In_ok-accepted, In-Some}

on : (v : In_ok-accepted) → let a = v.args in Goes a.table.now a.notes.now a.secrets.now a.probes.now a.counts.now v.in_ok-accepted.accepted
on v = let a = v.args in goes a.table.now a.notes.now a.secrets.now a.probes.now a.counts.now v.in_ok-accepted.ensures

-- the wires that are read, where they are few
read : (c : In-Some) → ReadBy c.args.table.now c.args.probes.now c.in-Some.read.now
read c = rw c.in-Some.ensures.1 (read_by c.list_read-list.ensures c.in-Some.ensures.0)

few : (c : In-Some) → length c.in-Some.read.now ≤ 8
few c = let l = c.list_read-list.result in omega (arith, ap length c.in-Some.ensures.1, length-take l.count l.wires, c.in-Some.ensures.0)

pub returns-in_err-accepted : goal.returns-in_err-accepted
returns-in_err-accepted c =
    let a = c.args in
    let e = err_from_is_err_and c.from_residual.result c.from_residual.ensures.1 in
    let h = ends_refused _ _ _ _ _ c.in_err-accepted.ensures in
    rw (e.1, e.2) (record {
      answered = h.answered;
      noted = c.judge.ensures.noted;
      listed = h.listed;
      add_up = adds_up a.table.now a.notes.now _;
      same_columns = same_columns a.table.now a.notes.now _;
    })

pub list_read-list-requires : goal.list_read-list-requires
list_read-list-requires c = probed _ _ _ _ _ (on (goal.at.list_read-list-requires c).In_ok-accepted)

pub returns-in_default : goal.returns-in_default
returns-in_default c =
    let a = c.args in
    let h = ends_many _ _ _ _ _ (on (goal.at.returns-in_default c).In_ok-accepted) (omega (arith, c.list_read-list.ensures.lists.all, c.in_default.ensures)) in
    rw c.of_call.ensures (record {
      answered = h.answered;
      noted = c.judge.ensures.noted;
      listed = h.listed;
      add_up = adds_up a.table.now a.notes.now _;
      same_columns = same_columns a.table.now a.notes.now _;
    })

pub list_counts-pairs-requires : goal.list_counts-pairs-requires
list_counts-pairs-requires c =
    let h = goal.at.list_counts-pairs-requires c in
    listable _ _ _ _ _ (on h.In_ok-accepted) (read h.In-Some) (few h.In-Some)

pub returns : goal.returns
returns c =
    let a = c.args in
    let (pairs, list) = c.list_counts-pairs.ensures in
    let t = goal.at.returns c in
    let h = ends_counted _ _ _ _ _ (on t.In_ok-accepted) (read t.In-Some) (few t.In-Some) c.power.ensures.0 pairs list in
    record {
      answered = h.answered;
      noted = c.judge.ensures.noted;
      listed = h.listed;
      add_up = adds_up a.table.now a.notes.now _;
      same_columns = same_columns a.table.now a.notes.now _;
    }
