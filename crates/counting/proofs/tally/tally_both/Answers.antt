-- Free bits that are no factors are counted once those that are factors have been gone through.
use mathlib.Core.Path.{subst}
use mathlib.Core.Bool.{true, false, cond}
use Prim.Native.Nat.{ℕ}
use native.Mathlib.Omega.{arith}
use lib.ListN.{replicate}
use lib.Seq.{length-take-le}
use Rattle.counting.specs.Internal.Linear.{ShiftsIn}
use Rattle.counting.specs.Internal.Tallying.{set_of, Tallied}
use Rattle.counting.proofs.AllPairs.{counted-few, tallied_all}
use Rattle.counting.proofs.tally.tally_both.Goals as goal
use Rattle.counting.proofs.tally.tally_both.Goals.{After-list_shifts}

shifts : (c : After-list_shifts) → let a = c.args in ShiftsIn a.sums.now a.read.now a.enumeration.plan.free c.list_shifts.new.shifts
shifts c = let a = c.args in
    subst (λ (n : ℕ). ShiftsIn a.sums.now a.read.now n c.list_shifts.new.shifts) (length-take-le a.enumeration.plan.free (replicate 16 0) a.enumeration.few) c.list_shifts.ensures

pub fold-requires : goal.fold-requires
fold-requires c =
    let (r, sv, z) = c.requires in
    let p = r.prepared in
    let sh = shifts (goal.at.fold-requires c).After-list_shifts in
    (p.read_in.few, omega (arith, sh.sized, c.args.enumeration.few), sh.low, λ n l. rw sh.sized (counted-few p sv false sh (c.tally_some.ensures r.table r.secrets p false) n l))

pub fold-requires-2 : goal.fold-requires-2
fold-requires-2 c =
    let (r, sv, z) = c.requires in
    let p = r.prepared in
    let sh = shifts (goal.at.fold-requires-2 c).After-list_shifts in
    (p.read_in.few, omega (arith, sh.sized, c.args.enumeration.few), sh.low, λ n l. rw sh.sized (counted-few p sv true sh (c.tally_some.ensures r.table r.secrets p true) n l))

pub returns : goal.returns
returns c =
    let a = c.args in
    let sv = c.requires.1 in
    let sh = shifts (goal.at.returns c).After-list_shifts in
    λ table secrets p second. elim second as (λ b. Tallied table (set_of table b secrets) a.read.now (cond b c.fold-2.new.tally c.fold.new.tally)) [
      | true ↦ tallied_all p sv true sh (c.tally_some.ensures table secrets p true) (rw sh.sized at c.fold-2.ensures)
      | false ↦ tallied_all p sv false sh (c.tally_some.ensures table secrets p false) (rw sh.sized at c.fold.ensures)
    ]
