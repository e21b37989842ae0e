-- Eight pairs more, or those that are left.
use mathlib.Core.Path.{◌≡◌}
use mathlib.Core.Bool.{Bool, true, false, cond}
use Prim.Native.Nat.{ℕ, ◌+◌, ◌/◌, ◌^◌, min, ◌<◌}
use native.Mathlib.Omega.{arith}
use Rattle.counting.specs.Internal.Lanes.{shown_by, column_of, place_of, Adds, tally_of}
use Rattle.counting.proofs.Gathering.{shown-small}
use Rattle.counting.proofs.Adding.{adds-room}
use Rattle.counting.proofs.Columns.{word_next}
use Rattle.counting.proofs.lanes.add_word.Goals as goal
use Rattle.counting.proofs.lanes.add_word.Goals.{After-add-in-loop-done}

pub add-requires : goal.add-requires
add-requires c = (omega arith, adds-room (c.loop-done.invariant false) (omega arith) (c.requires.3 false) _ (omega arith))

pub add-requires-in-loop-done : goal.add-requires-in-loop-done
add-requires-in-loop-done c = (omega arith, adds-room (c.loop-done.invariant true) (omega arith) (c.requires.3 true) _ (omega arith))

-- a turn
turned : (c : After-add-in-loop-done) (second : Bool) → let a = c.args in
    Adds (shown_by (column_of a.shown.now (place_of second a.word)) a.found) (min (c.loop-done.done + 8) a.lanes) (tally_of second a.tallies.now)
    (cond second c.add-in-loop-done.new.tally c.add.new.tally)
turned c second =
    let a = c.args in
    let l = c.loop-done in
    let before : min l.done a.lanes ≡ l.done = omega arith in
    let after : l.done + c.min-count.result ≡ min (l.done + 8) a.lanes = omega arith in
    rw (← after) (word_next (column_of a.shown.now (place_of second a.word)) a.found (rw before at (l.invariant second)) (added second))
  where
    columns : Bool → ℕ → ℕ
    columns b i = column_of c.args.shown.now (place_of b c.args.word) i / 2 ^ c.loop-done.done

    small : (b : Bool) (n : ℕ) → shown_by (columns b) c.args.found n < 256
    small b n = shown-small (columns b) c.args.found n c.requires.1

    added : (b : Bool) → Adds (shown_by (columns b) c.args.found) c.min-count.result (tally_of b c.loop-done.tallies) (cond b c.add-in-loop-done.new.tally c.add.new.tally)
    added true = c.add-in-loop-done.ensures.added (shown_by (columns true) c.args.found) (small true) c.gather-other.ensures
    added false = c.add.ensures.added (shown_by (columns false) c.args.found) (small false) c.gather-one.ensures

pub loop-done-preserved : goal.loop-done-preserved
loop-done-preserved c = turned (goal.at.loop-done-preserved c).After-add-in-loop-done

pub returns-2 : goal.returns-2
returns-2 c = let last : min (c.loop-done.done + 8) c.args.lanes ≡ c.args.lanes = omega arith in rw last at (turned (goal.at.returns-2 c).After-add-in-loop-done)
