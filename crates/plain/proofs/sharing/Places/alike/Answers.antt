-- Frames that go past the table's end are none; otherwise their kind words tell.
use mathlib.Core.Path.{◌≡◌}
use Prim.Native.Nat.{◌+◌}
use native.Mathlib.Omega.{arith}
use borrow.Author.Tests.{le-leb, lt-leb}
use Rattle.plain.specs.Internal.Tests.{alike_from}
use Rattle.plain.proofs.sharing.Places.alike.Goals as goal

pub returns-then-self-table : goal.returns-then-self-table
unfolding alike_from
returns-then-self-table c =
    let e : c.args.self.at + 0 ≡ c.args.self.at = omega arith in
    rw (le-leb _ _ c.if-self-table.true) (rw e at c.rises.ensures)

pub returns-else-self-table : goal.returns-else-self-table
unfolding alike_from
returns-else-self-table c = rw (lt-leb _ _ c.if-self-table.false)
