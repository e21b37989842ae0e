-- The last digit stands behind what the call of itself wrote.
use mathlib.Core.Path.{ap}
use Prim.Native.Nat.{◌+◌, ◌%◌}
use native.Mathlib.Omega.{arith}
use lib.ListN.{length}
use Rattle.judge.proofs.Numbers.{one-digit, last_digit, length_last, some_digit, tenth_less}
use Rattle.judge.proofs.Runs.{written_none, written_byte}
use Rattle.judge.proofs.line.+put_number.Goals as goal

pub bounds-out-0 : goal.bounds-out-0
bounds-out-0 t c = omega (arith, some_digit c.args.n)

pub returns-then-n-lt-BASE : goal.returns-then-n-lt-BASE
returns-then-n-lt-BASE t c =
    let e = one-digit c.args.n c.if-n-lt-BASE.true in
    rw e (written_byte (48 + c.args.n) (written_none c.args.out.now) (omega (arith, ap length e)))

pub put_number-next-requires : goal.put_number-next-requires
put_number-next-requires t c =
    let h = c.if-n-lt-BASE.false in
    (omega (arith, tenth_less c.args.n h), omega (arith, length_last c.args.n h))

pub bounds-out-next : goal.bounds-out-next
bounds-out-next t c = omega (arith, c.put_number-next.ensures.size, length_last c.args.n c.if-n-lt-BASE.false)

pub returns : goal.returns
returns t c =
    let h = c.if-n-lt-BASE.false in
    rw (last_digit c.args.n h) (written_byte (48 + c.args.n % 10) c.put_number-next.ensures (omega (arith, length_last c.args.n h)))
