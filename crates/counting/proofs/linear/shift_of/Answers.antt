-- A wire more doubles the number and adds its bit.
use mathlib.Core.Path.{sym, ap, ap₂, ◌∙◌}
use Prim.Native.Nat.{◌+◌, ◌*◌, ◌<◌}
use native.Mathlib.Omega.{arith}
use Rattle.circuit.specs.Lists.{nth}
use Rattle.semantics.specs.Values.{byte}
use Rattle.counting.proofs.WordBits.{byte_most}
use Rattle.counting.proofs.Gathering.{shown-small, shown-next}
use Rattle.counting.proofs.linear.shift_of.Goals as goal
use Rattle.counting.proofs.linear.shift_of.Goals.{At-loop-wire}

-- the number stays small
small : (l : At-loop-wire) → l.loop-wire.shift < 256
small l = let a = l.args in omega (arith, l.loop-wire.invariant, shown-small (λ n. nth a.sums.now (nth a.read.now n)) l.loop-wire.wire-index a.i (omega arith))

pub overflow_mul-shift : goal.overflow_mul-shift
overflow_mul-shift c = omega (arith, small (goal.at.overflow_mul-shift c).At-loop-wire)

pub overflow_add-shift : goal.overflow_add-shift
overflow_add-shift c = omega (arith, small (goal.at.overflow_add-shift c).At-loop-wire, byte_most c.has.result)

pub loop-wire-preserved : goal.loop-wire-preserved
loop-wire-preserved c =
    let a = c.args in
    ap₂ (λ x y. 2 * x + y) c.loop-wire.invariant (ap byte c.has.ensures) ∙ sym (shown-next (λ n. nth a.sums.now (nth a.read.now n)) c.loop-wire.wire-index a.i)
