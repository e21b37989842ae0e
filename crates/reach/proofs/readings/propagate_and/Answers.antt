-- Where none of AND's wires is marked there is nothing to move on.
use mathlib.Core.Path.{◌≡◌, ap, subst}
use Prim.Native.Nat.{◌+◌}
use native.Mathlib.Omega.{arith}
use Rattle.frames.specs.declared.walk.Frame.TheVariants as Frame
use Rattle.gadgets.specs.Internal.Frames.{frame_wires}
use Rattle.reach.specs.Internal.Marks.{Unmarked}
use Rattle.reach.proofs.Highest.{none_over}
use Rattle.reach.proofs.Moved.{moves_unmarked}
use Rattle.reach.proofs.readings.propagate_and.Goals as goal

pub returns-else-largest-gt0 : goal.returns-else-largest-gt0
returns-else-largest-gt0 c =
    let end : c.args.gadget.first + c.and_wires.result ≡ c.args.gadget.first + frame_wires Frame.And c.args.gadget.d = ap (λ n. c.args.gadget.first + n) c.and_wires.ensures.0 in
    moves_unmarked _ _ _ (subst (Unmarked c.args.marks.now c.args.gadget.first) end (none_over c.args.marks.now _ _ (omega (arith, end, c.requires.0)) c.largest.ensures c.if-largest-gt0.false))
