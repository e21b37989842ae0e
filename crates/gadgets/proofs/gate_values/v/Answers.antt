-- A byte's sum is a byte.
use mathlib.Core.Path.{ap, ◌∙◌}
use Prim.Native.Nat.{◌%◌}
use native.Mathlib.Omega.{arith}
use lib.Bits.{xor_lt}
use Rattle.gadgets.proofs.gate_values.v.Goals as goal

pub returns : goal.returns
returns c = ap (λ x. x % 256) c.v.ensures ∙ omega (arith, xor_lt 8 c.args.b c.args.r (omega (arith, c.well_formed)) (omega (arith, c.well_formed)))
