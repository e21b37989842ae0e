-- A free bit more.
use mathlib.Core.Path.{sym, ap, ap₂, ◌∙◌}
use Prim.Native.Nat.{◌+◌}
use native.Mathlib.Omega.{arith}
use Rattle.semantics.specs.Values.{byte}
use Rattle.counting.proofs.WordBits.{byte_most}
use Rattle.counting.specs.Internal.Linear.{varied_in}
use Rattle.counting.proofs.Placed.{rank-few}
use Rattle.counting.proofs.Filling.{rank_more, rank_free}
use Rattle.counting.proofs.linear.count_free.Goals as goal

pub overflow_add-count : goal.overflow_add-count
overflow_add-count c = omega (arith, rank-few (varied_in c.args.variables c.args.free) c.loop-i.i, byte_most c.has.result)

pub loop-i-preserved : goal.loop-i-preserved
loop-i-preserved c = let a = c.args in ap₂ ◌+◌ c.loop-i.invariant (ap byte c.has.ensures) ∙ sym (rank_more a.variables a.free c.loop-i.i (omega arith))

pub returns : goal.returns
returns c = c.loop-i.invariant ∙ rank_free c.args.variables c.args.free c.loop-i.i (omega arith)
