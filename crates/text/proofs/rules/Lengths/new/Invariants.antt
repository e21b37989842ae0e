-- The loop's invariant: the lengths of the kinds before this one are in their places.
use mathlib.Core.Path.{◌≡◌}
use Prim.Native.Nat.{ℕ, suc, ◌<◌}
use lib.ListN.{get_or}
use Rattle.circuit.specs.Kinds.{words, kind_of}
use Rattle.text.proofs.rules.Lengths.new.Given as goal

abbrev pub invariant-loop-kind : goal.invariant-loop-kind
invariant-loop-kind l = (k : ℕ) → k < l.kind → get_or l.length-items k 0 ≡ suc (words l.d (kind_of k))
