-- The loop's invariant: what is added so far, and the variables that are left, make up each of the four sums.
use Prim.Native.Nat.{◌≤◌}
use Rattle.symbolic.specs.Internal.Sums.{words_at}
use Rattle.symbolic.proofs.Masks.{AddedTo}
use Rattle.symbolic.proofs.evaluate.sum.Given as goal

abbrev pub invariant-loop-rest : goal.invariant-loop-rest
invariant-loop-rest l = record {
  most : l.rest ≤ l.variables;
  a : AddedTo l.variables (words_at 0 l.words) l.all.a l.rest;
  b : AddedTo l.variables (words_at 1 l.words) l.all.b l.rest;
  c : AddedTo l.variables (words_at 2 l.words) l.all.c l.rest;
  d : AddedTo l.variables (words_at 3 l.words) l.all.d l.rest;
}

abbrev pub decreases-loop-rest : goal.decreases-loop-rest
decreases-loop-rest l = l.rest
