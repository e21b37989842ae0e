-- The loop's invariant: the pairs before this one are in their places.
use Prim.Native.Nat.{◌+◌, ◌*◌}
use Rattle.writer.specs.Internal.Line.{PairsTo}
use Rattle.writer.proofs.line.pair_row.Given as goal

abbrev pub invariant-loop-j : goal.invariant-loop-j
invariant-loop-j l = PairsTo (16 * l.i + l.j) l.pairs
