-- The loop's invariant: the rows before this one are in their places.
use Prim.Native.Nat.{◌*◌}
use Rattle.writer.specs.Internal.Line.{PairsTo}
use Rattle.writer.proofs.line.Pairs.new.Given as goal

abbrev pub invariant-loop-i : goal.invariant-loop-i
invariant-loop-i l = PairsTo (16 * l.i) l.by_byte
