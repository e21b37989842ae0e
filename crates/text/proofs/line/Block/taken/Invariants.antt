-- The loop's invariant: the lines before this one break none of the rules, and so lie in the room.
use mathlib.Core.Path.{◌≡◌}
use Prim.Native.Nat.{ℕ, ◌≤◌, ◌<◌}
use Rattle.std.specs.Prelude.{Ok}
use Rattle.text.specs.Internal.Blocks.{start_of, rule_of}
use Rattle.text.proofs.line.Block.taken.Given as goal

abbrev pub invariant-loop-i : goal.invariant-loop-i
invariant-loop-i l = record {
  begins : l.start ≡ start_of l.self.ends l.i;
  fits : l.start ≤ l.room;
  keeps : (g : ℕ) → g < l.i → rule_of l.lengths.d l.self.words l.self.ends l.room g ≡ Ok tt;
}
