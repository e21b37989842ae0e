-- What the parts of AND and REF fill in.
use Rattle.std.specs.Prelude.{◌≡◌, List, [], ℕ, ◌+◌, ◌≤◌, length}
use Rattle.std.specs.Int.Bits.{bit_xor}
use Rattle.circuit.specs.Lists.{nth}
use Rattle.circuit.specs.Gadgets.{others}
use Rattle.circuit.specs.Kinds.{pairs}
use Rattle.frames.specs.declared.walk.Frame.{Frame as FrameCode}
use Rattle.frames.specs.declared.walk.Frame.TheVariants as frame
use Rattle.gadgets.specs.declared.places.Gadget.{Gadget}
use Rattle.gadgets.specs.Internal.Places.{cross_start, pair_at, product_at, cross_at, mask_at, sum_at}
use Rattle.gadgets.specs.Internal.Frames.{frame_wires, FrameEarly}
use Rattle.simulation.specs.Internal.Filling.{Values, word_sum, Known, Fills, Crossed, crossing, RowCrossed, crossing_at, FrameValues}

-- what a gadget's code takes: words that name earlier wires, a random bit for each pair, and room for the gadget's wires; and what it writes
abbrev pub Takes : FrameCode → Gadget → (ops tape values : List ℕ) → Type 0
Takes f g ops tape values = FrameEarly f g.d g.first ops × (g.used + g.pairs ≤ length tape) × (g.first + frame_wires f g.d ≤ length values)

abbrev pub Writes : FrameCode → Gadget → (ops tape old new : List ℕ) → Type 0
Writes f g ops tape old new = Fills (FrameValues f 1 g.d g.first 0 g.used ops [] tape) g.first (g.first + frame_wires f g.d) old new

-- the same of REF, with room for its random bits and sums alone
abbrev pub TakesMasks : Gadget → (ops tape values : List ℕ) → Type 0
TakesMasks g ops tape values = FrameEarly frame.Ref g.d g.first ops × (g.used + g.pairs ≤ length tape) × (sum_at g.d g.first g.d ≤ length values)

-- the wires of two shares
pub record Crosses (at a b r : ℕ) (old new : List ℕ) (s : ℕ) : Type 0 where
  pub fills : Fills (Crossed 1 at a b r) at (at + 6) old new
  pub adds : s ≡ crossing 1 a b r

-- the wires of a share and another, added to a word; nothing of a share and itself
pub record CrossesOther (d first i j a word : ℕ) (old new : List ℕ) (s : ℕ) : Type 0 where
  pub itself : j ≡ i → (s ≡ word) × (new ≡ old)
  pub other : (j ≡ i → ⊥) → ((t : ℕ) × Crosses (cross_at d first i j) a (nth old (product_at d first j)) (nth old (pair_at d first i j)) old new t × (s ≡ bit_xor word t))

-- the wires of a share and every other, the sums of their U and W added to a word
pub record CrossesRow (d first i a word : ℕ) (old new : List ℕ) (s : ℕ) : Type 0 where
  pub fills : Fills (RowCrossed 1 d first i a) (first + cross_start d i) (first + cross_start d (i + 1)) old new
  pub adds : (v : Values) → RowCrossed 1 d first i a v → Known v 0 (first + cross_start d i) old → s ≡ bit_xor word (word_sum (others d i) (crossing_at 1 d first i a v))

-- a word and REF's random bits of a share and every other, added
pub record Sums (d first i word : ℕ) (values : List ℕ) (s : ℕ) : Type 0 where
  pub is : (v : Values) → Known v 0 (first + pairs d) values → s ≡ bit_xor word (word_sum (others d i) (λ j. v (mask_at d first i j)))
