-- The gates of a frame's wires, by the places of the wires.
use Rattle.std.specs.Prelude.{◌≡◌, List, [], ◌∷◌, ◌++◌, map, ℕ, ◌+◌, ◌*◌, ◌<◌}
use Rattle.circuit.specs.Wires.{Gate, input, constant, random, reg, inverse, sum, product, and_not}
use Rattle.circuit.specs.Gadgets.{others}
use Rattle.circuit.specs.Kinds.{pairs}
use Rattle.circuit.specs.Circuit.{is_set}
use Rattle.frames.specs.declared.walk.Gate.{Gate as GateCode}
use Rattle.frames.specs.declared.walk.Gate.TheVariants as gate
use Rattle.frames.specs.declared.walk.Frame.{Frame as FrameCode}
use Rattle.frames.specs.declared.walk.Frame.TheVariants as frame
use Rattle.gadgets.specs.Internal.Places.{word_a, word_b, pair_at, product_at, cross_at, out_at, mask_at, sum_at, held_at}

-- B, m and M from a wire on, over a(i) and b(i)
abbrev pub ProductGates : (x a b : ℕ) → (ℕ → Gate) → Type 0
ProductGates x a b g = (g x ≡ reg b) × (g (x + 1) ≡ product a x) × (g (x + 2) ≡ reg (x + 1))

-- u, U, v, V, w and W from a wire on, over a(i), b(j) and r(i,j)
abbrev pub CrossGates : (x a b r : ℕ) → (ℕ → Gate) → Type 0
CrossGates x a b r g = (g x ≡ and_not a (r + 1)) × (g (x + 1) ≡ reg x) × (g (x + 2) ≡ sum (b ∷ r ∷ [])) × (g (x + 3) ≡ reg (x + 2))
    × (g (x + 4) ≡ product a (x + 3)) × (g (x + 5) ≡ reg (x + 4))

-- those of the share i and each other
abbrev pub CrossRowGates : (d first : ℕ) (a b : ℕ → ℕ) (i : ℕ) → (ℕ → Gate) → Type 0
CrossRowGates d first a b i g = (j : ℕ) → j < d → (j ≡ i → ⊥) → CrossGates (cross_at d first i j) (a i) (b j) (pair_at d first i j) g

-- those of all shares
abbrev pub CrossAllGates : (d first : ℕ) (a b : ℕ → ℕ) → (ℕ → Gate) → Type 0
CrossAllGates d first a b g = (i : ℕ) → i < d → CrossRowGates d first a b i g

abbrev pub ProductsGates : (d first : ℕ) (a b : ℕ → ℕ) → (ℕ → Gate) → Type 0
ProductsGates d first a b g = (i : ℕ) → i < d → ProductGates (product_at d first i) (a i) (b i) g

-- the outputs of AND
abbrev pub OutGates : (d first : ℕ) → (ℕ → Gate) → Type 0
OutGates d first g = (i : ℕ) → i < d
    → g (out_at d first i) ≡ sum ((product_at d first i + 2) ∷ map (λ j. cross_at d first i j + 1) (others d i) ++ map (λ j. cross_at d first i j + 5) (others d i))

-- AND from the wire `first` on, over the wires a and b
pub record AndGates (g : ℕ → Gate) (d first : ℕ) (a b : ℕ → ℕ) : Type 0 where
  pub draws : (q : ℕ) → q < pairs d → (g (first + 2 * q) ≡ random) × (g (first + 2 * q + 1) ≡ reg (first + 2 * q))
  pub products : ProductsGates d first a b g
  pub crosses : CrossAllGates d first a b g
  pub outs : OutGates d first g

-- the sums of REF
abbrev pub SumGates : (d first : ℕ) (a : ℕ → ℕ) → (ℕ → Gate) → Type 0
SumGates d first a g = (i : ℕ) → i < d → g (sum_at d first i) ≡ sum (a i ∷ map (λ j. mask_at d first i j) (others d i))

-- REF
pub record RefGates (g : ℕ → Gate) (d first : ℕ) (a : ℕ → ℕ) : Type 0 where
  pub draws : (q : ℕ) → q < pairs d → g (first + q) ≡ random
  pub sums : SumGates d first a g
  pub holds : (i : ℕ) → i < d → g (held_at d first i) ≡ reg (sum_at d first i)

-- those of a gate whose shares come behind so many others
abbrev pub GateGates : GateCode → (d first from : ℕ) → (ℕ → Gate) → Type 0
GateGates (gate.In t) d first from g = (q : ℕ) → q < d → g (first + q) ≡ input (from + q)
GateGates (gate.Con l b t) d first from g = g first ≡ constant (is_set b)
GateGates (gate.Xor x y) d first from g = g first ≡ sum (x ∷ y ∷ [])
GateGates (gate.Not x) d first from g = g first ≡ inverse x
GateGates (gate.Reg x) d first from g = g first ≡ reg x
GateGates gate.Out d first from g = Unit {0}

-- those of a frame
abbrev pub FrameGates : FrameCode → (d first from : ℕ) (ops : List ℕ) → (ℕ → Gate) → Type 0
FrameGates (frame.Gate g) d first from ops h = GateGates g d first from h
FrameGates frame.And d first from ops h = AndGates h d first (word_a ops) (word_b d ops)
FrameGates frame.Ref d first from ops h = RefGates h d first (word_a ops)
