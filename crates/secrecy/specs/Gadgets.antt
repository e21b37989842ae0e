-- The statement on products: the gadgets of an accepted table compute what they are named for.
use Rattle.std.specs.Prelude.{◌≡◌, Bool, ◌&&◌, List, ◌∷◌, ◌++◌, map, ℕ, ◌+◌, length}
use Rattle.circuit.specs.Lists.{nth}
use Rattle.circuit.specs.Gadgets.{Part, labels, in_and, in_ref}
use Rattle.circuit.specs.Kinds.{AND, REF}
use Rattle.circuit.specs.Circuit.{size, empty}
use Rattle.circuit.specs.Composition.{Frame, frame, AllFit, build, words_of}
use Rattle.semantics.specs.Values.{at, xor_sum}

-- the sum modulo 2 of the values of d wires
abbrev pub added : (d : ℕ) (wire : ℕ → ℕ) (values : List Bool) → Bool
added d wire values = xor_sum (map wire (labels d)) (at values)

-- the i-th output of a gadget behind the frames `before`, whose inner parts are these
abbrev pub output : (d : ℕ) (before : List Frame) (inside : List Part) → ℕ → ℕ
output d before inside i = size (build (empty d) before) + length inside + i

-- the table's frames; of each AND the outputs, added, are the product of the added wires a and the added wires b; of each REF
-- the outputs, added, are its added wires
pub record Computes (table : List ℕ) (values : List Bool) : Type 0 where
  pub d : ℕ
  pub fs : List Frame
  pub table_is : table ≡ 0 ∷ d ∷ words_of fs
  pub fit : AllFit (empty d) fs
  pub products : (before after : List Frame) (ops : List ℕ) → fs ≡ before ++ (frame AND ops ∷ after)
      → added d (output d before (in_and d)) values ≡ (added d (λ i. nth ops (1 + i)) values && added d (λ i. nth ops (1 + d + i)) values)
  pub refreshes : (before after : List Frame) (ops : List ℕ) → fs ≡ before ++ (frame REF ops ∷ after)
      → added d (output d before (in_ref d)) values ≡ added d (λ i. nth ops (1 + i)) values
