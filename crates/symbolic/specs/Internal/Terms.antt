-- Products of two sums with a third added; the wires inside AND as such terms.
use Rattle.std.specs.Prelude.{◌≡◌, cond, List, ℕ, ◌+◌, ◌*◌, ◌-◌, ◌^◌, ◌≤◌, ◌<◌, leb, ltb, length, set}
use Rattle.std.specs.Int.Bits.{bit_xor}
use Rattle.circuit.specs.Limits.{wire_limit}
use Rattle.circuit.specs.Kinds.{pairs}
use Rattle.circuit.specs.Lists.{nth, range}
use Rattle.circuit.specs.Gadgets.{others}
use Rattle.gadgets.specs.declared.places.Gadget.{Gadget}
use Rattle.gadgets.specs.Internal.Places.{word_a, word_b, mask_at, cross_start, out_at, sum_at, held_at}
use Rattle.gadgets.specs.Internal.Frames.{RowBefore}
use Rattle.simulation.specs.Internal.Filling.{word_sum}
use Rattle.symbolic.specs.declared.gadget.Term.{Term}
use Rattle.symbolic.specs.declared.offsets.Inner.{Inner}
use Rattle.symbolic.specs.declared.offsets.Inner.TheVariants.{R, B, M, U, V, W}
use Rattle.symbolic.specs.Internal.Inside.{inner_at}

-- the sum that is 1
abbrev pub one : ℕ
one = 0x20000

abbrev pub term : (one other more : ℕ) → Term
term x y z = record { one = x; other = y; more = z }

abbrev pub alone : (sum : ℕ) → Term
alone s = term 0 0 s

abbrev pub times : (one other : ℕ) → Term
times x y = term x y 0

module _ (d : ℕ) (ops sums tape : List ℕ) (used : ℕ) where
  abbrev a : ℕ → ℕ
  a i = nth sums (word_a ops i)

  abbrev b : ℕ → ℕ
  b i = nth sums (word_b d ops i)

  abbrev r : (i j : ℕ) → ℕ
  r i j = nth tape (mask_at d used i j)

  -- a wire inside AND, and the one that stands so far behind the first
  abbrev pub wire_term : Inner → Term
  wire_term (R q) = alone (nth tape (used + q))
  wire_term (B i) = alone (b i)
  wire_term (M i) = times (a i) (b i)
  wire_term (U i j) = times (bit_xor one (a i)) (r i j)
  wire_term (V i j) = alone (bit_xor (b j) (r i j))
  wire_term (W i j) = times (a i) (bit_xor (b j) (r i j))

  abbrev pub inner_term : (offset : ℕ) → Term
  inner_term o = wire_term (inner_at d o)

  -- the output of a share
  abbrev pub output_term : (i : ℕ) → Term
  output_term i = term (a i) (word_sum (range 0 d) b) (word_sum (others d i) (λ j. nth tape (mask_at d used i j)))

-- a product is a variable of its own: the product of a term, and the sum that the term is with a variable in the product's place
abbrev pub product : Term → Term
product t = times t.one t.other

abbrev pub sum_with : (variable : ℕ) → Term → ℕ
sum_with n t = bit_xor (2 ^ n) t.more

-- a list of products with that of a term written
abbrev pub with_term : (terms : List ℕ) (n : ℕ) → Term → List ℕ
with_term terms n t = set (set terms (2 * n) t.one) (2 * n + 1) t.other

-- the product at a place of a list
abbrev pub term_at : (terms : List ℕ) (n : ℕ) → Term
term_at terms n = times (nth terms (2 * n)) (nth terms (2 * n + 1))

-- a tape with a gadget's random bits
abbrev pub Drawn : (d used drawn : ℕ) → Type 0
Drawn d used drawn = (used ≤ 16) × (used + pairs d ≤ drawn)

-- what AND and REF ask for: earlier wires, room for theirs, and their random bits
pub record AndAsks (d first : ℕ) (ops : List ℕ) (room drawn used : ℕ) : Type 0 where
  pub two : 2 ≤ d
  pub most : d ≤ 8
  pub words : length ops ≡ 1 + d + d
  pub early_a : RowBefore first d (word_a ops)
  pub early_b : RowBefore first d (word_b d ops)
  pub roomy : first + (7 * (d * (d - 1)) + 4 * d) ≤ room
  pub few : room ≤ wire_limit
  pub bits : used + pairs d ≤ drawn
  pub near : used ≤ 16

abbrev pub AndTakes : Gadget → (ops sums tape : List ℕ) → Type 0
AndTakes g ops sums tape = AndAsks g.d g.first ops (length sums) (length tape) g.used

pub record RefAsks (d first : ℕ) (ops : List ℕ) (room drawn used : ℕ) : Type 0 where
  pub two : 2 ≤ d
  pub most : d ≤ 8
  pub words : 1 + d ≤ length ops
  pub early : RowBefore first d (word_a ops)
  pub roomy : first + (pairs d + 2 * d) ≤ room
  pub few : room ≤ wire_limit
  pub bits : used + pairs d ≤ drawn
  pub near : used ≤ 16

-- a list of at most eight wires that have sums
abbrev pub Listed : (read : List ℕ) (wires : ℕ) → Type 0
Listed read wires = (length read ≤ 8) × ((i : ℕ) → i < length read → nth read i < wires)

-- a wire that is read, where it is inside AND: what is written
abbrev pub where_inside : {A : Type 0} (d first wire : ℕ) (old new : A) → A
where_inside d first x old new = cond (ltb x first) old (cond (leb (cross_start d d) (x - first)) old new)

abbrev pub read_sums : (d first : ℕ) (ops sums tape : List ℕ) (used wire n : ℕ) → List ℕ
read_sums d first ops sums tape used x n = where_inside d first x sums (set sums x (sum_with (50 + n) (inner_term d ops sums tape used (x - first))))

abbrev pub read_terms : (d first : ℕ) (ops sums tape : List ℕ) (used wire n : ℕ) (terms : List ℕ) → List ℕ
read_terms d first ops sums tape used x n terms = where_inside d first x terms (with_term terms (32 + n) (inner_term d ops sums tape used (x - first)))

-- a wire inside AND
abbrev pub Inside : (d first x : ℕ) → Type 0
Inside d first x = (first ≤ x) × (x < first + cross_start d d)

-- all wires that are read
pub record ReadsInside (d first : ℕ) (ops tape : List ℕ) (used : ℕ) (read : List ℕ) (found : ℕ) (sums terms sums' terms' : List ℕ) : Type 0 where
  pub term_is : (i : ℕ) → i < found → Inside d first (nth read i) → term_at terms' (32 + i) ≡ product (inner_term d ops sums tape used (nth read i - first))
  pub sum_is : (i : ℕ) → i < found → Inside d first (nth read i)
      → (j : ℕ) × (j < found) × (nth read j ≡ nth read i) × (nth sums' (nth read i) ≡ sum_with (50 + j) (inner_term d ops sums tape used (nth read i - first)))
  pub term_kept : (n : ℕ) → ((i : ℕ) → i < found → n ≡ 32 + i → Inside d first (nth read i) → ⊥) → term_at terms' n ≡ term_at terms n
  pub sum_kept : (x : ℕ) → (Inside d first x → ⊥) → nth sums' x ≡ nth sums x
  pub sums_sized : length sums' ≡ length sums
  pub terms_sized : length terms' ≡ length terms

-- the outputs
pub record WritesOutputs (d first : ℕ) (ops tape : List ℕ) (used outputs : ℕ) (sums terms sums' terms' : List ℕ) : Type 0 where
  pub term_is : (i : ℕ) → i < d → term_at terms' (outputs + i) ≡ product (output_term d ops sums tape used i)
  pub sum_is : (i : ℕ) → i < d → nth sums' (out_at d first i) ≡ sum_with (18 + outputs + i) (output_term d ops sums tape used i)
  pub term_kept : (n : ℕ) → (outputs ≤ n → n < outputs + d → ⊥) → term_at terms' n ≡ term_at terms n
  pub sum_kept : (x : ℕ) → (x < out_at d first 0) → nth sums' x ≡ nth sums x
  pub sums_sized : length sums' ≡ length sums
  pub terms_sized : length terms' ≡ length terms

-- sums that another list has
pub record Copies (source : List ℕ) (from at count : ℕ) (old new : List ℕ) : Type 0 where
  pub are : (q : ℕ) → q < count → nth new (at + q) ≡ nth source (from + q)
  pub below : (x : ℕ) → x < at → nth new x ≡ nth old x
  pub sized : length new ≡ length old

-- REF
pub record Refreshes (d first : ℕ) (ops tape : List ℕ) (used : ℕ) (old new : List ℕ) : Type 0 where
  pub drawn : (q : ℕ) → q < pairs d → nth new (first + q) ≡ nth tape (used + q)
  pub summed : (i : ℕ) → i < d → nth new (sum_at d first i) ≡ bit_xor (nth old (word_a ops i)) (word_sum (others d i) (λ j. nth tape (mask_at d used i j)))
  pub held : (i : ℕ) → i < d → nth new (held_at d first i) ≡ bit_xor (nth old (word_a ops i)) (word_sum (others d i) (λ j. nth tape (mask_at d used i j)))
  pub below : (x : ℕ) → x < first → nth new x ≡ nth old x
  pub sized : length new ≡ length old
