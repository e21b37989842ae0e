-- The values of a frame's wires: what each is, from those of the wires before them, and buffers in which they are filled in.
-- A value is a word with a bit for each evaluation; ones is the word in which all of these are set.
use Rattle.std.specs.Prelude.{◌≡◌, cond, List, [], ◌∷◌, ℕ, ◌+◌, ◌*◌, ◌≤◌, ◌<◌, length}
use Rattle.std.specs.Int.Bits.{bit_and, bit_xor}
use Rattle.circuit.specs.Lists.{nth}
use Rattle.circuit.specs.Gadgets.{others}
use Rattle.circuit.specs.Kinds.{pairs}
use Rattle.circuit.specs.Circuit.{is_set}
use Rattle.frames.specs.declared.walk.Gate.{Gate as GateCode}
use Rattle.frames.specs.declared.walk.Gate.TheVariants as gate
use Rattle.frames.specs.declared.walk.Frame.{Frame as FrameCode}
use Rattle.frames.specs.declared.walk.Frame.TheVariants as frame
use Rattle.gadgets.specs.Internal.Places.{word_a, word_b, pair_at, product_at, cross_at, out_at, mask_at, sum_at, held_at}

-- the value of each wire
abbrev pub Values : Type 0
Values = ℕ → ℕ

-- the sum modulo 2 of the values of wires, bit by bit
abbrev pub word_sum : List ℕ → Values → ℕ
word_sum [] v = 0
word_sum (x ∷ xs) v = bit_xor (v x) (word_sum xs v)

-- a buffer that holds the values of the wires from one to another
abbrev pub Known : Values → (from to : ℕ) → List ℕ → Type 0
Known v from to values = (x : ℕ) → from ≤ x → x < to → nth values x ≡ v x

-- a buffer in which the values of the wires from one to another are filled in, where they meet these equations; the rest
-- is as it was
pub record Fills (Equations : Values → Type 0) (from to : ℕ) (old new : List ℕ) : Type 0 where
  pub filled : (v : Values) → Equations v → Known v 0 from old → Known v from to new
  pub below : (x : ℕ) → x < from → nth new x ≡ nth old x
  pub above : (x : ℕ) → to ≤ x → nth new x ≡ nth old x
  pub size : length new ≡ length old

-- wires that have the words of another buffer, from one place to another
abbrev pub Copied : (source : List ℕ) (from to count : ℕ) → Values → Type 0
Copied source from to count v = (q : ℕ) → q < count → v (to + q) ≡ nth source (from + q)

-- r and R of every pair
abbrev pub Drawn : (tape : List ℕ) (used to count : ℕ) → Values → Type 0
Drawn tape used to count v = (q : ℕ) → q < count → let b = nth tape (used + q) in (v (to + 2 * q) ≡ b) × (v (to + 2 * q + 1) ≡ b)

-- B, m and M of every share
abbrev pub ShareProducts : (d first : ℕ) (a b : ℕ → ℕ) → Values → Type 0
ShareProducts d first a b v = (i : ℕ) → i < d → let x = product_at d first i in
    (v x ≡ v (b i)) × (v (x + 1) ≡ bit_and (v (a i)) (v (b i))) × (v (x + 2) ≡ bit_and (v (a i)) (v (b i)))

-- u and U, v and V, w and W, from the words of a, b and r
abbrev pub Crossed : (ones at a b r : ℕ) → Values → Type 0
Crossed ones at a b r v =
    let x = bit_and (bit_xor ones a) r in
    let y = bit_xor b r in
    let z = bit_and a (bit_xor b r) in
    (v at ≡ x) × (v (at + 1) ≡ x) × (v (at + 2) ≡ y) × (v (at + 3) ≡ y) × (v (at + 4) ≡ z) × (v (at + 5) ≡ z)

abbrev pub crossing : (ones a b r : ℕ) → ℕ
crossing ones a b r = bit_xor (bit_and (bit_xor ones a) r) (bit_and a (bit_xor b r))

-- of the share i, whose word of a is given, and every other
abbrev pub RowCrossed : (ones d first i a : ℕ) → Values → Type 0
RowCrossed ones d first i a v = (j : ℕ) → j < d → (j ≡ i → ⊥) → Crossed ones (cross_at d first i j) a (v (product_at d first j)) (v (pair_at d first i j)) v

abbrev pub crossing_at : (ones d first i a : ℕ) → Values → Values
crossing_at ones d first i a v j = crossing ones a (v (product_at d first j)) (v (pair_at d first i j))

-- the outputs of AND
pub record Multiplied (ones d first : ℕ) (a : ℕ → ℕ) (v : Values) : Type 0 where
  pub crossed : (i : ℕ) → i < d → RowCrossed ones d first i (v (a i)) v
  pub out : (i : ℕ) → i < d → v (out_at d first i) ≡ bit_xor (v (product_at d first i + 2)) (word_sum (others d i) (crossing_at ones d first i (v (a i)) v))

-- AND
pub record AndValues (ones d first : ℕ) (a b : ℕ → ℕ) (tape : List ℕ) (used : ℕ) (v : Values) : Type 0 where
  pub drawn : Drawn tape used first (pairs d) v
  pub products : ShareProducts d first a b v
  pub multiplied : Multiplied ones d first a v

-- the sums of REF, from its random bits
abbrev pub Masked : (d first : ℕ) (a : ℕ → ℕ) → Values → Type 0
Masked d first a v = (i : ℕ) → i < d → v (sum_at d first i) ≡ bit_xor (v (a i)) (word_sum (others d i) (λ j. v (mask_at d first i j)))

-- its random bits and the sums
pub record DrawnMasked (d first : ℕ) (a : ℕ → ℕ) (tape : List ℕ) (used : ℕ) (v : Values) : Type 0 where
  pub drawn : Copied tape used first (pairs d) v
  pub masked : Masked d first a v

abbrev pub Held : (d first : ℕ) → Values → Type 0
Held d first v = (i : ℕ) → i < d → v (held_at d first i) ≡ v (sum_at d first i)

-- REF
pub record RefValues (d first : ℕ) (a : ℕ → ℕ) (tape : List ℕ) (used : ℕ) (v : Values) : Type 0 where
  pub drawn : Copied tape used first (pairs d) v
  pub masked : Masked d first a v
  pub held : Held d first v

-- a gate
abbrev pub GateValues : GateCode → (ones d first from : ℕ) (shares : List ℕ) → Values → Type 0
GateValues (gate.In t) ones d first from shares v = Copied shares from first d v
GateValues (gate.Con l b t) ones d first from shares v = v first ≡ cond (is_set b) ones 0
GateValues (gate.Xor x y) ones d first from shares v = v first ≡ bit_xor (v x) (v y)
GateValues (gate.Not x) ones d first from shares v = v first ≡ bit_xor ones (v x)
GateValues (gate.Reg x) ones d first from shares v = v first ≡ v x
GateValues gate.Out ones d first from shares v = Unit {0}

-- a frame
abbrev pub FrameValues : FrameCode → (ones d first from used : ℕ) (ops shares tape : List ℕ) → Values → Type 0
FrameValues (frame.Gate g) ones d first from used ops shares tape v = GateValues g ones d first from shares v
FrameValues frame.And ones d first from used ops shares tape v = AndValues ones d first (word_a ops) (word_b d ops) tape used v
FrameValues frame.Ref ones d first from used ops shares tape v = RefValues d first (word_a ops) tape used v
