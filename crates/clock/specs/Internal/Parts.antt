-- What the parts of a frame do on a clock.
use Rattle.std.specs.Prelude.{◌≡◌, List, ℕ, ◌+◌, ◌-◌, ◌*◌, ◌≤◌, ◌<◌}
use Rattle.std.specs.Int.Bits.{bit_xor}
use Rattle.circuit.specs.Lists.{nth, range}
use Rattle.circuit.specs.Wires.{random, reg}
use Rattle.frames.specs.declared.walk.Frame.{Frame as FrameCode}
use Rattle.gadgets.specs.Internal.Places.{product_at, cross_at, out_at, sum_at, held_at}
use Rattle.gadgets.specs.Internal.Gates.{CrossGates, CrossRowGates, CrossAllGates, ProductsGates, OutGates, FrameGates}
use Rattle.gadgets.specs.Internal.Frames.{frame_wires}
use Rattle.simulation.specs.Internal.Filling.{Values, word_sum}
use Rattle.clock.specs.Internal.Running.{Clock, Upto}

-- r and R of every pair, the random bits being fed
abbrev pub Draws : (tape : List ℕ) (used at count : ℕ) → Clock → Type 0
Draws tape used at count k = (at + 2 * count ≤ k.size)
    × ((q : ℕ) → q < count → (k.gate (at + 2 * q) ≡ random) × (k.gate (at + 2 * q + 1) ≡ reg (at + 2 * q)) × (k.shows (at + 2 * q) ≡ nth tape (used + q)))

-- B, m and M of every share
abbrev pub Products : (d first : ℕ) (a b : ℕ → ℕ) → Clock → Type 0
Products d first a b k = (product_at d first d ≤ k.size) × ProductsGates d first a b k.gate

-- u to W of two shares, over the wires x of a(i), y of b(j) and z of r, whose words are given: the sum of what U and W show
abbrev pub crossing : Values → (at : ℕ) → ℕ
crossing v at = bit_xor (v (at + 1)) (v (at + 5))

pub record Crosses (at a b r held : ℕ) (values bank new_values new_bank : List ℕ) (s : ℕ) : Type 0 where
  pub on : (k : Clock) (x y z : ℕ) → at + 6 ≤ k.size → CrossGates at x y z k.gate
      → a ≡ k.shows x → b ≡ k.shows y → r ≡ k.shows z → held ≡ k.shows (z + 1) → Upto k at values bank
      → Upto k (at + 6) new_values new_bank × (s ≡ crossing k.shows at)
  pub above : (x : ℕ) → at + 6 ≤ x → nth new_values x ≡ nth values x

-- those of the share i, whose word of a is given, and of others, added to a word
pub record CrossesRow (d first i : ℕ) (b : ℕ → ℕ) (a word from to : ℕ) (values bank new_values new_bank : List ℕ) (s : ℕ) : Type 0 where
  pub on : (k : Clock) (x : ℕ → ℕ) → out_at d first d ≤ k.size → CrossRowGates d first x b i k.gate → a ≡ k.shows (x i) → Upto k (cross_at d first i from) values bank
      → Upto k (cross_at d first i to) new_values new_bank × (s ≡ bit_xor word (word_sum (range from (to - from)) (λ j. crossing k.shows (cross_at d first i j))))
  pub above : (x : ℕ) → cross_at d first i to ≤ x → nth new_values x ≡ nth values x

-- those of all shares, and the outputs
abbrev pub Rows : (d first : ℕ) (a b : ℕ → ℕ) → Clock → Type 0
Rows d first a b k = (out_at d first d ≤ k.size) × CrossAllGates d first a b k.gate × OutGates d first k.gate

-- REF's outputs
abbrev pub Holds : (d first : ℕ) → Clock → Type 0
Holds d first k = (held_at d first d ≤ k.size) × ((i : ℕ) → i < d → k.gate (held_at d first i) ≡ reg (sum_at d first i))

-- a frame, from shares and a tape on
pub record Framed (fr : FrameCode) (d first from used : ℕ) (ops shares tape : List ℕ) (k : Clock) : Type 0 where
  pub within : first + frame_wires fr d ≤ k.size
  pub gates : FrameGates fr d first from ops k.gate
  pub drawn : k.rank first ≡ used
  pub shares_are : k.shares ≡ shares
  pub tape_is : k.tape ≡ tape
