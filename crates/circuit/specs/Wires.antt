-- Document 01, "Frames": what a wire is.
use Rattle.std.specs.Prelude.{Bool, true, false, List, ℕ}

-- what drives a wire, from the wires of the numbers given
pub data Gate : Type 0 where
  input : ℕ → Gate  -- the share of this number, counted over all INs
  constant : Bool → Gate
  random : Gate  -- the next bit of the tape
  reg : ℕ → Gate
  inverse : ℕ → Gate
  sum : List ℕ → Gate  -- modulo 2
  product : ℕ → ℕ → Gate
  and_not : ℕ → ℕ → Gate  -- (not x)·y

-- document 01's term: a stop is an IN or CON wire, a random bit, or a register. A probe reads back to stops, and a wire is
-- registered where its gate is one
abbrev pub is_stop : Gate → Bool
is_stop (input n) = true
is_stop (constant b) = true
is_stop random = true
is_stop (reg x) = true
is_stop (inverse x) = false
is_stop (sum xs) = false
is_stop (product x y) = false
is_stop (and_not x y) = false

-- where a wire stands. Document 01's terms: a label is a wire's share, 0 to d−1; a stage is its clock, 0 to 255. An inner
-- wire has no label, and its stage is not shown in the notes
pub data Place : Type 0 where
  named : (label stage : ℕ) → Place
  inner : (stage : ℕ) → Place

pub record Wire : Type 0 where
  pub gate : Gate
  pub place : Place

infix 30 ◌placed◌
abbrev pub ◌placed◌ : Gate → Place → Wire
g placed p = record { gate = g; place = p }
