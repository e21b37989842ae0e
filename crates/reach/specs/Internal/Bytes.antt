-- Bytes looked at together.
use Rattle.std.specs.Prelude.{List, ℕ, ◌≤◌, ◌<◌, length}
use Rattle.circuit.specs.Lists.{nth}

-- none of these bytes is over r
pub record Most (bytes : List ℕ) (r : ℕ) : Type 0 where
  pub is : (x : ℕ) → x < length bytes → nth bytes x ≤ r
