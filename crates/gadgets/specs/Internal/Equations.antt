-- The gates inside AND, as the code has them.
use Rattle.std.specs.Prelude.{ℕ}
use Rattle.gadgets.specs.declared.equations.Factors.{Factors}

-- what is multiplied
abbrev pub factors : (one other : ℕ) → Factors
factors x y = record { one = x; other = y }
