-- How long a line is: the sum of its parts, and at most 93 bytes.
use mathlib.Core.Path.{◌≡◌}
use mathlib.Core.List.{List}
use Prim.Native.Nat.{ℕ, ◌+◌, ◌≤◌, ◌<◌, ◌^◌}
use native.Mathlib.Nat.{add_assoc}
use native.Mathlib.Omega.{arith}
use lib.ListN.{length, length-append}
use Rattle.judge.specs.Printed.{field, line}
use Rattle.judge.proofs.Numbers.{twenty_digits}

module _ (a : List ℕ) (x : ℕ) (b : List ℕ) (y : ℕ) (c : List ℕ) (z : ℕ) where
  pub line-length : length (line a x b y c z) ≡ length (field a x) + length (field b y) + length (field c z) + 1
  line-length = simp (length-append, add_assoc)

  -- numbers of 64 bits, and names of 32 bytes in all
  pub short_line : x < 2 ^ 64 → y < 2 ^ 64 → z < 2 ^ 64 → length a + length b + length c ≤ 32 → length (line a x b y c z) ≤ 93
  short_line hx hy hz h = rw line-length (simp length-append (omega (arith, twenty_digits x hx, twenty_digits y hy, twenty_digits z hz)))
