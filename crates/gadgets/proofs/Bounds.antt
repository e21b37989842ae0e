-- Products of small numbers.
use Prim.Native.Nat.{ℕ, ◌*◌, ◌-◌, ◌≤◌}
use native.Mathlib.Nat.{mul-le-mul}
use native.Mathlib.Omega.{arith}

pub eights : (x y : ℕ) → x ≤ 8 → y ≤ 8 → x * y ≤ 64
eights x y h k = omega (arith, mul-le-mul {n₁ = x} {m₁ = y} {n₂ = 8} {m₂ = 8} h k)

pub squares : (d : ℕ) → d ≤ 8 → d * (d - 1) ≤ 64
squares d h = eights d (d - 1) h (omega arith)
