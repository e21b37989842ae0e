-- Bits as bytes: their products and their sums modulo 2.
use mathlib.Core.Path.{◌≡◌, refl}
use mathlib.Core.Bool.{Bool, true, false, ◌&&◌}
use mathlib.Core.List.{List}
use Prim.Native.Nat.{ℕ, zero, suc, ◌≤◌, ◌<◌}
use native.Mathlib.Omega.{arith}
use lib.Bits.{bit_and, bit_xor}
use lib.ListN.{get_or-map}
use Rattle.circuit.specs.Lists.{◌⊕◌, nth}
use Rattle.circuit.specs.Circuit.{is_set}
use Rattle.semantics.specs.Values.{bits, byte, at}

pub bits_at : (values : List ℕ) (i : ℕ) → at (bits values) i ≡ is_set (nth values i)
bits_at values i = get_or-map is_set values i 0

pub set_low : (n : ℕ) → n < 1 → is_set n ≡ false
set_low zero h = refl
set_low (suc n) h = absurd (omega arith)

pub set_high : (n : ℕ) → 1 ≤ n → is_set n ≡ true
set_high zero h = absurd (omega arith)
set_high (suc n) h = refl

pub set-byte : (n : ℕ) → n ≤ 1 → n ≡ byte (is_set n)
set-byte zero h = refl
set-byte (suc zero) h = refl
set-byte (suc (suc n)) h = absurd (omega arith)

pub byte-and : (a b : Bool) → bit_and (byte a) (byte b) ≡ byte (a && b)
byte-and true true = refl
byte-and true false = refl
byte-and false true = refl
byte-and false false = refl

pub byte-xor : (a b : Bool) → bit_xor (byte a) (byte b) ≡ byte (a ⊕ b)
byte-xor true true = refl
byte-xor true false = refl
byte-xor false true = refl
byte-xor false false = refl
