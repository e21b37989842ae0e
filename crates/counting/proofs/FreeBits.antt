-- The word of a free bit of 64 pairs: six patterns, then digits of the word's number.
use mathlib.Core.Path.{◌≡◌, refl, sym, ap, ◌∙◌}
use mathlib.Core.Bool.{true}
use Prim.Native.Nat.{ℕ, ◌+◌, ◌*◌, ◌-◌, ◌/◌, ◌%◌, ◌^◌, ◌≤◌, ◌<◌}
use native.Mathlib.Nat.{mul_comm, add-zero}
use native.Mathlib.Omega.{arith}
use Rattle.semantics.specs.Values.{byte}
use Rattle.gadgets.proofs.Bits.{set-byte}
use Rattle.simulation.specs.Internal.Evaluating.{packed}
use Rattle.counting.specs.Internal.Lanes.{lane_bit}
use Rattle.counting.specs.Internal.Words.{ones, free_word}
use Rattle.counting.proofs.WordBits.{packed-same, packed_all, low_lane, lane_shift}

pub ones-are : packed 64 (λ l. true) ≡ ones
ones-are = refl

-- the lowest six digits of 64 · number + l are those of l, and the others those of the number
pub low_word : (i number : ℕ) → i < 6 → free_word i number ≡ packed 64 (lane_bit i)
low_word i number h = packed-same 64 (λ l. lane_bit i (64 * number + l)) (lane_bit i) (λ l k. ap (λ m. lane_bit i (m + l)) (mul_comm 64 number) ∙ low_lane 6 i number l h)

pub high_word : (i number : ℕ) → 6 ≤ i → free_word i number ≡ ones * (number / 2 ^ (i - 6) % 2)
high_word i number h =
    let j = i - 6 in
    let e : i ≡ 6 + j = omega arith in
    let same : (l : ℕ) → l < 64 → lane_bit i (64 * number + l) ≡ lane_bit j number = λ l k.
    let f : (64 * number + l) / 64 ≡ number = omega arith in
    ap (λ m. lane_bit m (64 * number + l)) e ∙ lane_shift 6 j (64 * number + l) ∙ ap (lane_bit j) f in
    packed-same 64 (λ l. lane_bit i (64 * number + l)) (λ l. lane_bit j number) same ∙ packed_all 64 (lane_bit j number)
    ∙ ap (λ b. ones * byte b) (ap (λ m. lane_bit m number) (sym (add-zero j)) ∙ lane_shift j 0 number) ∙ ap (λ m. ones * m) (sym (set-byte (number / 2 ^ j % 2) (omega arith)))
