-- The bits of a word, each a pair's: of a word packed from bits, of a part of a word, and of a word shifted.
use mathlib.Core.Path.{◌≡◌, refl, sym, ap, ap₂, ◌∙◌}
use mathlib.Core.Bool.{Bool, true, false, not}
use Prim.Native.Nat.{ℕ, zero, suc, ◌+◌, ◌*◌, ◌/◌, ◌%◌, ◌^◌, ◌≤◌, ◌<◌}
use native.Mathlib.Nat.{zero-add, suc-add, pow-succ', div-one, div-div-eq-div-mul, div-add-mod'}
use native.Mathlib.Omega.{arith}
use lib.Bits.{block_half, block_odd}
use Rattle.std.specs.Prelude.{nat_eq}
use Rattle.circuit.specs.Circuit.{is_set}
use Rattle.semantics.specs.Values.{byte}
use Rattle.gadgets.proofs.Bits.{set-byte}
use Rattle.simulation.specs.Internal.Evaluating.{packed}
use Rattle.simulation.proofs.Packing.{packed_none}
use Rattle.counting.specs.Internal.Lanes.{lane_bit}

pub packed-same : (n : ℕ) (f g : ℕ → Bool) → ((l : ℕ) → l < n → f l ≡ g l) → packed n f ≡ packed n g
packed-same zero f g h = refl
packed-same (suc n) f g h = ap₂ (λ (x y : ℕ). x * 2 + y) (packed-same n (λ l. f (suc l)) (λ l. g (suc l)) (λ l k. h (suc l) (omega arith))) (ap byte (h 0 (omega arith)))

-- a bit that all pairs have
pub packed_all : (n : ℕ) (b : Bool) → packed n (λ l. b) ≡ packed n (λ l. true) * byte b
packed_all n true = omega arith
packed_all n false = packed_none n ∙ omega arith

pub packed_lane : (n l : ℕ) (f : ℕ → Bool) → l < n → lane_bit l (packed n f) ≡ f l
packed_lane zero l f h = absurd (omega arith)
packed_lane (suc n) zero f h = digit (f 0)
  where
    digit : (b : Bool) → is_set ((packed n (λ l. f (suc l)) * 2 + byte b) % 2) ≡ b
    digit true = let e : (packed n (λ l. f (suc l)) * 2 + 1) % 2 ≡ 1 = omega arith in rw e
    digit false = let e : (packed n (λ l. f (suc l)) * 2 + 0) % 2 ≡ 0 = omega arith in rw e
packed_lane (suc n) (suc l) f h = ap (lane_bit l) (half (f 0)) ∙ packed_lane n l (λ i. f (suc i)) (omega arith)
  where
    half : (b : Bool) → (packed n (λ l. f (suc l)) * 2 + byte b) / 2 ≡ packed n (λ l. f (suc l))
    half true = omega arith
    half false = omega arith

-- the lowest n bits, and those above them
pub low_lane : (n i a r : ℕ) → i < n → lane_bit i (a * 2 ^ n + r) ≡ lane_bit i r
low_lane zero i a r h = absurd (omega arith)
low_lane (suc n) zero a r h = ap is_set (block_odd a n r)
low_lane (suc n) (suc i) a r h = ap (lane_bit i) (block_half a n r) ∙ low_lane n i a (r / 2) (omega arith)

pub lane_part : (n i x : ℕ) → i < n → lane_bit i (x % 2 ^ n) ≡ lane_bit i x
lane_part n i x h = sym (low_lane n i (x / 2 ^ n) (x % 2 ^ n) h) ∙ ap (lane_bit i) (div-add-mod' x (2 ^ n))

pub lane_shift : (n i x : ℕ) → lane_bit (n + i) x ≡ lane_bit i (x / 2 ^ n)
lane_shift zero i x = ap₂ lane_bit (zero-add i) (sym (div-one x))
lane_shift (suc n) i x = ap (λ m. lane_bit m x) (suc-add n i) ∙ lane_shift n i (x / 2) ∙ ap (lane_bit i) (div-div-eq-div-mul x 2 (2 ^ n) ∙ ap (λ m. x / m) (sym (pow-succ' 2 n)))

-- a digit, and whether it is set, as the code asks for them
pub digit-is : (i x : ℕ) → x / 2 ^ i % 2 ≡ byte (lane_bit i x)
digit-is i x = let z : i + 0 ≡ i = omega arith in set-byte (x / 2 ^ i % 2) (omega arith) ∙ ap byte (sym (lane_shift i 0 x) ∙ ap (λ m. lane_bit m x) z)

pub digit-test : (i x : ℕ) → not (nat_eq (x / 2 ^ i % 2) 0) ≡ lane_bit i x
digit-test i x = rw (digit-is i x) (told (lane_bit i x))
  where
    told : (b : Bool) → not (nat_eq (byte b) 0) ≡ b
    told true = refl
    told false = refl

pub byte_most : (b : Bool) → byte b ≤ 1
byte_most true = omega arith
byte_most false = omega arith
