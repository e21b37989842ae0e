-- A variable flipped: what changes in a sum, and in the number of a combination.
use mathlib.Core.Path.{◌≡◌, refl, sym, ap, ap₂, ◌∙◌}
use mathlib.Core.Bool.{Bool, true, false, true≢false}
use mathlib.Core.List.{List, [], ◌∷◌, ◌++◌, map}
use Prim.Native.Nat.{ℕ, zero, suc, ◌+◌, ◌*◌, ◌/◌, ◌%◌, ◌^◌, ◌<◌}
use native.Mathlib.Nat.{pow-suc}
use native.Mathlib.Omega.{arith}
use lib.Bits.{bit_xor, xor_block, xor_comm, xor_zero_r}
use lib.ListN.{length, length-map}
use Rattle.circuit.specs.Lists.{◌⊕◌}
use Rattle.circuit.specs.Circuit.{is_set}
use Rattle.circuit.proofs.Base.{cases, In, in_head, in_tail}
use Rattle.semantics.specs.Values.{byte, at}
use Rattle.simulation.specs.Internal.Filling.{Values}
use Rattle.simulation.proofs.Adding.{xor_assoc}
use Rattle.symbolic.specs.Internal.Sums.{added_in}
use Rattle.counting.specs.Internal.Pairs.{number_of}
use Rattle.counting.specs.Internal.Lanes.{lane_bit}
use Rattle.counting.proofs.Numbered.{number_lt}

-- a digit that is set is below a bound of the number
pub lane_none : (s : ℕ) → lane_bit s 0 ≡ false
lane_none zero = refl
lane_none (suc s) = lane_none s

pub lane_lt : (k s m : ℕ) → m < 2 ^ k → lane_bit s m ≡ true → s < k
lane_lt zero s m l e = let z : m ≡ 0 = omega arith in absurd (true≢false (sym e ∙ ap (lane_bit s) z ∙ lane_none s))
lane_lt (suc k) zero m l e = omega arith
lane_lt (suc k) (suc s) m l e = omega (arith, lane_lt k s (m / 2) (let p = pow-suc 2 k in omega (arith, rw p at l)) e)

-- words that are the same for the variables of a sum
pub added-on : (n m : ℕ) (f g : Values) → ((s : ℕ) → lane_bit s m ≡ true → f s ≡ g s) → added_in n m f ≡ added_in n m g
unfolding added_in
added-on zero m f g h = refl
added-on (suc n) m f g h =
    let tails = added-on n (m / 2) (λ s. f (suc s)) (λ s. g (suc s)) (λ s. h (suc s)) in
    cases (is_set (m % 2)) (λ d. rw d (ap₂ bit_xor (h 0 d) tails)) (λ d. rw d (ap (bit_xor 0) tails))

-- one variable of them flipped
pub added_flipped : (n x m : ℕ) (f g : Values) → x < n → ((s : ℕ) → lane_bit s m ≡ true → (s ≡ x → ⊥) → g s ≡ f s) → g x ≡ bit_xor (f x) 1
    → added_in n m g ≡ bit_xor (added_in n m f) (byte (lane_bit x m))
unfolding added_in
added_flipped zero x m f g l h e = absurd (omega arith)
added_flipped (suc n) zero m f g l h e =
    let R = added_in n (m / 2) (λ s. f (suc s)) in
    let tails = added-on n (m / 2) (λ s. g (suc s)) (λ s. f (suc s)) (λ s d. h (suc s) d (λ z. omega arith)) in
    cases (is_set (m % 2))
    (λ d. rw d (ap₂ bit_xor e tails ∙ xor_assoc (f 0) 1 R ∙ ap (bit_xor (f 0)) (xor_comm 1 R) ∙ sym (xor_assoc (f 0) R 1)))
    (λ d. rw d (ap (bit_xor 0) tails ∙ sym (xor_zero_r (bit_xor 0 R))))
added_flipped (suc n) (suc x) m f g l h e =
    let R = added_in n (m / 2) (λ s. f (suc s)) in
    let b = byte (lane_bit x (m / 2)) in
    let tails = added_flipped n x (m / 2) (λ s. f (suc s)) (λ s. g (suc s)) (omega arith) (λ s d z. h (suc s) d (λ y. z (omega arith))) e in
    cases (is_set (m % 2))
    (λ d. rw d (ap₂ bit_xor (h 0 d (λ z. omega arith)) tails ∙ sym (xor_assoc (f 0) R b)))
    (λ d. rw d (ap (bit_xor 0) tails ∙ sym (xor_assoc 0 R b)))

-- bits flipped are a number added
flipped_byte : (a b : Bool) → byte (a ⊕ b) ≡ bit_xor (byte a) (byte b)
flipped_byte true true = refl
flipped_byte true false = refl
flipped_byte false true = refl
flipped_byte false false = refl

pub byte_flipped : (a b c : Bool) → byte a ≡ bit_xor (byte b) (byte c) → a ≡ b ⊕ c
byte_flipped true true true e = absurd (omega arith)
byte_flipped true true false e = refl
byte_flipped true false true e = refl
byte_flipped true false false e = absurd (omega arith)
byte_flipped false true true e = refl
byte_flipped false true false e = absurd (omega arith)
byte_flipped false false true e = absurd (omega arith)
byte_flipped false false false e = refl

pub number_flipped : (u v w : ℕ → Bool) (js : List ℕ) → ((j : ℕ) → In j js → v j ≡ u j ⊕ w j) → number_of (map v js) ≡ bit_xor (number_of (map u js)) (number_of (map w js))
number_flipped u v w [] h = refl
number_flipped u v w (j ∷ js) h =
    let k = length js in
    let same : (g : ℕ → Bool) → number_of (map g (j ∷ js)) ≡ byte (g j) * 2 ^ k + number_of (map g js) = λ g. ap (λ n. byte (g j) * 2 ^ n + number_of (map g js)) (length-map js g) in
    let low : (g : ℕ → Bool) → number_of (map g js) < 2 ^ k = λ g. rw (← length-map js g) (number_lt (map g js)) in
    same v ∙ ap₂ (λ x y. x * 2 ^ k + y) (ap byte (h j (in_head j js)) ∙ flipped_byte (u j) (w j)) (number_flipped u v w js (λ i l. h i (in_tail i j js l)))
    ∙ sym (xor_block k (byte (u j)) (byte (w j)) (number_of (map u js)) (number_of (map w js)) (low u) (low w)) ∙ sym (ap₂ bit_xor (same u) (same w))

-- lists that differ in one bit
pub at_apart : (pre bs : List Bool) (s : ℕ) → (s ≡ length pre → ⊥) → at (pre ++ true ∷ bs) s ≡ at (pre ++ false ∷ bs) s
at_apart [] bs zero h = absurd (h refl)
at_apart [] bs (suc s) h = refl
at_apart (b ∷ pre) bs zero h = refl
at_apart (b ∷ pre) bs (suc s) h = at_apart pre bs s (λ e. h (ap suc e))

pub at-bit : (pre bs : List Bool) (b : Bool) → at (pre ++ b ∷ bs) (length pre) ≡ b
at-bit [] bs b = refl
at-bit (c ∷ pre) bs b = at-bit pre bs b
