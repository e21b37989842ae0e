-- The table of codes: its rule at each entry, by one test that is computed over the whole table.
use mathlib.Core.Path.{◌≡◌, refl, subst, ◌∙◌}
use mathlib.Core.Bool.{Bool, true, cond, ◌&&◌}
use mathlib.Core.List.{List, [], ◌∷◌}
use Prim.Native.Nat.{ℕ, zero, suc, ◌+◌, ◌-◌, ◌<◌}
use native.Mathlib.Omega.{arith}
use lib.Dec.{ltb, eqb}
use lib.ListN.{length, get_or, set, replicate}
use borrow.Author.Tests.{eqb-true, lt-ltb, le-ltb}
use Rattle.circuit.proofs.Base.{and_left, and_right}
use Rattle.text.specs.Internal.Scan.{no_code, digit_code, mark_code, code_table}

-- whether a test passes at each entry and its place, counted from i
abbrev pub every : (ℕ → ℕ → Bool) → ℕ → List ℕ → Bool
every f i [] = true
every f i (x ∷ xs) = f i x && every f (suc i) xs

entry : (f : ℕ → ℕ → Bool) (xs : List ℕ) (i : ℕ) → every f i xs ≡ true → (k : ℕ) → k < length xs → f (i + k) (get_or xs k 0) ≡ true
entry f [] i t k h = absurd (omega arith)
entry f (x ∷ xs) i t zero h = subst (λ (m : ℕ). f m x ≡ true) (omega arith) (and_left (f i x) (every f (suc i) xs) t)
entry f (x ∷ xs) i t (suc k) h =
    subst (λ (m : ℕ). f m (get_or xs k 0) ≡ true) (omega arith) (entry f xs (suc i) (and_right (f i x) (every f (suc i) xs) t) k (omega arith))

pub concat_map-entry : (f : ℕ → ℕ → Bool) (xs : List ℕ) → every f 0 xs ≡ true → (k : ℕ) → k < length xs → f k (get_or xs k 0) ≡ true
concat_map-entry f xs t k h = subst (λ (m : ℕ). f m (get_or xs k 0) ≡ true) (omega arith) (entry f xs 0 t k h)

-- the codes of a byte
code_at : ℕ → ℕ
code_at k = cond (ltb k 256) (digit_code k) (mark_code (k - 256))

right : ℕ → ℕ → Bool
right k x = eqb x (code_at k)

code_entry : (k : ℕ) → k < 512 → get_or code_table k 0 ≡ code_at k
unfolding right code_at code_table digit_code mark_code
code_entry k h = eqb-true (get_or code_table k 0) (code_at k) (concat_map-entry right code_table refl k h)

pub digit_entry : (b : ℕ) → b < 256 → get_or code_table b 0 ≡ digit_code b
unfolding code_at
digit_entry b h = code_entry b (omega arith) ∙ rw (lt-ltb b 256 h)

pub mark_entry : (b : ℕ) → b < 256 → get_or code_table (256 + b) 0 ≡ mark_code b
unfolding code_at
mark_entry b h =
    let e : 256 + b - 256 ≡ b = omega arith in
    code_entry (256 + b) (omega arith) ∙ rw (le-ltb (256 + b) 256 (omega arith), e)

-- the bytes of the digits
abbrev pub hex_digits : List ℕ
hex_digits = 48 ∷ 49 ∷ 50 ∷ 51 ∷ 52 ∷ 53 ∷ 54 ∷ 55 ∷ 56 ∷ 57 ∷ 65 ∷ 66 ∷ 67 ∷ 68 ∷ 69 ∷ 70 ∷ []

-- the table as the code writes it, digit by digit, and then a space and a line feed
unfoldable pub written : ℕ → List ℕ
written zero = replicate 512 no_code
written (suc n) = set (written n) (get_or hex_digits n 0) n

pub written_more : (n : ℕ) → set (written n) (get_or hex_digits n 0) n ≡ written (n + 1)
unfolding written
written_more n = let e : n + 1 ≡ suc n = omega arith in rw e

pub written_all : set (set (written 16) 288 0) 266 1 ≡ code_table
unfolding written code_table
written_all = refl
