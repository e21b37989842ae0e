-- Document 01, "For demand 3": secret bits, sharings, and the number of pairs of sharing and tape from which a reading arises.
use Rattle.std.specs.Prelude.{◌≡◌, Bool, true, false, cond, ◌&&◌, List, [], ◌∷◌, ℕ, zero, suc, ◌+◌, ◌-◌, ◌*◌, ◌<◌, eqb, length, take, drop}
use Rattle.std.specs.Bool.{beq}
use Rattle.circuit.specs.Lists.{◌⊕◌, mem}
use Rattle.circuit.specs.Circuit.{Circuit}
use Rattle.semantics.specs.Values.{bits}
use Rattle.semantics.specs.Probes.{reading_of}

-- the sum over all lists of n bytes that are 0 or 1
abbrev pub sum_over : ℕ → (List ℕ → ℕ) → ℕ
sum_over zero f = f []
sum_over (suc n) f = sum_over n (λ bs. f (0 ∷ bs)) + sum_over n (λ bs. f (1 ∷ bs))

-- two lists with the same elements, by a test of elements
abbrev pub alike : {A : Type 0} → (A → A → Bool) → List A → List A → Bool
alike test [] [] = true
alike test [] (y ∷ ys) = false
alike test (x ∷ xs) [] = false
alike test (x ∷ xs) (y ∷ ys) = test x y && alike test xs ys

abbrev pub parity : List Bool → Bool
parity [] = false
parity (b ∷ bs) = b ⊕ parity bs

-- the secret bits of n INs: each the sum of its d shares modulo 2
abbrev pub secrets_of : (d n : ℕ) (shares : List Bool) → List Bool
secrets_of d zero shares = []
secrets_of d (suc n) shares = parity (take d shares) ∷ secrets_of d n (drop d shares)

-- the bits that a sharing of given secret bits and a tape are free to choose: all shares of an IN but one, and the tape
abbrev pub free_bits : Circuit → ℕ
free_bits k = (k.d - 1) * k.inputs + k.randoms

-- how many different wires a probe list has
abbrev pub count_distinct : List ℕ → ℕ
count_distinct [] = 0
count_distinct (x ∷ xs) = cond (mem x xs) (count_distinct xs) (suc (count_distinct xs))

-- the number of pairs of a sharing of the secret bits and a tape from which the reading arises: shares of d bytes for each IN
-- whose secret bits are those, and tapes of one byte a random bit
unfoldable pub pairs_for : Circuit → (probes : List ℕ) (secrets : List Bool) (reading : List ℕ) → ℕ
pairs_for k probes secrets reading = sum_over (k.inputs * k.d) (λ shares. sum_over k.randoms (λ tape.
    cond (alike beq (secrets_of k.d k.inputs (bits shares)) secrets
    && alike eqb (reading_of k.wires probes (bits shares) (bits tape)) reading) 1 0))

-- demand 3: where fewer than d different wires are probed, every reading arises equally often under any two sets of secret bits
abbrev pub EqualCounts : Circuit → (probes : List ℕ) → Type 0
EqualCounts k probes = count_distinct probes < k.d → (one other : List Bool) → length one ≡ k.inputs → length other ≡ k.inputs
    → (reading : List ℕ) → pairs_for k probes one reading ≡ pairs_for k probes other reading
