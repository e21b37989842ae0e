-- Masks: flipping one share of some INs changes just those secret bits, and no share with another label.
use mathlib.Core.Path.{◌≡◌, refl, sym, ap, ap₂, ◌∙◌}
use mathlib.Core.Bool.{Bool, true, false, ◌&&◌, beq}
use mathlib.Core.List.{List, [], ◌∷◌, ◌++◌}
use Prim.Native.Nat.{ℕ, zero, suc, ◌+◌, ◌*◌, ◌≤◌, ◌<◌}
use native.Mathlib.Omega.{arith}
use lib.Dec.{eqb}
use lib.ListN.{length, take, drop, length-drop, get_or-append, replicate, length-replicate}
use lib.Seq.{get_or-append-add}
use borrow.Author.Tests.{eqb-false, ne_eqb}
use Rattle.circuit.specs.Lists.{◌⊕◌}
use Rattle.circuit.proofs.Base.{no_flip, xor_comm, xor_assoc}
use Rattle.semantics.specs.Values.{at}
use Rattle.semantics.specs.Counts.{alike, parity, secrets_of}
use Rattle.secrecy.proofs.Sums.{flipped}

pub flipped_at : (x : ℕ) (bs ms : List Bool) → at ms x ≡ false → at (flipped bs ms) x ≡ at bs x
unfolding flipped
flipped_at x [] ms h = refl
flipped_at x (b ∷ bs) [] h = refl
flipped_at zero (b ∷ bs) (m ∷ ms) h = ap (λ x. b ⊕ x) h ∙ no_flip b
flipped_at (suc x) (b ∷ bs) (m ∷ ms) h = flipped_at x bs ms h

pub flipped_length : (bs ms : List Bool) → length (flipped bs ms) ≡ length bs
unfolding flipped
flipped_length [] ms = refl
flipped_length (b ∷ bs) [] = refl
flipped_length (b ∷ bs) (m ∷ ms) = ap suc (flipped_length bs ms)

-- d bits, of which the one at place j is c and the others are false
block : (d j : ℕ) (c : Bool) → List Bool
block zero j c = []
block (suc d) zero c = c ∷ replicate d false
block (suc d) (suc j) c = false ∷ block d j c

-- a block for each IN: which secret bits are to change, in share j
pub mask : (d j : ℕ) (changes : List Bool) → List Bool
mask d j [] = []
mask d j (c ∷ cs) = block d j c ++ mask d j cs

block_length : (d j : ℕ) (c : Bool) → length (block d j c) ≡ d
unfolding block
block_length zero j c = refl
block_length (suc d) zero c = ap suc (length-replicate d false)
block_length (suc d) (suc j) c = ap suc (block_length d j c)

zeros_at : (n x : ℕ) → at (replicate n false) x ≡ false
zeros_at zero x = refl
zeros_at (suc n) zero = refl
zeros_at (suc n) (suc x) = zeros_at n x

block_at : (d j x : ℕ) (c : Bool) → eqb x j ≡ false → at (block d j c) x ≡ false
unfolding block
block_at zero j x c n = refl
block_at (suc d) zero zero c n = absurd (eqb-false 0 0 n refl)
block_at (suc d) zero (suc x) c n = zeros_at d x
block_at (suc d) (suc j) zero c n = refl
block_at (suc d) (suc j) (suc x) c n = block_at d j x c (ne_eqb x j (λ e. eqb-false (suc x) (suc j) n (ap suc e)))

-- shares with labels other than j stay
pub mask_at : (d j : ℕ) (cs : List Bool) (k i : ℕ) → i < d → eqb i j ≡ false → at (mask d j cs) (k * d + i) ≡ false
unfolding mask
mask_at d j [] k i l n = refl
mask_at d j (c ∷ cs) zero i l n =
    let z : 0 * d + i ≡ i = omega arith in
    let b = block_length d j c in
    rw z (get_or-append (block d j c) (mask d j cs) false i (omega arith) ∙ block_at d j i c n)
mask_at d j (c ∷ cs) (suc k) i l n =
    let z : suc k * d + i ≡ length (block d j c) + (k * d + i) = omega (arith, block_length d j c) in
    rw z (get_or-append-add (block d j c) (mask d j cs) (k * d + i) false ∙ mask_at d j cs k i l n)

-- the secret bit of an IN changes with its share j
swap_end : (b c f : Bool) → ((b ⊕ c) ⊕ f) ≡ ((b ⊕ f) ⊕ c)
swap_end b c f = xor_assoc b c f ∙ ap (λ x. b ⊕ x) (xor_comm c f) ∙ sym (xor_assoc b f c)

parity_zeros : (d : ℕ) (sh ms : List Bool) → parity (take d (flipped sh (replicate d false ++ ms))) ≡ parity (take d sh)
unfolding flipped
parity_zeros zero sh ms = refl
parity_zeros (suc d) [] ms = refl
parity_zeros (suc d) (b ∷ sh) ms = ap₂ (λ x y. x ⊕ y) (no_flip b) (parity_zeros d sh ms)

parity_block : (d j : ℕ) (sh ms : List Bool) (c : Bool) → j < d → d ≤ length sh → parity (take d (flipped sh (block d j c ++ ms))) ≡ (parity (take d sh) ⊕ c)
unfolding block flipped
parity_block zero j sh ms c l h = absurd (omega arith)
parity_block (suc d) j [] ms c l h = absurd (omega arith)
parity_block (suc d) zero (b ∷ sh) ms c l h = ap (λ x. (b ⊕ c) ⊕ x) (parity_zeros d sh ms) ∙ swap_end b c (parity (take d sh))
parity_block (suc d) (suc j) (b ∷ sh) ms c l h =
    ap₂ (λ x y. x ⊕ y) (no_flip b) (parity_block d j sh ms c (omega arith) (omega arith)) ∙ sym (xor_assoc b (parity (take d sh)) c)

drop_flipped : (d : ℕ) (sh ws ms : List Bool) → length ws ≡ d → d ≤ length sh → drop d (flipped sh (ws ++ ms)) ≡ flipped (drop d sh) ms
unfolding flipped
drop_flipped zero sh [] ms l h = refl
drop_flipped zero sh (w ∷ ws) ms l h = absurd (omega arith)
drop_flipped (suc d) sh [] ms l h = absurd (omega arith)
drop_flipped (suc d) [] (w ∷ ws) ms l h = absurd (omega arith)
drop_flipped (suc d) (b ∷ sh) (w ∷ ws) ms l h = drop_flipped d sh ws ms (omega arith) (omega arith)

-- the secret bits of masked shares are the secret bits with the changes
pub secrets_flipped : (d j k : ℕ) (sh cs : List Bool) → j < d → length cs ≡ k → length sh ≡ k * d → secrets_of d k (flipped sh (mask d j cs)) ≡ flipped (secrets_of d k sh) cs
unfolding mask flipped
secrets_flipped d j zero sh cs l n h = refl
secrets_flipped d j (suc k) sh [] l n h = absurd (omega arith)
secrets_flipped d j (suc k) sh (c ∷ cs) l n h =
    let big : d ≤ length sh = omega arith in
    ap₂ (λ x y. x ∷ y) (parity_block d j sh (mask d j cs) c l big)
    (ap (secrets_of d k) (drop_flipped d sh (block d j c) (mask d j cs) (block_length d j c) big)
    ∙ secrets_flipped d j k (drop d sh) cs l (omega arith) (simp length-drop (omega arith)))

-- bits are one list where they are the other list once the two lists' differences are flipped
same_flipped : (x a b : Bool) → beq x a ≡ beq (x ⊕ (a ⊕ b)) b
same_flipped true true true = refl
same_flipped true true false = refl
same_flipped true false true = refl
same_flipped true false false = refl
same_flipped false true true = refl
same_flipped false true false = refl
same_flipped false false true = refl
same_flipped false false false = refl

pub alike_flipped : (s one other : List Bool) → length one ≡ length other → alike beq s one ≡ alike beq (flipped s (flipped one other)) other
unfolding flipped
alike_flipped [] [] [] l = refl
alike_flipped [] [] (b ∷ other) l = absurd (omega arith)
alike_flipped [] (a ∷ one) [] l = absurd (omega arith)
alike_flipped [] (a ∷ one) (b ∷ other) l = refl
alike_flipped (x ∷ s) [] [] l = refl
alike_flipped (x ∷ s) [] (b ∷ other) l = absurd (omega arith)
alike_flipped (x ∷ s) (a ∷ one) [] l = absurd (omega arith)
alike_flipped (x ∷ s) (a ∷ one) (b ∷ other) l = ap₂ (λ p q. p && q) (same_flipped x a b) (alike_flipped s one other (omega arith))
