-- Wires stored into the notes.
use mathlib.Core.Path.{◌≡◌, refl, sym, ap, ◌∙◌}
use mathlib.Core.List.{List, [], ◌∷◌, ◌++◌}
use Prim.Native.Nat.{ℕ, zero, suc, ◌+◌, ◌*◌, ◌-◌, ◌≤◌, ◌<◌}
use native.Mathlib.Omega.{arith}
use lib.ListN.{length, set, replicate}
use lib.Seq.{sets}
use Rattle.circuit.specs.Limits.{inner_note}
use Rattle.circuit.proofs.Base.{stores_append}
use Rattle.checker.specs.Internal.Notes.{inner_words, named_words}

-- two words stored
pub store_turn : (n : List ℕ) (from i a b : ℕ) (ws rest : List ℕ) → ws ≡ a ∷ b ∷ rest
    → sets n (2 * from + 2 * i) ws ≡ sets (set (set n (2 * from + 2 * i) a) (2 * from + 2 * i + 1) b) (2 * from + 2 * (i + 1)) rest
store_turn n from i a b ws rest e =
    let next : 2 * from + 2 * i + 1 ≡ suc (2 * from + 2 * i) = omega arith in
    let after : 2 * from + 2 * (i + 1) ≡ suc (suc (2 * from + 2 * i)) = omega arith in
    rw (e, next, after)

-- the words of inner wires are one word over and over; what is left of them before the first turn, and after a turn
inner-replicate : (count : ℕ) → inner_words count ≡ replicate (2 * count) inner_note
unfolding inner_words
inner-replicate zero = refl
inner-replicate (suc n) = let e : suc (suc (2 * n)) ≡ 2 * suc n = omega arith in ap (λ l. inner_note ∷ inner_note ∷ l) (inner-replicate n) ∙ ap (λ k. replicate k inner_note) e

pub inner_start : (n : List ℕ) (from count : ℕ) → sets n (2 * from) (inner_words count) ≡ sets n (2 * from) (replicate (2 * (from + count) - 2 * from) inner_note)
inner_start n from count =
    let e : 2 * count ≡ 2 * (from + count) - 2 * from = omega arith in
    ap (sets n (2 * from)) (inner-replicate count ∙ ap (λ k. replicate k inner_note) e)

pub inner_turn : (n : List ℕ) (end i : ℕ) → i < end → sets n i (replicate (end - i) inner_note) ≡ sets (set n i inner_note) (i + 1) (replicate (end - (i + 1)) inner_note)
inner_turn n end i h =
    let e : end - i ≡ suc (end - (i + 1)) = omega arith in
    let next : suc i ≡ i + 1 = omega arith in
    ap (λ k. sets n i (replicate k inner_note)) e ∙ ap (λ q. sets (set n i inner_note) q (replicate (end - (i + 1)) inner_note)) next

inner-length : (count : ℕ) → length (inner_words count) ≡ 2 * count
unfolding inner_words
inner-length zero = refl
inner-length (suc n) = omega (arith, inner-length n)

-- what is left of named wires after a turn, and at the end
pub named_turn : (label stage count i : ℕ) → i < count
    → named_words (label + i) stage (count - i) ≡ (label + i) ∷ stage ∷ named_words (label + (i + 1)) stage (count - (i + 1))
unfolding named_words
named_turn label stage count i h =
    let e : count - i ≡ suc (count - (i + 1)) = omega arith in
    let l : suc (label + i) ≡ label + (i + 1) = omega arith in
    ap (named_words (label + i) stage) e ∙ ap (λ x. (label + i) ∷ stage ∷ named_words x stage (count - (i + 1))) l

pub named_end : (label stage count i : ℕ) → i ≤ count → count ≤ i → named_words (label + i) stage (count - i) ≡ []
unfolding named_words
named_end label stage count i h l = let e : count - i ≡ 0 = omega arith in ap (named_words (label + i) stage) e

pub stores_made : (n : List ℕ) (from inner : ℕ) (ws : List ℕ)
    → sets (sets n (2 * from) (inner_words inner)) (2 * (from + inner)) ws ≡ sets n (2 * from) (inner_words inner ++ ws)
stores_made n from inner ws =
    let e : 2 * (from + inner) ≡ 2 * from + length (inner_words inner) = omega (arith, inner-length inner) in
    ap (λ p. sets (sets n (2 * from) (inner_words inner)) p ws) e ∙ sym (stores_append n (2 * from) (inner_words inner) ws)
