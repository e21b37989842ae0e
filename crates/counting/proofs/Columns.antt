-- The pairs of a word counted eight by eight, and those of a batch word by word.
use mathlib.Core.Path.{◌≡◌, refl, sym, ap, ap₂, subst, ◌∙◌}
use mathlib.Core.Bool.{Bool, true, false}
use mathlib.Core.List.{List, ◌∷◌, map}
use Prim.Native.Nat.{ℕ, zero, suc, ◌+◌, ◌*◌, ◌-◌, ◌/◌, ◌%◌, ◌^◌, min, ◌≤◌, ◌<◌}
use native.Mathlib.Omega.{arith}
use lib.ListN.{length}
use Rattle.circuit.specs.Lists.{range}
use Rattle.counting.specs.declared.tallies.Tallies.{Tallies}
use Rattle.counting.specs.Internal.Pairs.{number_of}
use Rattle.counting.specs.Internal.Lanes.{lane_bit, shown_by, column_of, place_of, shown_in, Adds, tally_of}
use Rattle.counting.proofs.WordBits.{lane_shift}
use Rattle.counting.proofs.Adding.{adds_none, adds_more}

-- what a pair shows depends on the bits of the wires that are read
map_range : {A : Type 0} (f g : ℕ → A) (m n : ℕ) → ((i : ℕ) → i < m + n → f i ≡ g i) → map f (range m n) ≡ map g (range m n)
map_range f g m zero h = refl
map_range f g m (suc n) h = ap₂ ◌∷◌ (h m (omega arith)) (map_range f g (suc m) n (λ i l. h i (omega arith)))

pub number_same : (f g : ℕ → Bool) (found : ℕ) → ((i : ℕ) → i < found → f i ≡ g i) → number_of (map f (range 0 found)) ≡ number_of (map g (range 0 found))
number_same f g found h = ap number_of (map_range f g 0 found (λ i l. h i (omega arith)))

-- what pairs show from one on: the bits of the columns without the lowest
shown-from : (columns : ℕ → ℕ) (found from l : ℕ) → shown_by (λ i. columns i / 2 ^ from) found l ≡ shown_by columns found (from + l)
shown-from columns found from l = number_same (λ i. lane_bit l (columns i / 2 ^ from)) (λ i. lane_bit (from + l) (columns i)) found (λ i k. sym (lane_shift from l (columns i)))

-- the pairs of a word that are counted, and eight more, or those that are left
pub word_next : (columns : ℕ → ℕ) (found : ℕ) {done count : ℕ} {old mid new : List ℕ} → Adds (shown_by columns found) done old mid
    → Adds (shown_by (λ i. columns i / 2 ^ done) found) count mid new → Adds (shown_by columns found) (done + count) old new
word_next columns found {done} a b = adds_more a b (λ l k. shown-from columns found done l)

-- the pairs of a batch under a set: those of the first word, and those of the second
pub batch_words : (shown : List ℕ) (found lanes : ℕ) {one other : ℕ} {old mid new : List ℕ} (second : Bool) → lanes ≤ 128 → one ≡ min lanes 64 → other ≡ lanes - 64
    → Adds (shown_by (column_of shown (place_of second 0)) found) one old mid → Adds (shown_by (column_of shown (place_of second 1)) found) other mid new
    → Adds (shown_in shown second found) lanes old new
batch_words shown found lanes {one} {other} {old} {mid} {new} second few e f a b =
    let n : 0 + one + other ≡ lanes = omega arith in
    subst (λ m. Adds (shown_in shown second found) m old new) n (adds_more (adds_more (adds_none (shown_in shown second found) old) a (λ l k. word 0 l (omega arith))) b (λ l k. word_behind l k))
  where
    word : (w l : ℕ) → l < 64 → shown_by (column_of shown (place_of second w)) found l ≡ shown_in shown second found (64 * w + l)
    word w l h =
        let p : w ≡ (64 * w + l) / 64 = omega arith in
        let q : l ≡ (64 * w + l) % 64 = omega arith in
        ap₂ (λ x y. shown_by (column_of shown (place_of second x)) found y) p q

    word_behind : (l : ℕ) → l < other → shown_by (column_of shown (place_of second 1)) found l ≡ shown_in shown second found (0 + one + l)
    word_behind l k = let p : one ≡ 64 = omega arith in let q : 64 + l ≡ 0 + one + l = omega arith in word 1 l (omega arith) ∙ ap (shown_in shown second found) q

-- both tallies are of one length
pub tally_sized : (second : Bool) (t : Tallies) → length (tally_of second t) ≡ 256
tally_sized true t = t.sized.1
tally_sized false t = t.sized.0
