-- What is written: the wires of REF, and a term at its place.
use mathlib.Core.Path.{◌≡◌, refl, ap, ◌∙◌}
use mathlib.Core.List.{List}
use Prim.Native.Nat.{ℕ, ◌+◌, ◌*◌, ◌≤◌, ◌<◌}
use native.Mathlib.Omega.{arith}
use lib.Bits.{bit_xor}
use lib.ListN.{length, set, length-set}
use lib.Seq.{get_or-set_same, get_or-set_other}
use Rattle.circuit.specs.Lists.{nth}
use Rattle.circuit.specs.Kinds.{pairs}
use Rattle.circuit.specs.Gadgets.{others}
use Rattle.gadgets.specs.Internal.Places.{word_a, mask_at, sum_at, held_at}
use Rattle.gadgets.specs.Internal.Frames.{RowBefore}
use Rattle.simulation.specs.Internal.Filling.{word_sum}
use Rattle.symbolic.specs.declared.gadget.Term.{Term}
use Rattle.symbolic.specs.Internal.Terms.{term, product, term_at, with_term, Copies, Refreshes}

-- REF up to a share, from sums among which its random bits are
abbrev refreshed : (d : ℕ) (ops tape : List ℕ) (used : ℕ) (sums : List ℕ) (i : ℕ) → ℕ
refreshed d ops tape used sums i = bit_xor (nth sums (word_a ops i)) (word_sum (others d i) (λ j. nth tape (mask_at d used i j)))

pub record RefreshedTo (d first : ℕ) (ops tape : List ℕ) (used : ℕ) (old new : List ℕ) (i : ℕ) : Type 0 where
  pub summed : (j : ℕ) → j < i → nth new (sum_at d first j) ≡ refreshed d ops tape used old j
  pub held : (j : ℕ) → j < i → nth new (held_at d first j) ≡ refreshed d ops tape used old j
  pub below : (x : ℕ) → x < sum_at d first 0 → nth new x ≡ nth old x
  pub sized : length new ≡ length old

module _ {d first : ℕ} {ops tape : List ℕ} {used : ℕ} {old new : List ℕ} {i : ℕ} (r : RefreshedTo d first ops tape used old new i) where
  pub refreshed_end : {sums : List ℕ} → RowBefore first d (word_a ops) → d ≤ i → Copies tape used first (pairs d) sums old → Refreshes d first ops tape used sums new
  refreshed_end {sums} early u h = record {
    drawn = λ q l. r.below (first + q) (omega arith) ∙ h.are q l;
    summed = λ j l. r.summed j (omega arith) ∙ value j l;
    held = λ j l. r.held j (omega arith) ∙ value j l;
    below = λ x l. r.below x (omega arith) ∙ h.below x l;
    sized = r.sized ∙ h.sized;
  }
    where
      value : (j : ℕ) → j < d → refreshed d ops tape used old j ≡ refreshed d ops tape used sums j
      value j l = ap (λ n. bit_xor n (word_sum (others d j) (λ k. nth tape (mask_at d used j k)))) (h.below (word_a ops j) (early j l))

-- a term's product at its place, and the others
pub term_parts : {x y z x' y' z' : ℕ} → x ≡ x' → y ≡ y' → z ≡ z' → term x y z ≡ term x' y' z'
term_parts p q r = rw (p, q, r)

module _ (terms : List ℕ) (n : ℕ) (t : Term) where
  abbrev one : List ℕ
  one = set terms (2 * n) t.one

  pub term_here : 2 * n + 2 ≤ length terms → term_at (with_term terms n t) n ≡ product t
  term_here room = term_parts
      (get_or-set_other one (2 * n + 1) (2 * n) t.other 0 (λ z. omega arith) ∙ get_or-set_same terms (2 * n) t.one 0 (omega arith))
      (get_or-set_same one (2 * n + 1) t.other 0 (simp length-set (omega arith)))
      refl

  other : (x : ℕ) → (x ≡ 2 * n → ⊥) → (x ≡ 2 * n + 1 → ⊥) → nth (with_term terms n t) x ≡ nth terms x
  other x p q = get_or-set_other one (2 * n + 1) x t.other 0 q ∙ get_or-set_other terms (2 * n) x t.one 0 p

  pub term-other : (m : ℕ) → (m ≡ n → ⊥) → term_at (with_term terms n t) m ≡ term_at terms m
  term-other m h = term_parts (other (2 * m) (λ z. h (omega arith)) (λ z. omega arith)) (other (2 * m + 1) (λ z. omega arith) (λ z. h (omega arith))) refl

  pub term-sized : length (with_term terms n t) ≡ length terms
  term-sized = simp length-set
