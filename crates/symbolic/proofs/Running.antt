-- Four words written at a place; the words of products, one after the other, and those of wires on a list.
use mathlib.Core.Path.{◌≡◌, sym, ap₂, ◌∙◌}
use mathlib.Core.List.{List}
use Prim.Native.Nat.{ℕ, zero, suc, ◌+◌, ◌*◌, ◌≤◌, ◌<◌}
use native.Mathlib.Omega.{arith}
use lib.Bits.{bit_and}
use lib.Dec.{ltb}
use lib.ListN.{length, set, length-set}
use lib.Seq.{get_or-set_same, get_or-set_other}
use borrow.Author.Tests.{ltb-true, ltb-false}
use Rattle.circuit.specs.Lists.{nth}
use Rattle.circuit.proofs.Base.{cases}
use Rattle.simulation.specs.Internal.Filling.{Values}
use Rattle.symbolic.specs.Internal.Sums.{added, term_word, Before, BoundedTerms, words_at, four_at, Runs}
use Rattle.symbolic.proofs.Masks.{added-same}

-- what is written, by the word, and what is not
pub record Four (old : List ℕ) (at : ℕ) (f : Values) (new : List ℕ) : Type 0 where
  pub are : (w : ℕ) → w < 4 → nth new (at + w) ≡ f w
  pub below : (x : ℕ) → x < at → nth new x ≡ nth old x
  pub above : (x : ℕ) → at + 4 ≤ x → nth new x ≡ nth old x
  pub sized : length new ≡ length old

pub four : (old : List ℕ) (at x y z u : ℕ) (f : Values) → at + 4 ≤ length old → (x ≡ f 0) × (y ≡ f 1) × (z ≡ f 2) × (u ≡ f 3) → Four old at f (four_at old at x y z u)
four old at x y z u f room e = record {
  are = word;
  below = λ i l. other i (λ h. omega arith) (λ h. omega arith) (λ h. omega arith) (λ h. omega arith);
  above = λ i l. other i (λ h. omega arith) (λ h. omega arith) (λ h. omega arith) (λ h. omega arith);
  sized = simp length-set;
}
  where
    one : List ℕ
    one = set old at x

    two : List ℕ
    two = set one (at + 1) y

    three : List ℕ
    three = set two (at + 2) z

    other : (i : ℕ) → (i ≡ at → ⊥) → (i ≡ at + 1 → ⊥) → (i ≡ at + 2 → ⊥) → (i ≡ at + 3 → ⊥) → nth (four_at old at x y z u) i ≡ nth old i
    other i p q r s = get_or-set_other three (at + 3) i u 0 s ∙ get_or-set_other two (at + 2) i z 0 r ∙ get_or-set_other one (at + 1) i y 0 q ∙ get_or-set_other old at i x 0 p

    word : (w : ℕ) → w < 4 → nth (four_at old at x y z u) (at + w) ≡ f w
    word zero l =
        let none : at + 0 ≡ at = omega arith in
        rw none (get_or-set_other three (at + 3) at u 0 (λ h. omega arith) ∙ get_or-set_other two (at + 2) at z 0 (λ h. omega arith)
        ∙ get_or-set_other one (at + 1) at y 0 (λ h. omega arith) ∙ get_or-set_same old at x 0 (omega arith) ∙ e.0)
    word (suc zero) l = get_or-set_other three (at + 3) (at + 1) u 0 (λ h. omega arith) ∙ get_or-set_other two (at + 2) (at + 1) z 0 (λ h. omega arith)
        ∙ get_or-set_same one (at + 1) y 0 (simp length-set (omega arith)) ∙ e.1
    word (suc (suc zero)) l = get_or-set_other three (at + 3) (at + 2) u 0 (λ h. omega arith) ∙ get_or-set_same two (at + 2) z 0 (simp length-set (omega arith)) ∙ e.2
    word (suc (suc (suc zero))) l = get_or-set_same three (at + 3) u 0 (simp length-set (omega arith)) ∙ e.3
    word (suc (suc (suc (suc w)))) l = absurd (omega arith)

-- four words for each number up to one, and for the next
pub fours_next : (f : ℕ → Values) {old new : List ℕ} {i : ℕ} → ((j w : ℕ) → j < i → w < 4 → nth old (4 * j + w) ≡ f j w) → Four old (4 * i) (f i) new
    → (j w : ℕ) → j < i + 1 → w < 4 → nth new (4 * j + w) ≡ f j w
fours_next f {i = i} s t j w l h = cases (ltb j i)
    (λ e. let k = ltb-true j i e in t.below (4 * j + w) (omega arith) ∙ s j w k h)
    (λ e. let same : j ≡ i = omega (arith, ltb-false j i e) in rw same (t.are w h))

-- sums of variables before a place do not change behind it
pub term-same : (terms : List ℕ) (n : ℕ) (f g : Values) → Before terms n → ((s : ℕ) → s < 18 + n → f s ≡ g s) → term_word terms n f ≡ term_word terms n g
term-same terms n f g b h = ap₂ bit_and (added-same 64 (18 + n) _ f g b.one h) (added-same 64 (18 + n) _ f g b.other h)

-- one product
pub product-written : {terms old new : List ℕ} {n : ℕ} → Before terms n → Four old (4 * (18 + n)) (λ w. term_word terms n (words_at w old)) new → Runs terms n (n + 1) old new
product-written {terms} {old} {new} {n} b f = record {
  are = λ m w l u h. let e : m ≡ n = omega arith in
      rw e (f.are w h ∙ term-same terms n (words_at w old) (words_at w new) b (λ s k. sym (f.below (4 * s + w) (omega arith))));
  below = f.below;
  above = λ x l. f.above x (omega arith);
  sized = f.sized;
}

-- one more
pub runs_next : {terms old mid new : List ℕ} {from n : ℕ} → from ≤ n → BoundedTerms terms from (n + 1) → Runs terms from n old mid → Runs terms n (n + 1) mid new → Runs terms from (n + 1) old new
runs_next {terms} {old} {mid} {new} {from} {n} low b r s = record {
  are = λ m w l u h. cases (ltb m n)
      (λ e. let k = ltb-true m n e in s.below (4 * (18 + m) + w) (omega arith) ∙ r.are m w l k h
      ∙ term-same terms m (words_at w mid) (words_at w new) (b m l u) (λ t z. sym (s.below (4 * t + w) (omega arith))))
      (λ e. s.are m w (ltb-false m n e) u h);
  below = λ x l. s.below x (omega arith) ∙ r.below x l;
  above = λ x l. s.above x l ∙ r.above x (omega arith);
  sized = s.sized ∙ r.sized;
}

-- the words of the wires up to a place of the list
pub record ShownTo (sums read words shown : List ℕ) (i : ℕ) : Type 0 where
  pub are : (j w : ℕ) → j < i → w < 4 → nth shown (4 * j + w) ≡ added (nth sums (nth read j)) (words_at w words)
  pub sized : length shown ≡ 32

pub shown-next : {sums read words shown new : List ℕ} {i : ℕ} → ShownTo sums read words shown i → Four shown (4 * i) (λ w. added (nth sums (nth read i)) (words_at w words)) new
    → ShownTo sums read words new (i + 1)
shown-next {sums} {read} {words} s f = record { are = fours_next (λ j w. added (nth sums (nth read j)) (words_at w words)) s.are f; sized = f.sized ∙ s.sized }
