-- Whatever the variables before the products are, the products have values that follow from them.
use mathlib.Core.Path.{◌≡◌, refl, sym, ap, ◌∙◌}
use mathlib.Core.Bool.{cond}
use mathlib.Core.List.{List}
use Prim.Native.Nat.{ℕ, zero, suc, ◌+◌, ◌≤◌, ◌<◌}
use native.Mathlib.Omega.{arith}
use lib.Dec.{eqb}
use borrow.Author.Tests.{eqb-true, eqb-false, eq-eqb, ne_eqb}
use Rattle.circuit.proofs.Base.{cases}
use Rattle.simulation.specs.Internal.Filling.{Values}
use Rattle.symbolic.specs.Internal.Sums.{term_word, BoundedTerms}
use Rattle.symbolic.proofs.Running.{term-same}

-- so many products from one on
module _ (terms : List ℕ) (from : ℕ) where
  solve : (count : ℕ) → Values → Values
  solve zero f = f
  solve (suc n) f = λ s. cond (eqb s (18 + (from + n))) (term_word terms (from + n) (solve n f)) (solve n f s)

  solve_other : (n : ℕ) (f : Values) (s : ℕ) → (s ≡ 18 + (from + n) → ⊥) → solve (suc n) f s ≡ solve n f s
  unfolding solve
  solve_other n f s h = rw (ne_eqb s (18 + (from + n)) h)

  outside : (n : ℕ) (f : Values) (s : ℕ) → (18 + from ≤ s → s < 18 + (from + n) → ⊥) → solve n f s ≡ f s
  unfolding solve
  outside zero f s h = refl
  outside (suc n) f s h = solve_other n f s (λ e. h (omega arith) (omega arith)) ∙ outside n f s (λ l u. h l (omega arith))

  inside : (n : ℕ) (f : Values) → BoundedTerms terms from (from + n) → (m : ℕ) → from ≤ m → m < from + n → solve n f (18 + m) ≡ term_word terms m (solve n f)
  unfolding solve
  inside zero f b m l u = absurd (omega arith)
  inside (suc n) f b m l u = cases (eqb m (from + n))
      (λ e. let same = eqb-true m (from + n) e in
      rw (eq-eqb (18 + m) (18 + (from + n)) (omega arith)) (ap (λ x. term_word terms x (solve n f)) (sym same) ∙ later))
      (λ e. let apart = eqb-false m (from + n) e in
      solve_other n f (18 + m) (λ z. apart (omega arith)) ∙ inside n f (λ x p q. b x p (omega arith)) m l (omega arith) ∙ later)
    where
      later : term_word terms m (solve n f) ≡ term_word terms m (solve (suc n) f)
      later = term-same terms m (solve n f) (solve (suc n) f) (b m l u) (λ s k. sym (solve_other n f s (λ z. omega arith)))

-- the outputs', then those that are read
pub record Solution (terms : List ℕ) (outputs found : ℕ) (base f : Values) : Type 0 where
  pub low : (s : ℕ) → s < 18 → f s ≡ base s
  pub outs : (n : ℕ) → n < outputs → f (18 + n) ≡ term_word terms n f
  pub reads : (i : ℕ) → i < found → f (50 + i) ≡ term_word terms (32 + i) f
  pub rest : (s : ℕ) → 18 ≤ s → (s < 18 + outputs → ⊥) → (50 ≤ s → s < 50 + found → ⊥) → f s ≡ base s

pub solved : (terms : List ℕ) (outputs found : ℕ) → Values → Values
solved terms outputs found base = solve terms 32 found (solve terms 0 outputs base)

pub solution : {terms : List ℕ} {outputs found : ℕ} → outputs ≤ 32 → BoundedTerms terms 0 outputs → BoundedTerms terms 32 (32 + found) → (base : Values)
    → Solution terms outputs found base (solved terms outputs found base)
unfolding solved
solution {terms} {outputs} {found} few b c base = record {
  low = λ s l. before s (omega arith) ∙ outside terms 0 outputs base s (λ p q. omega arith);
  outs = λ n l. before (18 + n) (omega arith) ∙ inside terms 0 outputs base (λ x p q. b x p (omega arith)) n (omega arith) (omega arith)
      ∙ term-same terms n mid (solve terms 32 found mid) (b n (omega arith) l) (λ s k. sym (before s (omega arith)));
  reads = λ i l. let e : 50 + i ≡ 18 + (32 + i) = omega arith in ap (solve terms 32 found mid) e ∙ inside terms 32 found mid c (32 + i) (omega arith) (omega arith);
  rest = λ s l u v. outside terms 32 found mid s (λ p q. v p (omega arith)) ∙ outside terms 0 outputs base s (λ p q. u (omega arith));
}
  where
    mid : Values
    mid = solve terms 0 outputs base

    before : (s : ℕ) → s < 50 → solve terms 32 found mid s ≡ mid s
    before s l = outside terms 32 found mid s (λ p q. omega arith)
