-- Sheets on which values are filled in: one wire more, one part behind another.
use mathlib.Core.Path.{◌≡◌, refl, sym, ap, subst, subst₂, ◌∙◌}
use mathlib.Core.List.{List}
use Prim.Native.Nat.{ℕ, ◌+◌, ◌-◌, ◌≤◌, ◌<◌}
use native.Mathlib.Omega.{arith}
use lib.Dec.{ltb}
use lib.ListN.{length, set, take, drop, length-set, length-drop}
use lib.Seq.{get_or-take, get_or-drop, length-take-le}
use Rattle.std.proofs.Common.{rules}
use borrow.Rule.Slice.PartMut.{put_mid}
use Rattle.std.proofs.lemmas.List.{places}
use borrow.Author.Tests.{ltb-true, ltb-false}
use Rattle.circuit.proofs.Base.{cases}
use Rattle.gadgets.proofs.Stored.{nth-set}
use Rattle.circuit.specs.Lists.{nth}
use Rattle.simulation.specs.Internal.Filling.{Values, Known, Fills, Copied}

-- the values up to the end of what is filled in
pub known-all : {E : Values → Type 0} {from to : ℕ} {old new : List ℕ} → Fills E from to old new → (v : Values) → E v → Known v 0 from old → Known v 0 to new
known-all {E} {from} {to} {old} {new} f v e k x l u = cases (ltb x from)
    (λ h. f.below x (ltb-true x from h) ∙ k x l (ltb-true x from h))
    (λ h. f.filled v e k x (ltb-false x from h) u)

pub fills-none : {E : Values → Type 0} (from : ℕ) (sheet : List ℕ) → Fills E from from sheet sheet
fills-none from sheet = record {
  filled = λ v e k x l u. absurd (omega arith);
  below = λ x h. refl;
  above = λ x h. refl;
  size = refl;
}

-- a part behind another, whose equations follow
pub fills-next : {E F : Values → Type 0} {from mid to : ℕ} {old one two : List ℕ} → from ≤ mid → mid ≤ to → ((v : Values) → E v → Known v 0 mid one → F v)
    → Fills E from mid old one → Fills F mid to one two → Fills E from to old two
fills-next {E} {F} {from} {mid} {to} {old} {one} {two} l u h f g = record {
  filled = λ v e k x i z. cases (ltb x mid)
      (λ t. g.below x (ltb-true x mid t) ∙ f.filled v e k x i (ltb-true x mid t))
      (λ t. g.filled v (h v e (known-all f v e k)) (known-all f v e k) x (ltb-false x mid t) z);
  below = λ x i. g.below x (omega arith) ∙ f.below x i;
  above = λ x i. g.above x i ∙ f.above x (omega arith);
  size = g.size ∙ f.size;
}

pub fills_for : {E F : Values → Type 0} {from to : ℕ} {old new : List ℕ} → ((v : Values) → F v → E v) → Fills E from to old new → Fills F from to old new
fills_for h f = record { filled = λ v e k. f.filled v (h v e) k; below = f.below; above = f.above; size = f.size }

pub fills-at : {E : Values → Type 0} {from from' to to' : ℕ} {old new : List ℕ} → from ≡ from' → to ≡ to' → Fills E from to old new → Fills E from' to' old new
fills-at {E} {from} {from'} {to} {to'} {old} {new} p q f = subst₂ (λ a b. Fills E a b old new) p q f

pub fills-from : {E : Values → Type 0} {from to : ℕ} {old old' new : List ℕ} → old ≡ old' → Fills E from to old new → Fills E from to old' new
fills-from {E} {from} {to} {new = new} e f = subst (λ (l : List ℕ). Fills E from to l new) e f

-- one wire more
pub fills-set : {E : Values → Type 0} {from p to : ℕ} {old mid : List ℕ} (e : ℕ) → (from ≤ p) × (p < length old) × (p + 1 ≡ to) → ((v : Values) → E v → Known v 0 from old → e ≡ v p)
    → Fills E from p old mid → Fills E from to old (set mid p e)
fills-set {E} {from} {p} {to} {old} {mid} e place h f = record {
  filled = λ v q k x i u. nth-set mid p e x r (λ same z. z ∙ h v q k ∙ ap v (sym same)) (λ other z. z ∙ f.filled v q k x i (omega arith));
  below = λ x i. nth-set mid p e x r (λ same z. absurd (omega arith)) (λ other z. z ∙ f.below x i);
  above = λ x i. nth-set mid p e x r (λ same z. absurd (omega arith)) (λ other z. z ∙ f.above x (omega arith));
  size = length-set mid p e ∙ f.size;
}
  where
    r : p < length mid
    r = omega (arith, f.size)

-- bytes copied from another buffer
pub fills_copied : (source : List ℕ) (from at count k n : ℕ) (old part : List ℕ) → at + count ≤ length old → from + count ≤ length source → k ≡ count → n ≡ count → part ≡ take n (drop from source)
    → Fills (Copied source from at count) at (at + count) old (put_mid at k old part)
fills_copied source from at count k n old part room given k_is n_is part_is =
    let whole : length part ≡ count = ap length part_is ∙ length-take-le n (drop from source) (omega (arith, length-drop from source)) ∙ n_is in
    record {
      filled = λ v e known x l u.
          let q = x - at in
          let here : at + q ≡ x = omega arith in
          let source_is : nth part q ≡ nth source (from + q) = rw part_is (get_or-take n (drop from source) q 0 (omega arith) ∙ get_or-drop from source q 0) in
          let put_is : nth (put_mid at k old part) x ≡ nth part q = search (rules, places) in
          put_is ∙ source_is ∙ sym (e q (omega arith)) ∙ ap v here;
      below = λ x l. search (rules, places);
      above = λ x l. search (rules, places);
      size = search (rules, places);
    }
