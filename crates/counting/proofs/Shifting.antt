-- Counts moved by a shift and added, two at a time; counts multiplied; and all free bits that do not vary, one after the other.
use mathlib.Core.Path.{◌≡◌, refl, sym, ap, ap₂, ◌∙◌}
use mathlib.Core.Bool.{Bool, true, false}
use mathlib.Core.List.{List}
use Prim.Native.Nat.{ℕ, suc, ◌+◌, ◌*◌, ◌-◌, ◌^◌, ◌≤◌, ◌<◌}
use native.Mathlib.Nat.{pow-suc, mul-le-mul_right}
use native.Mathlib.Omega.{arith}
use lib.Bits.{bit_xor, xor_zero_r, xor_self, xor_comm}
use lib.Dec.{eqb, leb}
use lib.ListN.{length, set, length-set}
use lib.Seq.{get_or-set_same, get_or-set_other}
use borrow.Author.Tests.{eqb-true, eqb-false, leb-true, leb-false}
use Rattle.circuit.specs.Lists.{nth}
use Rattle.circuit.proofs.Base.{cases}
use Rattle.counting.specs.Internal.Linear.{folded, Remade, pair_added}
use Rattle.counting.proofs.Numbered.{pow_mono}
use Rattle.counting.proofs.Folding.{twice, fold_varied, fold_other, fold_add, fold_moved, fold_same, fold_least}

-- a number moved by a shift that is not 0 is another
pub apart : (n shift : ℕ) → 1 ≤ shift → bit_xor n shift ≡ n → ⊥
apart n shift l e = let none : bit_xor n n ≡ 0 = xor_self n in omega (arith, sym (twice shift n) ∙ ap (λ x. bit_xor x n) (xor_comm shift n ∙ e) ∙ none)

-- the counts up to one, each with the one that it is added to
module _ (shift count : ℕ) (old : List ℕ) where
  abbrev sum : ℕ → ℕ
  sum m = nth old m + nth old (bit_xor m shift)

  pub record PairedTo (new : List ℕ) (n : ℕ) : Type 0 where
    pub done : (m : ℕ) → m < count → m < n → nth new m ≡ sum m
    pub others : (m : ℕ) → m < count → bit_xor m shift < n → nth new m ≡ sum m
    pub left : (m : ℕ) → n ≤ m → n ≤ bit_xor m shift → nth new m ≡ nth old m
    pub rest : (m : ℕ) → count ≤ m → nth new m ≡ nth old m
    pub sized : length new ≡ length old

  module _ {new : List ℕ} {n : ℕ} (p : PairedTo new n) (inside : n < count) where
    back : (m : ℕ) → bit_xor m shift ≡ n → m ≡ bit_xor n shift
    back m e = sym (twice m shift) ∙ ap (λ x. bit_xor x shift) e

    -- one that is added already
    paired_past : 1 ≤ shift → bit_xor n shift ≤ n → PairedTo new (n + 1)
    paired_past some l = record {
      done = λ m h k. cases (eqb m n)
          (λ e. let z = eqb-true m n e in rw z (p.others n inside lower))
          (λ e. p.done m h (omega (arith, eqb-false m n e)));
      others = λ m h k. cases (eqb (bit_xor m shift) n)
          (λ e. p.done m h (omega (arith, back m (eqb-true (bit_xor m shift) n e), lower)))
          (λ e. p.others m h (omega (arith, eqb-false (bit_xor m shift) n e)));
      left = λ m h k. p.left m (omega arith) (omega arith);
      rest = p.rest;
      sized = p.sized;
    }
      where
        lower : bit_xor n shift < n
        lower = let ne = apart n shift some in omega arith

    -- two
    paired_here : n < bit_xor n shift → bit_xor n shift < count → count ≤ length old → (value : ℕ) → value ≡ nth new n + nth new (bit_xor n shift)
        → PairedTo (set (set new n value) (bit_xor n shift) value) (n + 1)
    paired_here l h room value e = record {
      done = λ m k u. cases (eqb m n) (λ b. rw (eqb-true m n b) first) (λ b. other m (eqb-false m n b) (λ z. omega arith) ∙ p.done m k (omega (arith, eqb-false m n b)));
      others = λ m k u. cases (eqb (bit_xor m shift) n)
          (λ b. rw (back m (eqb-true (bit_xor m shift) n b)) second)
          (λ b. let ne = eqb-false (bit_xor m shift) n b in other m (λ z. omega (arith, ap (λ y. bit_xor y shift) z)) (λ z. ne (ap (λ y. bit_xor y shift) z ∙ twice n shift))
          ∙ p.others m k (omega arith));
      left = λ m k u. other m (λ z. omega arith) (λ z. omega (arith, ap (λ y. bit_xor y shift) z, twice n shift)) ∙ p.left m (omega arith) (omega arith);
      rest = λ m k. other m (λ z. omega arith) (λ z. omega arith) ∙ p.rest m k;
      sized = simp length-set p.sized;
    }
      where
        is : value ≡ sum n
        is = e ∙ ap₂ ◌+◌ (p.left n (omega arith) (omega arith)) (p.left (bit_xor n shift) (omega arith) (omega (arith, twice n shift)))

        other : (m : ℕ) → (m ≡ n → ⊥) → (m ≡ bit_xor n shift → ⊥) → nth (set (set new n value) (bit_xor n shift) value) m ≡ nth new m
        other m a b = get_or-set_other (set new n value) (bit_xor n shift) m value 0 b ∙ get_or-set_other new n m value 0 a

        first : nth (set (set new n value) (bit_xor n shift) value) n ≡ sum n
        first = get_or-set_other (set new n value) (bit_xor n shift) n value 0 (λ z. omega arith) ∙ get_or-set_same new n value 0 (omega (arith, p.sized)) ∙ is

        second : nth (set (set new n value) (bit_xor n shift) value) (bit_xor n shift) ≡ sum (bit_xor n shift)
        second = get_or-set_same (set new n value) (bit_xor n shift) value 0 (simp length-set (omega (arith, p.sized))) ∙ is ∙ omega (arith, ap (nth old) (twice n shift))

    -- as the code does it
    pub paired_next : 1 ≤ shift → bit_xor n shift < count → count ≤ length old → PairedTo (pair_added shift n new) (n + 1)
    paired_next some h room = cases (leb (bit_xor n shift) n)
        (λ e. rw e (paired_past some (leb-true (bit_xor n shift) n e)))
        (λ e. rw e (paired_here (leb-false (bit_xor n shift) n e) h room _ refl))

-- the free bits up to one: what is counted so far, times a power of two, comes to all where the others are counted too
module _ (varied : ℕ → Bool) (shift : ℕ → ℕ) (free found : ℕ) (old : List ℕ) where
  abbrev fold : (count from : ℕ) (counts : ℕ → ℕ) → ℕ → ℕ
  fold = folded varied shift

  pub record FoldedTo (new : List ℕ) (doubles i : ℕ) : Type 0 where
    pub most : i ≤ free
    pub few : doubles ≤ i
    pub left : (m : ℕ) → m < 2 ^ found → fold free 0 (nth old) m ≡ 2 ^ doubles * fold (free - i) i (nth new) m
    pub rest : (m : ℕ) → 2 ^ found ≤ m → nth new m ≡ nth old m
    pub sized : length new ≡ length old

  module _ {new : List ℕ} {doubles i : ℕ} (t : FoldedTo new doubles i) (inside : i < free) where
    -- the bits from this one on
    next : (f : ℕ → ℕ) (m : ℕ) → fold (free - i) i f m ≡ fold (suc (free - (i + 1))) i f m
    next f m = let e : free - i ≡ suc (free - (i + 1)) = omega arith in ap (λ n. fold n i f m) e

    later : (f : ℕ → ℕ) (m : ℕ) → fold (free - (i + 1)) (suc i) f m ≡ fold (free - (i + 1)) (i + 1) f m
    later f m = let e : suc i ≡ i + 1 = omega arith in ap (λ n. fold (free - (i + 1)) n f m) e

    pub folded-varied : varied i ≡ true → FoldedTo new doubles (i + 1)
    folded-varied e = record {
      most = omega arith;
      few = omega (arith, t.few);
      left = λ m l. t.left m l ∙ ap (λ n. 2 ^ doubles * n) (next (nth new) m ∙ fold_varied varied shift (free - (i + 1)) i (nth new) m e ∙ later (nth new) m);
      rest = t.rest;
      sized = t.sized;
    }

    module _ (off : varied i ≡ false) where
      two : (m : ℕ) → fold (free - i) i (nth new) m ≡ fold (free - (i + 1)) (i + 1) (nth new) m + fold (free - (i + 1)) (i + 1) (nth new) (bit_xor m (shift i))
      two m = next (nth new) m ∙ fold_other varied shift (free - (i + 1)) i (nth new) m off ∙ ap₂ ◌+◌ (later (nth new) m) (later (nth new) (bit_xor m (shift i)))

      pub folded-double : shift i ≡ 0 → FoldedTo new (doubles + 1) (i + 1)
      folded-double z = record {
        most = omega arith;
        few = omega (arith, t.few);
        left = λ m l.
            let F : ℕ → ℕ = fold (free - (i + 1)) (i + 1) (nth new) in
            let same : bit_xor m (shift i) ≡ m = ap (bit_xor m) z ∙ xor_zero_r m in
            let n : doubles + 1 ≡ suc doubles = omega arith in
            t.left m l ∙ ap (λ x. 2 ^ doubles * x) (two m ∙ ap (λ y. F m + F y) same) ∙ rw (n, pow-suc 2 doubles) (omega arith);
        rest = t.rest;
        sized = t.sized;
      }

      pub folded-next : ((j : ℕ) → shift j < 2 ^ found) → {more : List ℕ} → Remade (λ n. nth new n + nth new (bit_xor n (shift i))) (2 ^ found) new more → FoldedTo more doubles (i + 1)
      folded-next low {more} r = record {
        most = omega arith;
        few = omega (arith, t.few);
        left = λ m l. t.left m l ∙ ap (λ x. 2 ^ doubles * x) (two m
            ∙ sym (fold_same varied shift found low (free - (i + 1)) (i + 1) (nth more) (λ n. nth new n + nth new (bit_xor n (shift i))) r.are m l
            ∙ fold_add varied shift (free - (i + 1)) (i + 1) (nth new) (λ n. nth new (bit_xor n (shift i))) m
            ∙ ap (λ x. fold (free - (i + 1)) (i + 1) (nth new) m + x) (fold_moved varied shift (free - (i + 1)) (i + 1) (nth new) (shift i) m)));
        rest = λ m l. r.rest m l ∙ t.rest m l;
        sized = r.sized ∙ t.sized;
      }

      -- no sum gets larger than the counts of all pairs
      pub sums-few : (most : ℕ) → ((m : ℕ) → m < 2 ^ found → fold free 0 (nth old) m ≤ most) → (m : ℕ) → m < 2 ^ found → nth new m + nth new (bit_xor m (shift i)) ≤ most
      sums-few most h m l =
          let F : ℕ → ℕ = fold (free - (i + 1)) (i + 1) (nth new) in
          let some : 1 ≤ 2 ^ doubles = pow_mono doubles 0 (omega arith) in
          omega (
            arith,
            fold_least varied shift (free - (i + 1)) (i + 1) (nth new) m,
            fold_least varied shift (free - (i + 1)) (i + 1) (nth new) (bit_xor m (shift i)),
            two m,
            t.left m l,
            h m l,
            mul-le-mul_right (fold (free - i) i (nth new) m) some,
          )

  module _ {new : List ℕ} {doubles i : ℕ} (t : FoldedTo new doubles i) (end : free ≤ i) where
    pub all_left : (m : ℕ) → m < 2 ^ found → fold free 0 (nth old) m ≡ 2 ^ doubles * nth new m
    unfolding folded
    all_left m l = let e : free - i ≡ 0 = omega arith in t.left m l ∙ ap (λ n. 2 ^ doubles * fold n i (nth new) m) e

    pub folded_end : {times : ℕ} {last : List ℕ} → times ≡ 2 ^ doubles → Remade (λ n. times * nth new n) (2 ^ found) new last → Remade (fold free 0 (nth old)) (2 ^ found) old last
    folded_end e r = record {
      are = λ m l. r.are m l ∙ ap (λ x. x * nth new m) e ∙ sym (all_left m l);
      rest = λ m l. r.rest m l ∙ t.rest m l;
      sized = r.sized ∙ t.sized;
    }
