-- Numbers counted in a tally: one part after the other, and the numbers of eight pairs one by one.
use mathlib.Core.Path.{◌≡◌, refl, sym, ap, subst, ◌∙◌}
use mathlib.Core.Bool.{Bool, true, false, cond}
use mathlib.Core.List.{List}
use Prim.Native.Nat.{ℕ, zero, suc, ◌+◌, ◌-◌, ◌/◌, ◌%◌, ◌≤◌, ◌<◌}
use native.Mathlib.Nat.{add-zero, add-suc}
use native.Mathlib.Omega.{arith}
use lib.Dec.{ltb, eqb}
use lib.ListN.{length, set, length-set, get_or-eq_default}
use borrow.Author.Tests.{eq-eqb, ne_eqb, ltb-true, ltb-false}
use Rattle.circuit.specs.Lists.{nth}
use Rattle.circuit.proofs.Base.{cases}
use Rattle.gadgets.proofs.Stored.{nth-set}
use Rattle.counting.specs.Internal.Pairs.{sum_to}
use Rattle.counting.specs.Internal.Lanes.{gathered, Adds}
use Rattle.counting.proofs.Numbered.{sum_to_same}
use Rattle.counting.proofs.Gathering.{gathered-same, gathered-first}

-- a sum in two parts, and a sum of bits
sum_more : (m n : ℕ) (f : ℕ → ℕ) → sum_to (m + n) f ≡ sum_to m f + sum_to n (λ t. f (m + t))
sum_more m zero f = simp add-zero
sum_more m (suc n) f = rw (add-suc m n) (omega (arith, sum_more m n f))

pub few_ones : (n : ℕ) (p : ℕ → Bool) → sum_to n (λ t. cond (p t) 1 0) ≤ n
few_ones zero p = omega arith
few_ones (suc n) p = omega (arith, few_ones n p, one (p n))
  where
    one : (b : Bool) → cond b 1 0 ≤ 1
    one true = omega arith
    one false = omega arith

-- none counted, two parts one after the other, and one
pub adds_none : (f : ℕ → ℕ) (old : List ℕ) → Adds f 0 old old
adds_none f old = record { added = λ n l. omega arith; sized = refl }

pub adds_more : {f g : ℕ → ℕ} {m n : ℕ} {old mid new : List ℕ} → Adds f m old mid → Adds g n mid new → ((l : ℕ) → l < n → g l ≡ f (m + l)) → Adds f (m + n) old new
adds_more {f} {g} {m} {n} a b same = record {
  added = λ x l. omega (
    arith,
    a.added x l,
    b.added x l,
    sum_more m n (λ t. cond (eqb (f t) x) 1 0),
    sum_to_same n (λ t. cond (eqb (g t) x) 1 0) (λ t. cond (eqb (f (m + t)) x) 1 0) (λ t h. ap (λ y. cond (eqb y x) 1 0) (same t h)),
  );
  sized = b.sized ∙ a.sized;
}

adds_one : {m : ℕ} (old : List ℕ) → m < length old → (f : ℕ → ℕ) → m ≡ f 0 → Adds f 1 old (set old m (nth old m + 1))
adds_one {m} old inside f e = record {
  added = λ n l. nth-set old m (nth old m + 1) n inside
      (λ same z. z ∙ rw (eq-eqb (f 0) n (sym e ∙ sym same)) (omega (arith, ap (nth old) same)))
      (λ other z. z ∙ rw (ne_eqb (f 0) n (λ t. other (sym (e ∙ t)))) (omega arith));
  sized = length-set old m _;
}

-- no number is counted more often than there are pairs
pub adds-few : {f : ℕ → ℕ} {m : ℕ} {old new : List ℕ} → Adds f m old new → length old ≡ 256 → (n : ℕ) → nth new n ≤ nth old n + m
adds-few {f} {m} {old} {new} a w n = cases (ltb n 256)
    (λ b. omega (arith, a.added n (ltb-true n 256 b), few_ones m (λ l. eqb (f l) n)))
    (λ b. omega (arith, get_or-eq_default new 0 {n = n} (omega (arith, ltb-false n 256 b, a.sized))))

-- so there is room for those that are left; and where none are left, all are counted
pub adds-room : {f : ℕ → ℕ} {done lanes room : ℕ} {old new : List ℕ} → Adds f done old new → length old ≡ 256 → ((n : ℕ) → nth old n + lanes < room)
    → (count : ℕ) → done + count ≤ lanes
    → (n : ℕ) → nth new n + count < room
adds-room a w h count l n = omega (arith, adds-few a w n, h n)

pub adds-all : {f : ℕ → ℕ} {done lanes : ℕ} {old new : List ℕ} → Adds f done old new → done ≤ lanes → lanes ≤ done → Adds f lanes old new
adds-all {f} {done} {lanes} {old} {new} a l m = let e : done ≡ lanes = omega arith in subst (λ n. Adds f n old new) e a

-- the numbers below a lane are counted, and the others are left
pub record AddedTo (numbers lanes : ℕ) (old new : List ℕ) (rest lane : ℕ) : Type 0 where
  pub most : lane ≤ lanes
  pub all : lanes ≤ 8
  pub left : (f : ℕ → ℕ) → ((l : ℕ) → f l < 256) → numbers ≡ gathered 8 f → rest ≡ gathered (8 - lane) (λ l. f (lane + l))
  pub added : (f : ℕ → ℕ) → ((l : ℕ) → f l < 256) → numbers ≡ gathered 8 f → Adds f lane old new
  pub few : (n : ℕ) → nth new n ≤ nth old n + lane
  pub sized : length new ≡ length old
  pub wide : length old ≡ 256

pub added_start : {numbers lanes : ℕ} {old : List ℕ} → lanes ≤ 8 → length old ≡ 256 → AddedTo numbers lanes old old numbers 0
added_start h w = record {
  most = omega arith;
  all = h;
  left = λ f s e. e ∙ gathered-same 8 f (λ l. f (0 + l)) (λ l k. ap f (omega arith));
  added = λ f s e. adds_none f _;
  few = λ n. omega arith;
  sized = refl;
  wide = w;
}

module _ {numbers lanes : ℕ} {old new : List ℕ} {rest lane : ℕ} (a : AddedTo numbers lanes old new rest lane) where
  pub added_next : lane < lanes → AddedTo numbers lanes old (set new (rest % 256) (nth new (rest % 256) + 1)) (rest / 256) (lane + 1)
  added_next h = record {
    most = omega arith;
    all = a.all;
    left = λ f s e. (first f s e).1 ∙ ap (λ m. gathered m (λ l. f (lane + suc l))) (omega (arith, a.all))
        ∙ gathered-same (8 - (lane + 1)) (λ l. f (lane + suc l)) (λ l. f (lane + 1 + l)) (λ l k. ap f (omega arith));
    added = λ f s e. adds_more (a.added f s e) (adds_one new inside (λ l. f (lane + l)) (first f s e).0) (λ l k. refl);
    few = λ n. nth-set new (rest % 256) (nth new (rest % 256) + 1) n inside (λ same z. omega (arith, a.few n, ap (nth new) same)) (λ other z. omega (arith, a.few n));
    sized = length-set new (rest % 256) _ ∙ a.sized;
    wide = a.wide;
  }
    where
      inside : rest % 256 < length new
      inside = omega (arith, a.sized, a.wide)

      first : (f : ℕ → ℕ) → ((l : ℕ) → f l < 256) → numbers ≡ gathered 8 f
          → (rest % 256 ≡ f (lane + 0)) × (rest / 256 ≡ gathered (7 - lane) (λ l. f (lane + suc l)))
      first f s e =
          let m : 8 - lane ≡ suc (7 - lane) = omega (arith, a.all) in
          gathered-first (7 - lane) rest (λ l. f (lane + l)) (s (lane + 0)) (a.left f s e ∙ ap (λ n. gathered n (λ l. f (lane + l))) m)

  pub added_end : lanes ≤ lane → (f : ℕ → ℕ) → ((l : ℕ) → f l < 256) → numbers ≡ gathered 8 f → Adds f lanes old new
  added_end h f s g = adds-all (a.added f s g) a.most h
