-- All pairs counted by those of the free bits that vary: the others are only added to what is shown.
use mathlib.Core.Path.{◌≡◌, refl, sym, ap, ap₂, subst, fun_ext, ◌∙◌}
use mathlib.Core.Bool.{Bool, true, false, cond}
use mathlib.Core.List.{List, [], ◌∷◌, ◌++◌, map, append_assoc}
use Prim.Native.Nat.{ℕ, zero, suc, ◌+◌, ◌^◌, ◌≤◌, ◌<◌}
use native.Mathlib.Omega.{arith}
use lib.Bits.{bit_xor, xor_lt, xor_self, xor_zero_r, xor_comm}
use lib.Dec.{eqb}
use lib.ListN.{length, length-append}
use borrow.Author.Tests.{eqb-true, eqb-false, eq-eqb, ne_eqb}
use Rattle.circuit.specs.Lists.{range}
use Rattle.circuit.proofs.Base.{cases}
use Rattle.secrecy.proofs.Sums.{sum_bits, sum_same}
use Rattle.simulation.proofs.Adding.{xor_assoc}
use Rattle.counting.specs.Internal.Linear.{folded}
use Rattle.counting.proofs.Placed.{sum_varied}

-- added twice, a number is gone
pub twice : (m a : ℕ) → bit_xor (bit_xor m a) a ≡ m
twice m a = xor_assoc m a a ∙ ap (bit_xor m) (xor_self a) ∙ xor_zero_r m

-- numbers added in another order
turned : (m a b : ℕ) → bit_xor (bit_xor m a) b ≡ bit_xor (bit_xor m b) a
turned m a b = xor_assoc m a b ∙ ap (bit_xor m) (xor_comm a b) ∙ sym (xor_assoc m b a)

moved : (x a m : ℕ) → eqb (bit_xor x a) m ≡ eqb x (bit_xor m a)
moved x a m = cases (eqb x (bit_xor m a))
    (λ e. eq-eqb (bit_xor x a) m (ap (λ y. bit_xor y a) (eqb-true x (bit_xor m a) e) ∙ twice m a) ∙ sym e)
    (λ e. ne_eqb (bit_xor x a) m (λ z. eqb-false x (bit_xor m a) e (sym (twice x a) ∙ ap (λ y. bit_xor y a) z)) ∙ sym e)

module _ (varied : ℕ → Bool) (shift : ℕ → ℕ) where
  abbrev fold : (count from : ℕ) (counts : ℕ → ℕ) → ℕ → ℕ
  fold = folded varied shift

  pub fold_varied : (n i : ℕ) (f : ℕ → ℕ) (m : ℕ) → varied i ≡ true → fold (suc n) i f m ≡ fold n (suc i) f m
  unfolding folded
  fold_varied n i f m e = rw e

  pub fold_other : (n i : ℕ) (f : ℕ → ℕ) (m : ℕ) → varied i ≡ false → fold (suc n) i f m ≡ fold n (suc i) f m + fold n (suc i) f (bit_xor m (shift i))
  unfolding folded
  fold_other n i f m e = rw e

  -- the counts are added place by place, and moved
  pub fold_add : (n i : ℕ) (f g : ℕ → ℕ) (m : ℕ) → fold n i (λ x. f x + g x) m ≡ fold n i f m + fold n i g m
  unfolding folded
  fold_add zero i f g m = refl
  fold_add (suc n) i f g m = cases (varied i)
      (λ e. rw e (fold_add n (suc i) f g m))
      (λ e. rw e (omega (arith, fold_add n (suc i) f g m, fold_add n (suc i) f g (bit_xor m (shift i)))))

  pub fold_moved : (n i : ℕ) (f : ℕ → ℕ) (a m : ℕ) → fold n i (λ x. f (bit_xor x a)) m ≡ fold n i f (bit_xor m a)
  unfolding folded
  fold_moved zero i f a m = refl
  fold_moved (suc n) i f a m = cases (varied i)
      (λ e. rw e (fold_moved n (suc i) f a m))
      (λ e. rw e (ap₂ ◌+◌ (fold_moved n (suc i) f a m) (fold_moved n (suc i) f a (bit_xor m (shift i)) ∙ ap (fold n (suc i) f) (turned m (shift i) a))))

  -- only counts below a power of two matter there, where all shifts are below it
  pub fold_same : (k : ℕ) → ((i : ℕ) → shift i < 2 ^ k) → (n i : ℕ) (f g : ℕ → ℕ) → ((x : ℕ) → x < 2 ^ k → f x ≡ g x) → (m : ℕ) → m < 2 ^ k → fold n i f m ≡ fold n i g m
  unfolding folded
  fold_same k low zero i f g h m l = h m l
  fold_same k low (suc n) i f g h m l = cases (varied i)
      (λ e. rw e (fold_same k low n (suc i) f g h m l))
      (λ e. rw e (ap₂ ◌+◌ (fold_same k low n (suc i) f g h m l) (fold_same k low n (suc i) f g h (bit_xor m (shift i)) (xor_lt k m (shift i) l (low i)))))

  -- no count gets less
  pub fold_least : (n i : ℕ) (f : ℕ → ℕ) (m : ℕ) → f m ≤ fold n i f m
  unfolding folded
  fold_least zero i f m = omega arith
  fold_least (suc n) i f m = cases (varied i)
      (λ e. rw e (fold_least n (suc i) f m))
      (λ e. rw e (omega (arith, fold_least n (suc i) f m)))

  -- what is shown differs by the shift of a bit, where that does not vary and is set
  abbrev pub Shifted : (count from : ℕ) → (List Bool → ℕ) → Type 0
  Shifted zero i number = Unit {0}
  Shifted (suc n) i number = (varied i ≡ false → (bs : List Bool) → length bs ≡ n → number (true ∷ bs) ≡ bit_xor (number (false ∷ bs)) (shift i))
      × ((b : Bool) → Shifted n (suc i) (λ bs. number (b ∷ bs)))

  abbrev ones : (List Bool → ℕ) → ℕ → List Bool → ℕ
  ones number m bs = cond (eqb (number bs) m) 1 0

  abbrev pub some : (count from : ℕ) → (List Bool → ℕ) → ℕ → ℕ
  some n i number m = sum_varied (map varied (range i n)) (ones number m)

  -- by the first bit
  some-varied : (n i : ℕ) (number : List Bool → ℕ) → varied i ≡ true → some (suc n) i number ≡ (λ x. some n (suc i) (λ bs. number (false ∷ bs)) x + some n (suc i) (λ bs. number (true ∷ bs)) x)
  some-varied n i number e = fun_ext (λ x. rw e)

  some-other : (n i : ℕ) (number : List Bool → ℕ) → varied i ≡ false → some (suc n) i number ≡ some n (suc i) (λ bs. number (false ∷ bs))
  some-other n i number e = fun_ext (λ x. rw e)

  pub fold_all : (n i : ℕ) (number : List Bool → ℕ) → Shifted n i number → (m : ℕ) → sum_bits n (ones number m) ≡ fold n i (some n i number) m
  unfolding folded
  fold_all zero i number s m = refl
  fold_all (suc n) i number s m =
      let low : List Bool → ℕ = λ bs. number (false ∷ bs) in
      let high : List Bool → ℕ = λ bs. number (true ∷ bs) in
      let lows = fold_all n (suc i) low (s.1 false) in
      cases (varied i)
      (λ e. ap₂ ◌+◌ (lows m) (fold_all n (suc i) high (s.1 true) m) ∙ sym (fold_add n (suc i) (some n (suc i) low) (some n (suc i) high) m)
      ∙ ap (λ f. fold n (suc i) f m) (sym (some-varied n i number e)) ∙ sym (fold_varied n i (some (suc n) i number) m e))
      (λ e. ap₂ ◌+◌ (lows m)
      (sum_same n (ones high m) (ones low (bit_xor m (shift i))) (λ bs l. ap (λ b. cond b 1 0) (ap (λ y. eqb y m) (s.0 e bs l) ∙ moved (low bs) (shift i) m)) ∙ lows (bit_xor m (shift i)))
      ∙ ap (λ f. fold n (suc i) f m + fold n (suc i) f (bit_xor m (shift i))) (sym (some-other n i number e)) ∙ sym (fold_other n i (some (suc n) i number) m e))

  -- said of whole lists
  pub shifted : (number : List Bool → ℕ) (free : ℕ)
      → ((pre bs : List Bool) → length pre + suc (length bs) ≡ free → varied (length pre) ≡ false → number (pre ++ true ∷ bs) ≡ bit_xor (number (pre ++ false ∷ bs)) (shift (length pre)))
      → (n i : ℕ) (pre : List Bool) → length pre ≡ i → i + n ≡ free → Shifted n i (λ bs. number (pre ++ bs))
  shifted number free h zero i pre e f = tt
  shifted number free h (suc n) i pre e f = (
    (λ v bs l. ap (λ j. number (pre ++ true ∷ bs)) e ∙ h pre bs (omega (arith, l)) (ap varied e ∙ v) ∙ ap (λ j. bit_xor (number (pre ++ false ∷ bs)) (shift j)) e),
    (λ b. subst (Shifted n (suc i)) (fun_ext (λ bs. ap number (append_assoc pre (b ∷ []) bs)))
        (shifted number free h n (suc i) (pre ++ b ∷ []) (length-append pre (b ∷ []) ∙ omega arith) (omega arith))),
  )
