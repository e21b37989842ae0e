-- Two evaluations side by side: the second tape is the first with bits flipped, each flip decided by the values so far.
use mathlib.Core.Path.{◌≡◌, refl, sym, ap, ap₂, ◌∙◌}
use mathlib.Core.Bool.{Bool, true, false, not, ◌&&◌, true≢false}
use mathlib.Core.List.{List, [], ◌∷◌, ◌++◌, map}
use Prim.Native.Nat.{ℕ, suc, ◌<◌}
use native.Mathlib.Omega.{arith}
use lib.ListN.{length, length-append, get_or-append}
use lib.Seq.{get_or-append_seam}
use Rattle.circuit.specs.Lists.{◌⊕◌}
use Rattle.circuit.specs.Wires.{Gate, input, constant, random, reg, inverse, sum, product, and_not, Wire}
use Rattle.circuit.proofs.Base.{Every, every_imp, every_in, AllFrom}
use Rattle.semantics.specs.Values.{at, value, is_random, values_from}
use Rattle.semantics.specs.Probes.{operands}
use Rattle.secrecy.proofs.Sums.{sum_bits, sum_swap}
use Rattle.secrecy.proofs.Totals.{xor_sum_ext}
use Rattle.semantics.proofs.Randoms.{randoms_in}

-- the values of wires by their numbers
abbrev pub Values : Type 0
Values = ℕ → Bool

-- whether a random bit is flipped in the second evaluation, from the values of both so far
abbrev pub Shift : Type 0
Shift = Values → Values → Bool

-- a wire, and the shift of its bit if it is random
pub record Step : Type 0 where
  pub wire : Wire
  pub shift : Shift

abbrev pub wire_of : Step → Wire
wire_of s = s.wire

-- what a wire's two bits are to the values f and f'
pub record Bits (sh sh' : List Bool) (g : Gate) (δ : Shift) (f f' : Values) (b b' : Bool) : Type 0 where
  pub left : is_random g ≡ false → b ≡ value g f sh []
  pub right : is_random g ≡ false → b' ≡ value g f' sh' []
  pub flipped : is_random g ≡ true → b' ≡ (b ⊕ δ f f')

module _ (sh sh' : List Bool) where
  -- one walk over the wires, in which the values v and v' so far grow to the values g and g' of all
  abbrev pub Run : List Step → List Bool → List Bool → List Bool → List Bool → Type 0
  Run [] v v' g g' = (g ≡ v) × (g' ≡ v')
  Run (s ∷ ss) v v' g g' = (b : Bool) × (b' : Bool) × Bits sh sh' s.wire.gate s.shift (at v) (at v') b b'
      × Run ss (v ++ (b ∷ [])) (v' ++ (b' ∷ [])) g g'

  module _ (F F' : List Bool → ℕ) where
    -- what F makes of the values in the first evaluation, summed over all tapes, is what F' makes of those in the second
    abbrev Fair : List Step → Type 0
    Fair ss = (v v' : List Bool) → ((g g' : List Bool) → Run ss v v' g g' → F g ≡ F' g')
        → sum_bits (randoms_in (map wire_of ss)) (λ t. F (values_from sh t v (map wire_of ss)))
        ≡ sum_bits (randoms_in (map wire_of ss)) (λ t. F' (values_from sh' t v' (map wire_of ss)))

    plain : (g : Gate) (δ : Shift) (f f' : Values) → is_random g ≡ false → Bits sh sh' g δ f f' (value g f sh []) (value g f' sh' [])
    plain g δ f f' e = record { left = λ k. refl; right = λ k. refl; flipped = λ k. absurd (true≢false (sym k ∙ e)) }

    one : (g : Gate) (p : _) (δ : Shift) (ss : List Step) → Fair ss → Fair (record { wire = record { gate = g; place = p }; shift = δ } ∷ ss)
    one (input n) p δ ss ih v v' h = ih _ _ (λ g g' r. h g g' (_, _, plain (input n) δ (at v) (at v') refl, r))
    one (constant b) p δ ss ih v v' h = ih _ _ (λ g g' r. h g g' (_, _, plain (constant b) δ (at v) (at v') refl, r))
    one random p δ ss ih v v' h = sum_swap (δ (at v) (at v')) _ _ (λ b b' e. ih (v ++ (b ∷ [])) (v' ++ (b' ∷ []))
        (λ g g' r. h g g' (b, b', record { left = λ k. absurd (true≢false k); right = λ k. absurd (true≢false k); flipped = λ k. e }, r)))
    one (reg x) p δ ss ih v v' h = ih _ _ (λ g g' r. h g g' (_, _, plain (reg x) δ (at v) (at v') refl, r))
    one (inverse x) p δ ss ih v v' h = ih _ _ (λ g g' r. h g g' (_, _, plain (inverse x) δ (at v) (at v') refl, r))
    one (sum xs) p δ ss ih v v' h = ih _ _ (λ g g' r. h g g' (_, _, plain (sum xs) δ (at v) (at v') refl, r))
    one (product x y) p δ ss ih v v' h = ih _ _ (λ g g' r. h g g' (_, _, plain (product x y) δ (at v) (at v') refl, r))
    one (and_not x y) p δ ss ih v v' h = ih _ _ (λ g g' r. h g g' (_, _, plain (and_not x y) δ (at v) (at v') refl, r))

    -- if F and F' agree at the end of every walk, their sums are equal
    pub couple : (ss : List Step) → Fair ss
    couple [] v v' h = h v v' (refl, refl)
    couple (s ∷ ss) v v' h = one s.wire.gate s.wire.place s.shift ss (couple ss) v v' h

-- two functions that agree below x
abbrev pub Agree : {A : Type 0} → ℕ → (ℕ → A) → (ℕ → A) → Type 0
Agree x f w = (y : ℕ) → y < x → f y ≡ w y

-- the wires that a gate takes are earlier than x
abbrev pub Low : ℕ → Gate → Type 0
Low x g = Every (λ y. y < x) (operands g)

-- a flip that is decided by the values below x
abbrev pub Decided : ℕ → Shift → Type 0
Decided x δ = (f w f' w' : Values) → Agree x f w → Agree x f' w' → δ f f' ≡ δ w w'

-- a step at the wire x: its operands are earlier wires, and its flip is decided by earlier values
pub record EarlyStep (x : ℕ) (s : Step) : Type 0 where
  pub low : Low x s.wire.gate
  pub decided : Decided x s.shift

-- values that agree on the operands
pub value_same : (g : Gate) (f w : Values) (sh t : List Bool) → Every (λ y. f y ≡ w y) (operands g) → value g f sh t ≡ value g w sh t
value_same (input n) f w sh t h = refl
value_same (constant b) f w sh t h = refl
value_same random f w sh t h = refl
value_same (reg x) f w sh t h = h.0
value_same (inverse x) f w sh t h = ap not h.0
value_same (sum xs) f w sh t h = xor_sum_ext f w xs (every_in (λ y. f y ≡ w y) xs h)
value_same (product x y) f w sh t h = ap₂ (λ p q. p && q) h.0 h.1.0
value_same (and_not x y) f w sh t h = ap₂ (λ p q. not p && q) h.0 h.1.0

-- the values at the end: each wire's bits are to the final values what they were to the values below it
module _ (sh sh' : List Bool) where
  abbrev pub Settled : List Bool → List Bool → ℕ → Step → Type 0
  Settled g g' x s = Bits sh sh' s.wire.gate s.shift (at g) (at g') (at g x) (at g' x)

  -- values that grow by a bit: those below stay, and the bit stands behind them
  grown : (v : List Bool) (b : Bool) (g : List Bool) → Agree (length (v ++ (b ∷ []))) (at (v ++ (b ∷ []))) (at g) → Agree (length v) (at v) (at g) × (at g (length v) ≡ b)
  grown v b g h = (
    (λ y l. sym (get_or-append v (b ∷ []) false y l) ∙ h y (simp length-append (omega arith))),
    sym (h (length v) (simp length-append (omega arith))) ∙ get_or-append_seam v b [] false,
  )

  run_kept : (ss : List Step) (v v' g g' : List Bool) → Run sh sh' ss v v' g g' → Agree (length v) (at v) (at g) × Agree (length v') (at v') (at g')
  run_kept [] v v' g g' r = ((λ y l. rw r.0), (λ y l. rw r.1))
  run_kept (s ∷ ss) v v' g g' r = let (h, h') = run_kept ss (v ++ (r.0 ∷ [])) (v' ++ (r.1 ∷ [])) g g' r.3 in
      ((grown v r.0 g h).0, (grown v' r.1 g' h').0)

  bits_agree : (x : ℕ) (s : Step) (f w f' w' : Values) (b b' : Bool) → EarlyStep x s → Agree x f w → Agree x f' w'
      → Bits sh sh' s.wire.gate s.shift f f' b b' → Bits sh sh' s.wire.gate s.shift w w' b b'
  bits_agree x s f w f' w' b b' e a a' h =
      let g = s.wire.gate in
      let low : (k k' : Values) → Agree x k k' → Every (λ y. k y ≡ k' y) (operands g) = λ k k' q. every_imp (λ y. y < x) (λ y. k y ≡ k' y) (operands g) (λ y l. q y l) e.low in
      record {
        left = λ k. h.left k ∙ value_same g f w sh [] (low f w a);
        right = λ k. h.right k ∙ value_same g f' w' sh' [] (low f' w' a');
        flipped = λ k. h.flipped k ∙ ap (λ z. b ⊕ z) (e.decided f w f' w' a a');
      }

  pub settled : (ss : List Step) (v v' g g' : List Bool) → length v' ≡ length v → AllFrom EarlyStep (length v) ss
      → Run sh sh' ss v v' g g' → AllFrom (Settled g g') (length v) ss
  settled [] v v' g g' l e r = tt
  settled (s ∷ ss) v v' g g' l e r =
      let (h, h') = run_kept ss (v ++ (r.0 ∷ [])) (v' ++ (r.1 ∷ [])) g g' r.3 in
      let (below, here) = grown v r.0 g h in
      let (below', here') = grown v' r.1 g' h' in
      let z : length (v ++ (r.0 ∷ [])) ≡ suc (length v) = simp length-append (omega arith) in (
        bits_agree (length v) s (at v) (at g) (at v') (at g') (at g (length v)) (at g' (length v)) e.0 below (rw (← l) below') (rw (here, ← l, here') r.2),
        rw z at (settled ss (v ++ (r.0 ∷ [])) (v' ++ (r.1 ∷ [])) g g' (simp length-append (omega arith)) (rw z e.1) r.3),
      )
