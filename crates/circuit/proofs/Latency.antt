-- The latency by the frames of a circuit: 0 without an IN, without an OUT, and where the highest OUT stands below the lowest IN;
-- otherwise the clocks from the one to the other.
use mathlib.Core.Path.{◌≡◌, refl, ap, ap₂}
use mathlib.Core.List.{List, [], ◌∷◌, ◌++◌, foldr}
use mathlib.Core.Logic.{inl, inr}
use Prim.Native.Nat.{ℕ, ◌+◌, ◌-◌, ◌≤◌, ◌<◌, min, max}
use native.Mathlib.Omega.{arith}
use Rattle.circuit.specs.Kinds.{Kind, IN, OUT, kinds_agree}
use Rattle.circuit.specs.Circuit.{Circuit, Staged, staged}
use Rattle.circuit.specs.Latency.{stages_of, latency_of, latency}
use Rattle.circuit.proofs.Base.{Has}

-- the stages of a kind are those at which its frames stand
module _ (kind : Kind) (t : ℕ) where
  listed : (fs : List Staged) → Has (staged kind t) fs → Has t (stages_of kind fs)
  listed [] h = h
  listed (f ∷ fs) h = go (kinds_agree kind f.kind) h (listed fs)
    where
      go : (D : Dec (kind ≡ f.kind)) → Has (staged kind t) (f ∷ fs) → (Has (staged kind t) fs → Has t (stages_of kind fs))
          → Has t (elim D [ yes _ ↦ f.stage ∷ [] | no _ ↦ [] ] ++ stages_of kind fs)
      go (yes e) (inl h) rec = inl (ap (λ x. x.stage) h)
      go (yes e) (inr h) rec = inr (rec h)
      go (no n) (inl h) rec = absurd (n (ap (λ x. x.kind) h))
      go (no n) (inr h) rec = rec h

  standing : (fs : List Staged) → Has t (stages_of kind fs) → Has (staged kind t) fs
  standing [] h = h
  standing (f ∷ fs) h = go (kinds_agree kind f.kind) h (standing fs)
    where
      go : (D : Dec (kind ≡ f.kind)) → Has t (elim D [ yes _ ↦ f.stage ∷ [] | no _ ↦ [] ] ++ stages_of kind fs)
          → (Has t (stages_of kind fs) → Has (staged kind t) fs) → Has (staged kind t) (f ∷ fs)
      go (yes e) (inl h) rec = inl (ap₂ staged e h)
      go (yes e) (inr h) rec = inr (rec h)
      go (no n) h rec = inr (rec h)

-- no number of a list is over its highest, nor below its lowest; and no other bound is closer
below_highest : (t : ℕ) (xs : List ℕ) → Has t xs → t ≤ foldr max 0 xs
below_highest t [] h = absurd h
below_highest t (x ∷ xs) (inl e) = omega arith
below_highest t (x ∷ xs) (inr h) = omega (arith, below_highest t xs h)

highest_least : (t : ℕ) (xs : List ℕ) → ((u : ℕ) → Has u xs → u ≤ t) → foldr max 0 xs ≤ t
highest_least t [] h = omega arith
highest_least t (x ∷ xs) h = omega (arith, h x (inl refl), highest_least t xs (λ u g. h u (inr g)))

above_lowest : (s x : ℕ) (xs : List ℕ) → Has s (x ∷ xs) → foldr min x xs ≤ s
above_lowest s x [] (inl e) = omega arith
above_lowest s x [] (inr h) = absurd h
above_lowest s x (y ∷ xs) (inl e) = omega (arith, above_lowest s x xs (inl e))
above_lowest s x (y ∷ xs) (inr (inl e)) = omega arith
above_lowest s x (y ∷ xs) (inr (inr h)) = omega (arith, above_lowest s x xs (inr h))

lowest_most : (s x : ℕ) (xs : List ℕ) → s ≤ x → ((u : ℕ) → Has u xs → s ≤ u) → s ≤ foldr min x xs
lowest_most s x [] l h = l
lowest_most s x (y ∷ xs) l h = omega (arith, h y (inl refl), lowest_most s x xs l (λ u g. h u (inr g)))

module _ (k : Circuit) where
  -- a frame of a kind stands at a stage; the highest and the lowest stage at which one stands
  abbrev pub Stands : Kind → ℕ → Type 0
  Stands kind t = Has (staged kind t) k.frames

  abbrev pub Highest : Kind → ℕ → Type 0
  Highest kind t = Stands kind t × ((u : ℕ) → Stands kind u → u ≤ t)

  abbrev pub Lowest : Kind → ℕ → Type 0
  Lowest kind t = Stands kind t × ((u : ℕ) → Stands kind u → t ≤ u)

  abbrev ins : List ℕ
  ins = stages_of IN k.frames

  abbrev outs : List ℕ
  outs = stages_of OUT k.frames

  -- 0 without an IN; without an OUT
  pub without_input : ((s : ℕ) → Stands IN s → ⊥) → latency k ≡ 0
  without_input h = go ins (λ s g. h s (standing IN s k.frames g))
    where
      go : (xs : List ℕ) → ((s : ℕ) → Has s xs → ⊥) → latency_of xs outs ≡ 0
      go [] h = refl
      go (x ∷ xs) h = absurd (h x (inl refl))

  pub without_output : ((t : ℕ) → Stands OUT t → ⊥) → latency k ≡ 0
  without_output h = go ins
    where
      none : foldr max 0 outs ≤ 0
      none = highest_least 0 outs (λ u g. absurd (h u (standing OUT u k.frames g)))

      go : (xs : List ℕ) → latency_of xs outs ≡ 0
      go [] = refl
      go (x ∷ xs) = omega (arith, none)

  -- the highest OUT stage less the lowest IN stage
  module _ {s t : ℕ} (low : Lowest IN s) (high : Highest OUT t) where
    difference : latency k ≡ t - s
    difference = go ins (listed IN s k.frames low.0) (λ u g. low.1 u (standing IN u k.frames g))
      where
        last : foldr max 0 outs ≡ t
        last = omega (arith, below_highest t outs (listed OUT t k.frames high.0), highest_least t outs (λ u g. high.1 u (standing OUT u k.frames g)))

        go : (xs : List ℕ) → Has s xs → ((u : ℕ) → Has u xs → s ≤ u) → latency_of xs outs ≡ t - s
        go [] h l = absurd h
        go (x ∷ xs) h l = omega (arith, last, above_lowest s x xs h, lowest_most s x xs (l x (inl refl)) (λ u g. l u (inr g)))

    pub output-below : t < s → latency k ≡ 0
    output-below h = omega (arith, difference)

    pub from-first-input : s ≤ t → s + latency k ≡ t
    from-first-input h = omega (arith, difference)
