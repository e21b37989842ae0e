-- The stages kept for the latency: with each frame they are those of all frames so far, and at the end they give the latency.
use mathlib.Core.Path.{◌≡◌, sym, ap, ap₂, ◌∙◌}
use mathlib.Core.List.{List, [], ◌∷◌, ◌++◌, foldr}
use Prim.Native.Nat.{ℕ, suc, ◌-◌, ◌≤◌, min, max}
use native.Mathlib.Omega.{arith}
use Rattle.circuit.specs.Limits.{stage_limit}
use Rattle.circuit.specs.Kinds.{Kind, HEAD, IN, CON, XOR, NOT, REG, AND, REF, OUT, kinds_agree}
use Rattle.circuit.specs.Circuit.{Circuit, Staged, staged}
use Rattle.circuit.specs.Latency.{stages_of, latency_of, latency}
use Rattle.circuit.proofs.Base.{concat_map-append}
use Rattle.frames.specs.Walk.{form_of}
use Rattle.checker.specs.declared.span.Span.{Span}
use Rattle.checker.specs.Internal.Spans.{span, no_span, span_of, span_in, latency_in}

-- the lowest of numbers, from a number on: no higher than it; of one list behind another; and as the lowest of its own numbers
lowest_start : (n : ℕ) (xs : List ℕ) → foldr min n xs ≤ n
lowest_start n [] = omega arith
lowest_start n (x ∷ xs) = omega (arith, lowest_start n xs)

lowest_behind : (n : ℕ) (xs ys : List ℕ) → foldr min n (xs ++ ys) ≡ min (foldr min n xs) (foldr min n ys)
lowest_behind n [] ys = omega (arith, lowest_start n ys)
lowest_behind n (x ∷ xs) ys = omega (arith, lowest_behind n xs ys)

lowest_own : (n s : ℕ) (xs : List ℕ) → min s (foldr min n xs) ≡ min n (foldr min s xs)
lowest_own n s [] = omega arith
lowest_own n s (x ∷ xs) = omega (arith, lowest_own n s xs)

highest_behind : (xs ys : List ℕ) → foldr max 0 (xs ++ ys) ≡ max (foldr max 0 xs) (foldr max 0 ys)
highest_behind [] ys = omega arith
highest_behind (x ∷ xs) ys = omega (arith, highest_behind xs ys)

-- of one list of frames behind another
abbrev both : Span → Span → Span
both a b = span (min a.lowest b.lowest) (max a.highest b.highest)

behind : (fs gs : List Staged) → span_of (fs ++ gs) ≡ both (span_of fs) (span_of gs)
behind fs gs = ap₂ (λ ins outs. span (foldr min (suc stage_limit) ins) (foldr max 0 outs)) (concat_map-append fs gs _) (concat_map-append fs gs _)
    ∙ ap₂ span (lowest_behind (suc stage_limit) (stages_of IN fs) (stages_of IN gs)) (highest_behind (stages_of OUT fs) (stages_of OUT gs))

module _ (fs : List Staged) where
  -- an IN counts for the lowest stage, an OUT for the highest, and no other kind for either
  low : (span_of fs).lowest ≤ suc stage_limit
  low = lowest_start (suc stage_limit) (stages_of IN fs)

  kept : span_of fs ≡ both (span_of fs) no_span
  kept = ap₂ span (omega (arith, low)) (omega arith)

  by_kind : (kind : Kind) (t : ℕ) → span_in (form_of kind) (span_of fs) t ≡ both (span_of fs) (span_of (staged kind t ∷ []))
  by_kind HEAD t = kept
  by_kind IN t = ap₂ span (omega (arith, low)) (omega arith)
  by_kind CON t = kept
  by_kind XOR t = kept
  by_kind NOT t = kept
  by_kind REG t = kept
  by_kind AND t = kept
  by_kind REF t = kept
  by_kind OUT t = ap₂ span (omega (arith, low)) (omega arith)

  pub span-next : (kind : Kind) (t : ℕ) → span_in (form_of kind) (span_of fs) t ≡ span_of (fs ++ (staged kind t ∷ []))
  span-next kind t = by_kind kind t ∙ sym (behind fs (staged kind t ∷ []))

  -- the highest stage stays within the limit
  pub highest_next : (f : Staged) → f.stage ≤ stage_limit → (span_of fs).highest ≤ stage_limit → (span_of (fs ++ (f ∷ []))).highest ≤ stage_limit
  highest_next f l h = omega (arith, ap (λ s. s.highest) (behind fs (f ∷ [])), one (kinds_agree OUT f.kind))
    where
      one : (D : Dec (OUT ≡ f.kind)) → foldr max 0 (elim D [ yes _ ↦ f.stage ∷ [] | no _ ↦ [] ] ++ []) ≤ stage_limit
      one (yes e) = omega arith
      one (no e) = omega arith

-- at the end
pub latency-is : (k : Circuit) → (span_of k.frames).highest ≤ stage_limit → latency_in (span_of k.frames) ≡ latency k
latency-is k h = go (stages_of IN k.frames) (stages_of OUT k.frames) h
  where
    go : (ins outs : List ℕ) → foldr max 0 outs ≤ stage_limit → foldr max 0 outs - foldr min (suc stage_limit) ins ≡ latency_of ins outs
    go [] outs h = omega arith
    go (s ∷ ins) outs h = omega (arith, lowest_own (suc stage_limit) s ins)
