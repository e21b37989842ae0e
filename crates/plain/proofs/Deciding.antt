-- Kind by kind, the code's test of a frame that fits is the definition's.
use mathlib.Core.Path.{◌≡◌, refl, sym, ap, ap₂, ◌∙◌}
use mathlib.Core.Bool.{◌&&◌}
use mathlib.Core.List.{List, ◌∷◌}
use Prim.Native.Nat.{ℕ, suc, ◌+◌, ◌≤◌}
use native.Mathlib.Omega.{arith}
use lib.ListN.{take, drop}
use Rattle.circuit.specs.Limits.{fewest_shares}
use Rattle.circuit.specs.Kinds.{Kind, shape}
use Rattle.circuit.specs.Circuit.{Circuit}
use Rattle.circuit.specs.Composition.{Frame, frame, Fits, fit-IN, fit-CON, fit-XOR, fit-NOT, fit-REG, fit-AND, fit-REF, fit-OUT, AllFit, words_of}
use Rattle.circuit.proofs.Building.{Lawful, InTime}
use Rattle.circuit.proofs.Sizes.{words-AND, words-REF, words-OUT}
use Rattle.frames.specs.Walk.{kind_code, frame_code}
use Rattle.plain.specs.Sharings.{Plain, fits, further}
use Rattle.plain.specs.Internal.Tests.{rising, gate_fits, frame_fits, Labels}
use Rattle.plain.proofs.Kept.{Kept}
use Rattle.plain.proofs.Runs.{one-CON, one-XOR, one-NOT, one-REG}
use Rattle.plain.proofs.FrameTests.{row_exact, over_exact, sum_exact, constant_exact}

module _ (k : Circuit) (p : Plain) (kept : Kept k p) (ge : fewest_shares ≤ k.d) (time : Lawful InTime k) (table notes : List ℕ) (marks : Labels notes k) (at : ℕ) (later : List Frame) where
  -- frames of this kind stand at the place
  abbrev Here : Kind → List ℕ → Type 0
  Here kind ops = drop at table ≡ words_of (frame kind ops ∷ later)

  pub exact : {kind : Kind} {ops : List ℕ} → Fits k kind ops → Here kind ops → AllFit k (frame kind ops ∷ later)
      → frame_fits table notes at k.d (frame_code (kind_code kind) ops) ≡ fits k p (frame kind ops) (take (further k.d kind) later) kind
  unfolding frame_fits gate_fits fits shape
  exact (fit-IN t o) here fit = refl
  exact (fit-CON l b t o q r) here fit = constant_exact k p kept ge time table notes at _ _ later here fit one-CON (omega arith) (λ o. refl)
  exact (fit-XOR x y l t e g) here fit = sum_exact k p kept ge time table notes at _ _ later here fit one-XOR (omega arith) (λ o. refl) l t e (marks.told x l t e) (omega arith) g
  exact (fit-NOT x l t e) here fit = over_exact k p kept ge time table notes at _ _ later here fit one-NOT (omega arith) (λ o. refl) l t e (marks.told x l t e)
  exact (fit-REG x l t e o) here fit = over_exact k p kept ge time table notes at _ _ later here fit one-REG (omega arith) (λ o. refl) l t e (marks.told x l t e)
  exact (fit-AND ops t len first a b o) here fit =
      let n = k.d in
      let there : at + (1 + (1 + n)) ≡ at + 2 + n = omega arith in
      ap₂ (λ x y. x && y) (row_exact k p kept ge time table notes at _ _ later here fit 1 (suc t) (omega (arith, words-AND n)) a)
      (ap (λ x. rising table x 1 n 1) (sym there) ∙ row_exact k p kept ge time table notes at _ _ later here fit (1 + n) t (omega (arith, words-AND n)) b)
  exact (fit-REF ops t len first a o) here fit = row_exact k p kept ge time table notes at _ _ later here fit 1 t (omega (arith, words-REF k.d)) a
  exact (fit-OUT ops t len a g) here fit = row_exact k p kept ge time table notes at _ _ later here fit 0 t (omega (arith, words-OUT k.d)) a
