-- The theorems of equal counts, with d left free, for any frames that fit, where gates take earlier wires (`build-early` of semantics).
use mathlib.Core.Path.{subst}
use mathlib.Core.List.{List, []}
use Prim.Native.Nat.{ℕ}
use Rattle.circuit.specs.Circuit.{empty}
use Rattle.circuit.specs.Composition.{Frame, AllFit, build}
use Rattle.circuit.proofs.Base.{AllFrom}
use Rattle.circuit.proofs.Building.{build-shares}
use Rattle.semantics.specs.Counts.{EqualCounts}
use Rattle.secrecy.specs.Deciding.{AgreeAt, Deciding}
use Rattle.secrecy.proofs.Coupled.{Low}
use Rattle.secrecy.proofs.Tapes.{indices, indices_sub, indices-length, equal_tapes}
use Rattle.secrecy.proofs.Sharings.{equal_from-indices}

module _ (d : ℕ) (fs : List Frame) (fit : AllFit (empty d) fs) (ordered : AllFrom (λ x w. Low x w.gate) 0 (build (empty d) fs).wires) where
  -- the share indices to start from, and at most one more for each different probed wire, decide
  pub share-indices-of : (probes start : List ℕ) → Deciding (build (empty d) fs) probes start
  share-indices-of probes start = record {
    indices = indices d fs probes start;
    from = indices_sub d fs probes start;
    few = indices-length d fs probes start;
    decide = λ besides shown one other same. equal_tapes d fs probes start fit ordered besides shown one other (subst (λ (e : ℕ). AgreeAt e (indices d fs probes start) one other) (build-shares (empty d) fs) same);
  }

  -- with fewer than d different wires probed, any two sets of secret bits give a reading equally often
  pub equal_counts-of : (probes : List ℕ) → EqualCounts (build (empty d) fs) probes
  equal_counts-of probes = equal_from-indices (build (empty d) fs) probes (share-indices-of probes [])
