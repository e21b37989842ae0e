-- The theorems for every table that the checker accepts.
use mathlib.Core.Path.{◌≡◌, subst, sym}
use mathlib.Core.Bool.{Bool}
use mathlib.Core.List.{List}
use Prim.Native.Nat.{ℕ}
use Rattle.circuit.specs.Circuit.{Circuit, empty}
use Rattle.circuit.specs.Rules.{pass, checked}
use Rattle.circuit.specs.Composition.{build}
use Rattle.circuit.proofs.Building.{Lawful}
use Rattle.circuit.proofs.Exact.{Accepted, sound}
use Rattle.semantics.specs.Values.{values_of}
use Rattle.semantics.specs.Counts.{EqualCounts}
use Rattle.semantics.proofs.Earlier.{EarlyIn, build-early}
use Rattle.secrecy.specs.Deciding.{Deciding}
use Rattle.secrecy.specs.Gadgets.{Computes}
use Rattle.secrecy.proofs.Theorems.{share-indices-of, equal_counts-of}
use Rattle.secrecy.proofs.Products.{product-of, refresh_of}

module _ (table : List ℕ) (room : ℕ) (accepted : (checked table room).judgement ≡ pass) where
  abbrev a : Accepted table room
  a = sound table room accepted

  -- its gates take earlier wires
  ordered : Lawful EarlyIn (build (empty a.d) a.fs)
  ordered = build-early a.d a.fs a.least a.fit

  -- a few share indices decide
  pub share-indices : (probes start : List ℕ) → Deciding (checked table room).circuit probes start
  share-indices probes start = subst (λ (k : Circuit). Deciding k probes start) (sym a.circuit_is) (share-indices-of a.d a.fs a.fit ordered probes start)

  -- demand 3
  pub equal_counts : (probes : List ℕ) → EqualCounts (checked table room).circuit probes
  equal_counts probes = subst (λ (k : Circuit). EqualCounts k probes) (sym a.circuit_is) (equal_counts-of a.d a.fs a.fit ordered probes)

  -- products and refreshes
  pub gadgets_compute : (shares tape : List Bool) → Computes table (values_of (checked table room).circuit.wires shares tape)
  gadgets_compute shares tape = subst (λ (k : Circuit). Computes table (values_of k.wires shares tape)) (sym a.circuit_is) (record {
    d = a.d;
    fs = a.fs;
    table_is = a.table_is;
    fit = a.fit;
    products = λ before after ops. product-of a.d a.fs before after ops shares tape ordered;
    refreshes = λ before after ops. refresh_of a.d a.fs before after ops shares tape ordered;
  })
