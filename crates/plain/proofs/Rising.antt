-- Words in a row: each is the first plus so many steps; and the places that such words have.
use mathlib.Core.Path.{◌≡◌, sym, ap, ◌∙◌}
use mathlib.Core.Bool.{true, false, ◌&&◌}
use mathlib.Core.List.{List, map}
use Prim.Native.Nat.{ℕ, ◌+◌, ◌*◌, ◌≤◌, ◌<◌}
use native.Mathlib.Nat.{mul-le-mul_right}
use native.Mathlib.Omega.{arith}
use lib.Dec.{leb, eqb}
use lib.ListN.{length}
use borrow.Author.Tests.{leb-true}
use Rattle.circuit.specs.Lists.{nth}
use Rattle.circuit.specs.Gadgets.{labels}
use Rattle.circuit.proofs.Base.{cases, and_left}
use Rattle.semantics.proofs.Alike.{same_list, alike-itself}
use Rattle.circuit.specs.Answer.{label_noted}
use Rattle.circuit.proofs.Parts.{label_lt}
use Rattle.gadgets.proofs.Ranges.{map_on}
use Rattle.plain.specs.Internal.Tests.{rising, Has, alike_from, over_row}
use Rattle.plain.proofs.Found.{range-map-at}

-- two lists that are given by their labels
module _ (f g : ℕ → ℕ) where
  pub maps_same : (n : ℕ) → ((i : ℕ) → i < n → f i ≡ g i) → map f (labels n) ≡ map g (labels n)
  maps_same n h = map_on f g (labels n) (λ i k. h i (label_lt n i k))

  pub same_maps : (n : ℕ) → map f (labels n) ≡ map g (labels n) → (i : ℕ) → i < n → f i ≡ g i
  same_maps n h i l =
      let z : i ≡ 0 + i = omega arith in
      ap f z ∙ sym (range-map-at f 0 n i 0 l) ∙ ap (λ xs. nth xs i) h ∙ range-map-at g 0 n i 0 l ∙ sym (ap g z)

-- words that rise: each is the first plus so many steps
abbrev pub OnStep : List ℕ → (at by step i : ℕ) → Type 0
OnStep table at by step i = nth table (at + i * by) ≡ nth table at + i * step

module _ (table : List ℕ) (at by n step : ℕ) where
  pub rises_each : rising table at by n step ≡ true → (i : ℕ) → i < n → OnStep table at by step i
  unfolding rising
  rises_each h i l = same_maps (λ i. nth table (at + i * by)) (λ i. nth table at + i * step) n (same_list _ _ h) i l

  pub each_rises : ((i : ℕ) → i < n → OnStep table at by step i) → rising table at by n step ≡ true
  unfolding rising
  each_rises h = rw (maps_same (λ i. nth table (at + i * by)) (λ i. nth table at + i * step) n h) (alike-itself (map (λ i. nth table at + i * step) (labels n)))

  pub not-rising : (i : ℕ) → i < n → (OnStep table at by step i → ⊥) → rising table at by n step ≡ false
  not-rising i l differ = cases (rising table at by n step) (λ e. absurd (differ (rises_each e i l))) (λ e. e)

-- the places that a word of each frame of a run has
pub has_column : (table : List ℕ) (at size n word : ℕ) → at + n * size ≤ length table → word < size → Has table (at + word) size n
has_column table at size n word h l = record { each = λ i m. omega (arith, mul-le-mul_right size m) }

-- frames that stand from a place on are in the table
pub run_room : (table : List ℕ) (at size n : ℕ) → alike_from table at size n ≡ true → at + n * size ≤ length table
unfolding alike_from
run_room table at size n h = leb-true _ _ (and_left (leb (at + n * size) (length table)) (rising table at size n 0) h)

pub over_room : (table notes : List ℕ) (at size n wire : ℕ) → over_row table notes at size n wire ≡ true → at + n * size ≤ length table
unfolding over_row
over_room table notes at size n wire h = run_room table at size n
    (and_left (alike_from table at size n) (eqb (label_noted notes wire) 0) (and_left (alike_from table at size n && eqb (label_noted notes wire) 0) (rising table (at + 1) size n 1) h))
