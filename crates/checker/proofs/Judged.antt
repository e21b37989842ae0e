-- A row judged, wire by wire.
use mathlib.Core.Path.{◌≡◌, ap, ap₂, ◌∙◌}
use mathlib.Core.List.{List, ◌∷◌}
use Prim.Native.Nat.{ℕ, suc, ◌+◌, ◌≤◌, ◌<◌}
use native.Mathlib.Omega.{arith}
use lib.ListN.{length, drop, drop_of_length-le}
use lib.Seq.{drop-cons}
use Rattle.std.specs.Prelude.{Result, Ok}
use Rattle.circuit.specs.Lists.{nth}
use Rattle.circuit.specs.declared.rules.Rule.{Rule}
use Rattle.checker.specs.declared.forms.Spot.{Spot}
use Rattle.checker.specs.declared.notes.Named.{Named}
use Rattle.checker.specs.declared.notes.Wanted.{Wanted}
use Rattle.checker.specs.Internal.Notes.{wire_asked}
use Rattle.checker.specs.Internal.Adding.{at_word, ◌and_then◌, row_broken}

-- the wires of a row from i on: that of i, then those behind it
row_turn : (look : ℕ → Result Named Rule) (want : Wanted) (w i : ℕ) (row : List ℕ) → i < length row
    → row_broken look want (w + i) i (drop i row) ≡ (at_word (w + i) (wire_asked (look (nth row i)) i want) and_then row_broken look want (w + (i + 1)) (i + 1) (drop (i + 1) row))
unfolding row_broken
row_turn look want w i row h =
    let one : suc i ≡ i + 1 = omega arith in
    let two : suc (w + i) ≡ w + (i + 1) = omega arith in
    ap (row_broken look want (w + i) i) (drop-cons row i 0 h ∙ ap (λ n. nth row i ∷ drop n row) one)
    ∙ ap₂ (λ v j. at_word (w + i) (wire_asked (look (nth row i)) i want) and_then row_broken look want v j (drop (i + 1) row)) two one

-- what a row breaks, by its wire i, and at its end
module _ (look : ℕ → Result Named Rule) (want : Wanted) (w i : ℕ) (row : List ℕ) {r : Result (Unit {0}) Spot} (h : r ≡ row_broken look want (w + i) i (drop i row)) where
  pub row_next : {s : Result (Unit {0}) Spot} → i < length row → at_word (w + i) (wire_asked (look (nth row i)) i want) ≡ s
      → r ≡ (s and_then row_broken look want (w + (i + 1)) (i + 1) (drop (i + 1) row))
  row_next l e = rw (← e) (h ∙ row_turn look want w i row l)

  pub row_end : length row ≤ i → r ≡ Ok tt
  unfolding row_broken
  row_end l = h ∙ ap (row_broken look want (w + i) i) (drop_of_length-le row {i = i} l)
