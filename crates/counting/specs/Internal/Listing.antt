-- The list of counts as the code writes it.
use Rattle.std.specs.Prelude.{List, [], ◌∷◌, ℕ}
use Rattle.circuit.specs.Lists.{nth, range, concat_map}
use Rattle.counting.specs.Counting.{per_thousand}

-- the four numbers of a combination, from its counts
abbrev pub four_of : (one other pairs : ℕ) → List ℕ
four_of one other pairs = one ∷ other ∷ per_thousand one pairs ∷ per_thousand other pairs ∷ []

-- those of so many combinations from one on
unfoldable pub list_of : (one other : List ℕ) (pairs from count : ℕ) → List ℕ
list_of one other pairs from count = concat_map (range from count) (λ n. four_of (nth one n) (nth other n) pairs)
