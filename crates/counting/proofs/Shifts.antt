-- By which number each free bit moves what is shown: the list of them.
use mathlib.Core.Path.{◌≡◌, subst, ◌∙◌}
use mathlib.Core.List.{List, map}
use Prim.Native.Nat.{ℕ, ◌^◌, ◌<◌}
use native.Mathlib.Omega.{arith}
use lib.Dec.{ltb}
use lib.ListN.{length, length-map, get_or-eq_default}
use borrow.Author.Tests.{ltb-true, ltb-false}
use Rattle.circuit.specs.Lists.{nth, range}
use Rattle.circuit.proofs.Base.{cases}
use Rattle.circuit.proofs.Sizes.{range_length}
use Rattle.counting.specs.Internal.Pairs.{number_of}
use Rattle.counting.specs.Internal.Lanes.{lane_bit}
use Rattle.counting.specs.Internal.Linear.{shift_in, ShiftsIn}
use Rattle.counting.proofs.Numbered.{pow_mono, number_lt}
use Rattle.counting.proofs.Filling.{GivenTo}

-- a number of so many bits
shift_low : (sums read : List ℕ) (i : ℕ) → shift_in sums read i < 2 ^ length read
shift_low sums read i =
    let found = length read in
    let bs = map (λ j. lane_bit i (nth sums (nth read j))) (range 0 found) in
    let sized : length bs ≡ found = length-map (range 0 found) (λ j. lane_bit i (nth sums (nth read j))) ∙ range_length 0 found in
    subst (λ (n : ℕ). number_of bs < 2 ^ n) sized (number_lt bs)

pub shifts_all : {sums read shifts : List ℕ} {free : ℕ} → GivenTo (shift_in sums read) free shifts free → ShiftsIn sums read free shifts
shifts_all {sums} {read} {shifts} {free} t = record {
  are = t.are;
  low = λ i. cases (ltb i free)
      (λ b. rw (t.are i (ltb-true i free b)) (shift_low sums read i))
      (λ b. let none : nth shifts i ≡ 0 = get_or-eq_default shifts 0 {n = i} (omega (arith, ltb-false i free b, t.sized)) in rw none (pow_mono (length read) 0 (omega arith)));
  sized = t.sized;
}
