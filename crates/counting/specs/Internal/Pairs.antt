-- Pairs of a sharing and a tape by their free bits, all pairs by their numbers, and the combination that the read wires show in each.
use Rattle.std.specs.Prelude.{◌≡◌, Bool, true, false, cond, List, [], ◌∷◌, ◌++◌, map, ℕ, zero, suc, ◌+◌, ◌-◌, ◌*◌, ◌/◌, ◌%◌, ◌^◌, ◌≤◌, ◌<◌, eqb, length, take, drop}
use Rattle.circuit.specs.Lists.{◌⊕◌}
use Rattle.circuit.specs.Circuit.{Circuit, is_set}
use Rattle.semantics.specs.Values.{byte, at, values_of}
use Rattle.semantics.specs.Counts.{parity, free_bits}
use Rattle.counting.specs.Counting.{read_wires}

-- shares of secret bits: of each IN the next so many free bits, then the bit that completes them
unfoldable pub completed : (others : ℕ) (secrets free : List Bool) → List Bool
completed n [] free = []
completed n (z ∷ zs) free = take n free ++ (z ⊕ parity (take n free)) ∷ completed n zs (drop n free)

-- the sum of a function over the numbers below n
abbrev pub sum_to : (n : ℕ) → (ℕ → ℕ) → ℕ
sum_to zero f = 0
sum_to (suc n) f = sum_to n f + f n

-- the free bits of the pair of a number: its binary digits, the lowest first
abbrev pub free_of : (count number : ℕ) → List Bool
free_of zero t = []
free_of (suc n) t = is_set (t % 2) ∷ free_of n (t / 2)

-- the number of a combination of bits, the first the highest
abbrev pub number_of : List Bool → ℕ
number_of [] = 0
number_of (b ∷ bs) = byte b * 2 ^ length bs + number_of bs

-- the sharing and the tape of free bits
abbrev pub sharing_of : Circuit → (secrets free : List Bool) → List Bool
sharing_of k secrets free = completed (k.d - 1) secrets free

abbrev pub tape_of : Circuit → (free : List Bool) → List Bool
tape_of k free = drop ((k.d - 1) * k.inputs) free

-- the values of all wires, and the number of the combination that some of them show
abbrev pub values_with : Circuit → (secrets free : List Bool) → List Bool
values_with k secrets free = values_of k.wires (sharing_of k secrets free) (tape_of k free)

abbrev pub number_with : Circuit → (secrets : List Bool) (wires : List ℕ) (free : List Bool) → ℕ
number_with k secrets wires free = number_of (map (at (values_with k secrets free)) wires)

module _ (k : Circuit) (probes : List ℕ) (secrets : List Bool) where
  -- what the read wires show
  abbrev pub seen : List Bool → List Bool
  seen free = map (at (values_with k secrets free)) (read_wires k probes)

-- how many of the first so many numbers give free bits with which wires show the combination of number n
abbrev pub shown_among : Circuit → (secrets : List Bool) (wires : List ℕ) (free : ℕ → List Bool) (count n : ℕ) → ℕ
shown_among k secrets wires free t n = sum_to t (λ u. cond (eqb (number_with k secrets wires (free u)) n) 1 0)

-- how many of all pairs do
abbrev pub shown_of : Circuit → (secrets : List Bool) (wires : List ℕ) (n : ℕ) → ℕ
shown_of k secrets wires n = shown_among k secrets wires (free_of (free_bits k)) (2 ^ free_bits k) n

-- free bits of which some vary: the binary digits of a number at their places, the lowest first, and 0 at the others; how many vary
abbrev pub placed : (varied : List Bool) (number : ℕ) → List Bool
placed [] t = []
placed (true ∷ vs) t = is_set (t % 2) ∷ placed vs (t / 2)
placed (false ∷ vs) t = false ∷ placed vs t

abbrev pub count_varied : List Bool → ℕ
count_varied [] = 0
count_varied (true ∷ vs) = suc (count_varied vs)
count_varied (false ∷ vs) = count_varied vs

-- so many batches of so many pairs each make up all pairs; where there is more than one, each has 128
pub record Divides (free count lanes : ℕ) : Type 0 where
  pub all : count * lanes ≡ 2 ^ free
  pub some : 1 ≤ lanes
  pub few : lanes ≤ 128
  pub behind : (batch : ℕ) → batch < count → batch * lanes ≡ 128 * batch
