-- Where the wires of AND and REF stand, in numbers, from the gadget's first wire on.
use Rattle.std.specs.Prelude.{cond, List, ℕ, ◌+◌, ◌*◌, ◌-◌, ◌/◌, ltb}
use Rattle.circuit.specs.Lists.{nth}

-- the wires a(i) and b(i) among a gadget's words
abbrev pub word_a : List ℕ → ℕ → ℕ
word_a ops i = nth ops (1 + i)

abbrev pub word_b : ℕ → List ℕ → ℕ → ℕ
word_b d ops i = nth ops (1 + d + i)

-- how many pairs come before those whose lower share is i, and the place of the pair of i and j among all
abbrev pub row_start : (d i : ℕ) → ℕ
row_start d i = i * (2 * d - i - 1) / 2

abbrev pub pair_site : (d i j : ℕ) → ℕ
pair_site d i j = cond (ltb i j) (row_start d i + (j - i - 1)) (cond (ltb j i) (row_start d j + (i - j - 1)) 0)

-- the place of j among the shares other than i, and where the parts for i and another share begin
abbrev pub slot_of : (i j : ℕ) → ℕ
slot_of i j = cond (ltb i j) (j - 1) j

abbrev pub cross_start : (d i : ℕ) → ℕ
cross_start d i = d * (d - 1) + 3 * d + 6 * (i * (d - 1))

-- AND: the wires r(i,j), B(i), u(i,j) and c(i); R stands behind r, m and M behind B, and U, v, V, w and W behind u
abbrev pub pair_at : (d first i j : ℕ) → ℕ
pair_at d first i j = first + 2 * pair_site d i j

abbrev pub product_at : (d first i : ℕ) → ℕ
product_at d first i = first + d * (d - 1) + 3 * i

abbrev pub cross_at : (d first i j : ℕ) → ℕ
cross_at d first i j = first + cross_start d i + 6 * slot_of i j

abbrev pub out_at : (d first i : ℕ) → ℕ
out_at d first i = first + cross_start d d + i

-- REF: the wires r(i,j), s(i) and S(i)
abbrev pub mask_at : (d first i j : ℕ) → ℕ
mask_at d first i j = first + pair_site d i j

abbrev pub sum_at : (d first i : ℕ) → ℕ
sum_at d first i = first + d * (d - 1) / 2 + i

abbrev pub held_at : (d first i : ℕ) → ℕ
held_at d first i = first + d * (d - 1) / 2 + d + i
