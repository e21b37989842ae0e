-- The wires inside AND, by how far they stand behind its first.
use Rattle.std.specs.Prelude.{◌≡◌, cond, ℕ, ◌+◌, ◌*◌, ◌-◌, ◌/◌, ◌%◌, ◌<◌, leb, ltb}
use Rattle.circuit.specs.Kinds.{pairs}
use Rattle.symbolic.specs.declared.offsets.Inner.{Inner}
use Rattle.symbolic.specs.declared.offsets.Inner.TheVariants.{R, B, M, U, V, W}

-- B, m and M; u, U, v, V, w and W
abbrev pub product_wire : (i part : ℕ) → Inner
product_wire i part = cond (ltb part 1) (B i) (M i)

abbrev pub cross_wire : (i j part : ℕ) → Inner
cross_wire i j part = cond (ltb part 2) (U i j) (cond (ltb part 4) (V i j) (W i j))

-- the share at a place among those other than i
abbrev pub share_at : (i slot : ℕ) → ℕ
share_at i s = cond (leb i s) (s + 1) s

-- the wire that stands so far behind the first of u, and behind AND's first
abbrev pub pair_wire : (d offset : ℕ) → Inner
pair_wire d o =
    let i = o / (6 * (d - 1)) in
    let rest = o % (6 * (d - 1)) in
    cross_wire i (share_at i (rest / 6)) (rest % 6)

unfoldable pub inner_at : (d offset : ℕ) → Inner
inner_at d o = cond (ltb o (d * (d - 1))) (R (o / 2))
    (cond (ltb o (d * (d - 1) + 3 * d)) (product_wire ((o - d * (d - 1)) / 3) ((o - d * (d - 1)) % 3)) (pair_wire d (o - (d * (d - 1) + 3 * d))))

-- two different shares of d
abbrev pub TwoOf : (d i j : ℕ) → Type 0
TwoOf d i j = (i < d) × (j < d) × (j ≡ i → ⊥)

-- a wire inside an AND of d shares
abbrev pub WireOf : ℕ → Inner → Type 0
WireOf d (R q) = q < pairs d
WireOf d (B i) = i < d
WireOf d (M i) = i < d
WireOf d (U i j) = TwoOf d i j
WireOf d (V i j) = TwoOf d i j
WireOf d (W i j) = TwoOf d i j
