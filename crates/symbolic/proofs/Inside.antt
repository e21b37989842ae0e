-- The wire at an offset behind AND's first: which of its parts it is.
use mathlib.Core.Path.{◌≡◌, ◌∙◌}
use Prim.Native.Nat.{ℕ, ◌+◌, ◌*◌, ◌-◌, ◌/◌, ◌%◌, ◌≤◌, ◌<◌}
use native.Mathlib.Nat.{div-add-mod', mod-lt, mul-le-mul_right}
use native.Mathlib.Omega.{arith}
use lib.Dec.{leb, ltb}
use borrow.Author.Tests.{lt-ltb, le-ltb, ltb-true, ltb-false, leb-true, leb-false}
use Rattle.circuit.proofs.Base.{cases}
use Rattle.circuit.proofs.Sizes.{pairs_twice}
use Rattle.gadgets.specs.Internal.Places.{slot_of, cross_start, cross_at}
use Rattle.gadgets.proofs.Slots.{slot_low, slot_high}
use Rattle.symbolic.specs.declared.offsets.Inner.TheVariants.{R}
use Rattle.symbolic.specs.Internal.Inside.{product_wire, cross_wire, share_at, pair_wire, inner_at, TwoOf, WireOf}

-- the share at a place among the others, and back
record Share (d i s : ℕ) : Type 0 where
  lt : share_at i s < d
  apart : share_at i s ≡ i → ⊥
  slot : slot_of i (share_at i s) ≡ s

share : (d i s : ℕ) → s < d - 1 → Share d i s
share d i s l = cases (leb i s)
    (λ e. let h = leb-true i s e in record { lt = rw e (omega arith); apart = λ z. let y = rw e at z in omega arith; slot = rw e (slot_high i (s + 1) (omega arith) ∙ omega arith) })
    (λ e. let h = leb-false i s e in record { lt = rw e (omega arith); apart = λ z. let y = rw e at z in omega arith; slot = rw e (slot_low i s (omega arith)) })

pub record Decoded (d first o : ℕ) : Type 0 where
  pub few : o / (6 * (d - 1)) < d
  pub slot : o % (6 * (d - 1)) / 6 < d - 1
  pub other : share_at (o / (6 * (d - 1))) (o % (6 * (d - 1)) / 6) < d
  pub apart : share_at (o / (6 * (d - 1))) (o % (6 * (d - 1)) / 6) ≡ o / (6 * (d - 1)) → ⊥
  pub place : first + cross_start d 0 + o ≡ cross_at d first (o / (6 * (d - 1))) (share_at (o / (6 * (d - 1))) (o % (6 * (d - 1)) / 6)) + o % (6 * (d - 1)) % 6

pub decoded : (d first o : ℕ) → 2 ≤ d → o < 6 * (d * (d - 1)) → Decoded d first o
decoded d first o two l =
    let m = d - 1 in
    let row = 6 * m in
    let i = o / row in
    let rest = o % row in
    let all : i * row + rest ≡ o = div-add-mod' o row in
    let most : rest < row = mod-lt o (omega arith) in
    let few : i < d = cases (ltb i d) (ltb-true i d) (λ e. absurd (omega (arith, mul-le-mul_right row (ltb-false i d e)))) in
    let s = share d i (rest / 6) (omega arith) in
    record { few = few; slot = omega arith; other = s.lt; apart = s.apart; place = rw s.slot (omega arith) }

-- a wire, by the part in which it stands
pub inner_mask : (d o : ℕ) → o < d * (d - 1) → inner_at d o ≡ R (o / 2)
unfolding inner_at
inner_mask d o l = rw (lt-ltb o (d * (d - 1)) l)

pub inner-share : (d o : ℕ) → d * (d - 1) ≤ o → o < d * (d - 1) + 3 * d → inner_at d o ≡ product_wire ((o - d * (d - 1)) / 3) ((o - d * (d - 1)) % 3)
unfolding inner_at
inner-share d o l u = rw (le-ltb o (d * (d - 1)) l, lt-ltb o (d * (d - 1) + 3 * d) u)

pub inner_pair : (d o : ℕ) → d * (d - 1) + 3 * d ≤ o → inner_at d o ≡ pair_wire d (o - (d * (d - 1) + 3 * d))
unfolding inner_at
inner_pair d o l = rw (le-ltb o (d * (d - 1)) (omega arith), le-ltb o (d * (d - 1) + 3 * d) l)

-- it is of AND's shares
pub share-of : (d i part : ℕ) → i < d → WireOf d (product_wire i part)
share-of d i part l = cases (ltb part 1) (λ e. rw e l) (λ e. rw e l)

pub two-of : (d i j part : ℕ) → TwoOf d i j → WireOf d (cross_wire i j part)
two-of d i j part t = cases (ltb part 2) (λ e. rw e t) (λ e. cases (ltb part 4) (λ e'. rw (e, e') t) (λ e'. rw (e, e') t))

pub shares_fit : (d o : ℕ) → 2 ≤ d → o < cross_start d d → WireOf d (inner_at d o)
shares_fit d o two h = cases (ltb o (d * (d - 1)))
    (λ e. let l = ltb-true o (d * (d - 1)) e in rw (inner_mask d o l) (omega (arith, pairs_twice d)))
    (λ e. let l = ltb-false o (d * (d - 1)) e in cases (ltb o (d * (d - 1) + 3 * d))
    (λ e'. let u = ltb-true o (d * (d - 1) + 3 * d) e' in rw (inner-share d o l u) (share-of d _ _ (omega arith)))
    (λ e'. let u = ltb-false o (d * (d - 1) + 3 * d) e' in
    let t = decoded d 0 (o - (d * (d - 1) + 3 * d)) two (omega arith) in
    rw (inner_pair d o u) (two-of d _ _ ((o - (d * (d - 1) + 3 * d)) % (6 * (d - 1)) % 6) (t.few, t.other, t.apart))))
