-- Each arm is the kind table's line of its word; d(d−1) as the code computes it is the table's.
use mathlib.Core.Path.{◌≡◌, refl, sym, ap, ap₂, ◌∙◌}
use Prim.Native.Nat.{ℕ, ◌+◌, ◌*◌, ◌<◌}
use native.Mathlib.Omega.{arith}
use Rattle.circuit.specs.Kinds.{HEAD, IN, CON, XOR, NOT, REG, AND, REF, OUT, kind_of, shape}
use Rattle.frames.specs.Walk.{kind_line}
use Rattle.frames.specs.declared.kinds.Form.TheVariants.{Copy, Product, Refresh, Row}
use Rattle.frames.specs.declared.kinds.Kind.{Kind}
use Rattle.frames.specs.declared.kinds.Shape.{Shape as ShapeCode}
use Rattle.frames.specs.declared.kinds.Kind.TheVariants.{And, Ref, Out}
use Rattle.circuit.proofs.Sizes.{words-AND, words-REF, words-OUT}
use Rattle.frames.proofs.KindTable.{ordered, square_least, square_most, no_kind, same_line, decided}
use Rattle.frames.proofs.kinds.decide.Goals as goal
use Rattle.frames.proofs.kinds.decide.Goals.{Start, then-word-eq4, else-word-eq4}

-- d·d is small
square : (s : Start) → s.args.d * s.args.d < 4294967296
square s = square_most s.args.d (omega arith)

-- a line of NOT or REG, by its kind and by how many stages later the wire stands
copied : {sh : ShapeCode} {k kind : Kind} {a n : ℕ} → sh ≡ kind_line k (Copy a) 1 1 0 0 → k ≡ kind → a ≡ n → sh ≡ kind_line kind (Copy n) 1 1 0 0
copied e f g = e ∙ ap₂ (λ x b. kind_line x (Copy b) 1 1 0 0) f g

pub overflow_mul-ordered : goal.overflow_mul-ordered
unfolding kind_of shape
overflow_mul-ordered c = omega (arith, square (goal.at.overflow_mul-ordered c).Start)

pub overflow_sub-ordered : goal.overflow_sub-ordered
unfolding kind_of shape
overflow_sub-ordered c = square_least c.args.d

pub returns-in-1 : goal.returns-in-1
unfolding kind_of shape
returns-in-1 c = let h = decided {d = c.args.d} IN c.kind_line.ensures refl in rw c.in-1.is record { shaped = h.0; formed = h.1 }

pub returns-in-2 : goal.returns-in-2
unfolding kind_of shape
returns-in-2 c = let h = decided {d = c.args.d} CON c.kind_line-in-2.ensures refl in rw c.in-2.is record { shaped = h.0; formed = h.1 }

pub returns-in_default : goal.returns-in_default
unfolding kind_of shape
returns-in_default c =
    let e : c.args.word ≡ 0 = omega arith in
    let h = decided {d = c.args.d} HEAD c.kind_line-in_default.ensures refl in
    rw e record { shaped = h.0; formed = h.1 }

pub returns-then-word-eq3 : goal.returns-then-word-eq3
unfolding kind_of shape
returns-then-word-eq3 c =
    let h = decided {d = c.args.d} XOR c.kind_line-then-word-eq3.ensures refl in
    rw c.if-word-eq3.true record { shaped = h.0; formed = h.1 }

pub overflow_sub-word : goal.overflow_sub-word
unfolding kind_of shape
overflow_sub-word c = omega (arith, c.if-word-eq3.false, c.if-word-lt3.false)

pub returns-then-word-lt6 : goal.returns-then-word-lt6
unfolding kind_of shape
returns-then-word-lt6 c =
    elim c.if-word-eq4.branch [
      | then-word-eq4 p ↦
          let h = decided {d = c.args.d} NOT (copied c.kind_line-then-word-lt6.ensures p.kind-is (omega (arith, p.if-word-eq4.true))) refl in
          rw p.if-word-eq4.true record { shaped = h.0; formed = h.1 }
      | else-word-eq4 p ↦
          let e : c.args.word ≡ 5 = omega arith in
          let h = decided {d = c.args.d} REG (copied c.kind_line-then-word-lt6.ensures p.kind-is (omega (arith, e))) refl in
          rw e record { shaped = h.0; formed = h.1 }
    ]

pub overflow_mul-ordered-in-6 : goal.overflow_mul-ordered-in-6
unfolding kind_of shape
overflow_mul-ordered-in-6 c = omega (arith, square (goal.at.overflow_mul-ordered-in-6 c).Start)

pub overflow_add-ordered : goal.overflow_add-ordered
unfolding kind_of shape
overflow_add-ordered c = omega (arith, square (goal.at.overflow_add-ordered c).Start)

pub returns-in-6 : goal.returns-in-6
unfolding kind_of shape
returns-in-6 c =
    let d = c.args.d in
    let h = decided {d = c.args.d} AND (c.kind_line-in-6.ensures ∙ same_line And Product (sym (words-AND d)) (ap (λ n. 7 * n + 4 * d) (ordered d)) refl) refl in
    rw c.in-6.is record { shaped = h.0; formed = h.1 }

pub returns-in-7 : goal.returns-in-7
unfolding kind_of shape
returns-in-7 c =
    let h = decided {d = c.args.d} REF (c.kind_line-in-7.ensures ∙ same_line Ref Refresh (sym (words-REF c.args.d)) refl refl) refl in
    rw c.in-7.is record { shaped = h.0; formed = h.1 }

pub returns-in-8 : goal.returns-in-8
unfolding kind_of shape
returns-in-8 c =
    let h = decided {d = c.args.d} OUT (c.kind_line-in-8.ensures ∙ same_line Out Row (sym (words-OUT c.args.d)) refl refl) refl in
    rw c.in-8.is record { shaped = h.0; formed = h.1 }

pub returns-in_default-word : goal.returns-in_default-word
unfolding kind_of shape
returns-in_default-word c =
    let h = decided {d = c.args.d} HEAD c.kind_line-in_default-word.ensures refl in
    rw (no_kind c.args.word (omega arith)) record { shaped = h.0; formed = h.1 }
