-- The kind table in numbers: that they fit, and that the code holds them.
use mathlib.Core.Path.{◌≡◌, refl, sym, ap, subst, fun_ext, ◌∙◌}
use mathlib.Core.List.{List}
use Prim.Native.Nat.{ℕ, zero, suc, ◌*◌, ◌-◌, ◌≤◌, ◌<◌}
use native.Mathlib.Nat.{mul-le-mul}
use native.Mathlib.Omega.{arith}
use Rattle.circuit.specs.Kinds.{Kind, HEAD, IN, CON, XOR, NOT, REG, AND, REF, OUT, kind_of, pairs, shape}
use Rattle.circuit.specs.Circuit.{new_stage}
use Rattle.frames.specs.declared.kinds.Kind.{Kind as KindCode}
use Rattle.frames.specs.declared.kinds.Form.{Form}
use Rattle.frames.specs.declared.kinds.Shape.{Shape as ShapeCode}
use Rattle.frames.specs.declared.walk.Next.{Next}
use Rattle.circuit.specs.declared.rules.Rule.{Rule}
use Rattle.std.specs.Prelude.{Option, Result}
use Rattle.frames.specs.Walk.{form_of, Means, kind_line, shape_code, shape_taking, step_with, step_at}

-- d(d−1) as the code computes it
pub ordered : (d : ℕ) → d * d - d ≡ d * (d - 1)
ordered zero = refl
ordered (suc d) = let e : suc d - 1 ≡ d = omega arith in rw e (omega arith)

pub square_least : (d : ℕ) → d ≤ d * d
square_least zero = omega arith
square_least (suc d) = omega arith

pub square_most : (d : ℕ) → d < 65536 → d * d < 4294967296
square_most d h = omega (arith, mul-le-mul {n₁ = d} {m₁ = d} {n₂ = 65535} {m₂ = 65535} (omega arith) (omega arith))

-- a word past 8 is answered as HEAD
pub no_kind : (word : ℕ) → 8 < word → kind_of word ≡ HEAD
unfolding kind_of
no_kind word h = let e : word ≡ suc (suc (suc (suc (suc (suc (suc (suc (suc (word - 9))))))))) = omega (arith, h) in rw e refl

-- what the code holds of a kind, number by number
pub same_line : (kind : KindCode) (form : Form) {w w' m m' u u' b : ℕ} → w ≡ w' → m ≡ m' → u ≡ u' → kind_line kind form w m u b ≡ kind_line kind form w' m' u' b
same_line kind form {b = b} e f g = λ i. kind_line kind form (e i) (f i) (g i) b

-- the form of each kind means it, and so does what the code holds of a kind
pub means : (d : ℕ) (kind : Kind) → Means d (form_of kind) kind
unfolding shape new_stage
means d HEAD = record { rules = refl; stages = λ k ops. refl }
means d IN = record { rules = refl; stages = λ k ops. refl }
means d CON = record { rules = refl; stages = λ k ops. refl }
means d XOR = record { rules = refl; stages = λ k ops. refl }
means d NOT = record { rules = refl; stages = λ k ops. omega arith }
means d REG = record { rules = refl; stages = λ k ops. omega arith }
means d AND = record { rules = refl; stages = λ k ops. omega arith }
means d REF = record { rules = refl; stages = λ k ops. omega arith }
means d OUT = record { rules = refl; stages = λ k ops. refl }

pub decided : {d : ℕ} (kind : Kind) {sh line : ShapeCode} → sh ≡ line → line.form ≡ form_of kind → (sh ≡ line) × Means d sh.form kind
decided {d} kind e f = (e, subst (λ g. Means d g kind) (sym (ap (λ s. s.form) e ∙ f)) (means d kind))

-- with a gadget's number of random bits these are the kind table's lines, and the step is the table's
right-line : (d : ℕ) (kind : Kind) → shape_taking (pairs d) d kind ≡ shape_code d kind
unfolding shape
right-line d HEAD = refl
right-line d IN = refl
right-line d CON = refl
right-line d XOR = refl
right-line d NOT = refl
right-line d REG = refl
right-line d AND = refl
right-line d REF = refl
right-line d OUT = refl

pub right_step : (table : List ℕ) (randoms d at : ℕ) {s : Result (Option Next) Rule} → s ≡ step_with (shape_taking randoms d) table d at → randoms ≡ pairs d → s ≡ step_at table d at
right_step table randoms d at e given = e ∙ ap (λ n. step_with (shape_taking n d) table d at) given ∙ ap (λ shapes. step_with shapes table d at) (fun_ext (right-line d))
