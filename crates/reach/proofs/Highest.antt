-- The largest of some bytes; where it is 0, none is a mark.
use mathlib.Core.Path.{◌≡◌, ap}
use mathlib.Core.Bool.{false≢true}
use mathlib.Core.List.{List, [], ◌∷◌}
use Prim.Native.Nat.{ℕ, suc, ◌+◌, ◌-◌, ◌≤◌, ◌<◌}
use native.Mathlib.Omega.{arith}
use lib.Dec.{eqb}
use lib.ListN.{length, take, drop, length-take, length-drop}
use lib.Seq.{get_or-take, get_or-drop}
use borrow.Author.Tests.{eqb-true}
use Rattle.circuit.specs.Lists.{nth, mem}
use Rattle.circuit.proofs.Base.{or_cases, In}
use Rattle.reach.specs.Internal.Bytes.{Most}
use Rattle.reach.specs.Internal.Marks.{Unmarked}

-- a part of the marks of which none is over 0
pub none_over : (marks : List ℕ) (from to : ℕ) {most : ℕ} → to ≤ length marks → Most (take (to - from) (drop from marks)) most → most ≤ 0 → Unmarked marks from to
none_over marks from to room h z x low high =
    let e : from + (x - from) ≡ x = omega arith in
    let part = drop from marks in
    let within : x - from < length (take (to - from) part) = omega (arith, length-take (to - from) part, length-drop from marks) in
    omega (arith, h.is (x - from) within, get_or-take (to - from) part (x - from) 0 (omega arith), get_or-drop from marks (x - from) 0, ap (nth marks) e)

-- numbers on a list are at most what those at its places are
pub in_most : (xs : List ℕ) (m : ℕ) → ((j : ℕ) → j < length xs → nth xs j ≤ m) → (x : ℕ) → In x xs → x ≤ m
in_most [] m h x i = absurd (false≢true i)
in_most (y ∷ ys) m h x i = or_cases (eqb x y) (mem x ys) i (λ e. let z = eqb-true x y e in omega (arith, h 0 (omega arith))) (λ e. in_most ys m (λ j l. h (suc j) (omega arith)) x e)
