-- A first line of two words has its first word and its second.
use mathlib.Core.Path.{◌≡◌, sym, ◌∙◌}
use Prim.Native.Nat.{◌≤◌}
use native.Mathlib.Omega.{arith}
use lib.ListN.{length}
use borrow.Author.Rules.{rules}
use Rattle.std.proofs.lemmas.List.{take_rest}
use Rattle.text.specs.Internal.Scan.{count_from}
use Rattle.text.proofs.Scanning.{counted-word, second_word, line_count-some}
use Rattle.text.proofs.Reading.{line-fits}
use Rattle.text.proofs.rules.head.Goals as goal
use Rattle.text.proofs.rules.head.Goals.{Else-count-ne2}

two : (c : Else-count-ne2) → (count_from 1 c.args.text.now ≡ 2) × (10 ≤ length c.args.text.now)
two c =
    let t = c.args.text.now in
    let n = (line_count-some (count_from 1 t) c.in-Some.count (sym c.in-Some.ensures)).0 ∙ c.if-count-ne2.false in
    (n, omega (arith, line-fits t))

pub value-requires : goal.value-requires
value-requires c = counted-word 1 _ (line_count-some (count_from 1 c.args.text.now) c.in-Some.count (sym c.in-Some.ensures)).1

pub slice_bounds-value-count : goal.slice_bounds-value-count
slice_bounds-value-count c = omega (arith, (two (goal.at.slice_bounds-value-count c).Else-count-ne2).1)

pub slice_bounds-value-start : goal.slice_bounds-value-start
slice_bounds-value-start c = let h = (two (goal.at.slice_bounds-value-start c).Else-count-ne2).1 in search rules

pub value-d-requires : goal.value-d-requires
value-d-requires c =
    let (n, h) = two (goal.at.value-d-requires c).Else-count-ne2 in
    rw take_rest (second_word c.args.text.now (omega arith) n)
