-- The table as the code writes it is the definition's, computed.
use mathlib.Core.Path.{◌≡◌, refl, ap, ◌∙◌}
use mathlib.Core.List.{List}
use Prim.Native.Nat.{ℕ}
use native.Mathlib.Omega.{arith}
use lib.ListN.{get_or, set}
use Rattle.text.proofs.Table.{hex_digits, written, written_more, written_all}
use Rattle.text.proofs.digits.Codes.new.Goals as goal

pub loop-value-init : goal.loop-value-init
unfolding written
loop-value-init c = refl

pub loop-value-preserved : goal.loop-value-preserved
loop-value-preserved c =
    let n = c.loop-value.value in
    ap (λ (t : List ℕ). set t (get_or hex_digits n 0) n) c.loop-value.invariant ∙ written_more n

pub invariant_of-result : goal.invariant_of-result
invariant_of-result c =
    let n : c.loop-value.value ≡ 16 = omega arith in
    record { right = ap (λ (t : List ℕ). set (set t 288 0) 266 1) (c.loop-value.invariant ∙ ap written n) ∙ written_all }
