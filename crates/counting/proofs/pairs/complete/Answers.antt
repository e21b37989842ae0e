-- A secret bit more.
use mathlib.Core.Path.{◌≡◌, ap, ◌∙◌}
use Prim.Native.Nat.{◌+◌, ◌-◌, ◌*◌, ◌≤◌}
use native.Mathlib.Nat.{mul-le-mul_left, mul-le-mul_right}
use native.Mathlib.Omega.{arith}
use lib.ListN.{length, take, drop}
use lib.Seq.{sets}
use Rattle.circuit.specs.Lists.{nth}
use Rattle.counting.specs.Internal.Words.{shares_of}
use Rattle.counting.proofs.Sharing.{part_written, all-next, all_end}
use Rattle.counting.proofs.pairs.complete.Goals as goal

pub loop-j-preserved : goal.loop-j-preserved
loop-j-preserved c =
    let a = c.args in
    let l = c.loop-j in
    let from = a.others * l.j in
    let at = from + l.j in
    let many : l.j + 1 ≤ length a.lasts.now = omega arith in
    let words : a.others * (l.j + 1) ≤ 16 = omega (arith, mul-le-mul_left a.others many) in
    let shares : at + (a.others + 1) ≤ 32 = omega (arith, mul-le-mul_right (l.j + 1) c.requires.0) in
    let count : from + a.others - from ≡ a.others = omega arith in
    let sized : length c.complete_one.new.shares ≡ at + a.others + 1 - at = omega arith in
    all-next l.invariant (omega arith) (omega arith) (part_written l.shares at _ c.complete_one.new.shares sized (omega arith)
    ∙ ap (sets l.shares at) (c.complete_one.ensures ∙ ap (λ n. shares_of (nth a.lasts.now l.j) (take n (drop from a.words.now))) count))

pub returns : goal.returns
returns c = all_end c.loop-j.invariant (omega arith)
