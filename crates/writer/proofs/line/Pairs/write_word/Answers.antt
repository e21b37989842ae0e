-- The two bytes of the word by the pairs, and the five stores as one run.
use mathlib.Core.Path.{◌≡◌, sym, ap}
use mathlib.Core.List.{List, [], ◌∷◌, ◌++◌}
use Prim.Native.Nat.{ℕ, suc, ◌+◌, ◌/◌, ◌%◌, ◌<◌}
use native.Mathlib.Omega.{arith}
use lib.Seq.{sets}
use Rattle.std.proofs.Common.{rules}
use Rattle.text.specs.Lines.{space}
use Rattle.writer.proofs.Digits.{word-pairs}
use Rattle.writer.proofs.line.Pairs.write_word.Goals as goal

pub returns : goal.returns
returns c =
    let a = c.args in
    let pair = a.self.now.all.entry in
    let small : a.word < 65536 = search rules in
    let e₁ : a.at + 1 ≡ suc a.at = omega arith in
    let e₂ : a.at + 2 ≡ suc (suc a.at) = omega arith in
    let e₃ : a.at + 3 ≡ suc (suc (suc a.at)) = omega arith in
    let e₄ : a.at + 4 ≡ suc (suc (suc (suc a.at))) = omega arith in
    rw (pair (a.word / 256) (omega arith), pair (a.word % 256) (omega arith), e₁, e₂, e₃, e₄)
    (ap (λ (ds : List ℕ). sets a.text.now a.at (ds ++ space ∷ [])) (sym (word-pairs a.word small)))
