-- What a write took stands behind what was written before.
use Rattle.std.proofs.Common.{List, ℕ, ◌++◌, rules, take, sym, ap, ◌∙◌, subst}
use lib.Seq.{take-add}
use Rattle.std.proofs.lemmas.List.{take_rest}
use Rattle.std.specs.Io.KnownBytes.{Appends}
use Rattle.std.proofs.KnownBytes.{Appends-trans}
use Rattle.judge.proofs.write_all.Goals as goal

pub loop-size-preserved : goal.loop-size-preserved
loop-size-preserved g c =
    let k = c.loop-size in
    let bytes = c.args.bytes.now in
    let joined = ap (λ (l : List ℕ). take k.size bytes ++ take c.in-Ok.count l) (take_rest bytes k.size) ∙ sym (take-add k.size c.in-Ok.count bytes) in
    (search rules, subst (Appends _ _) joined (Appends-trans _ _ _ _ _ k.invariant.1 c.in-Ok.ensures.bytes))
