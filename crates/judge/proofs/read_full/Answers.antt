-- What a read gave stands behind what stood at the start of the buffer before.
use Rattle.std.proofs.Common.{◌≡◌, ℕ, ◌+◌, ◌≤◌, List, ◌++◌, rules, arith, length, take, sym, ap, ◌∙◌, subst, drop, drop_at, length-take-le}
use lib.Seq.{take-add, take-append-le}
use Rattle.std.proofs.lemmas.Slice.{take-put_mid_below}
use Rattle.std.specs.Io.KnownBytes.{Consumes}
use Rattle.std.proofs.KnownBytes.{Consumes-trans}
use borrow.Rule.Slice.PartMut.{put_mid, post_of}
use Rattle.judge.proofs.read_full.Goals as goal

filled : (at room n : ℕ) (old part : List ℕ) → at ≤ length old → n ≤ length part
    → take at old ++ take n part ≡ take (at + n) (put_mid at room old part)
filled at room n old part within fits =
    let new = put_mid at room old part in
    let rest = drop_at (take at old) (part ++ post_of at room old) at (length-take-le at old within) in
    sym (take-add at n new
    ∙ ap (λ (l : List ℕ). l ++ take n (drop at new)) (take-put_mid_below at room old part at (omega arith) within)
    ∙ ap (λ (l : List ℕ). take at old ++ take n l) rest
    ∙ ap (λ (l : List ℕ). take at old ++ l) (take-append-le n part (post_of at room old) fits))

pub loop-size-preserved : goal.loop-size-preserved
loop-size-preserved g c =
    let k = c.loop-size in
    let e = c.in-Ok.ensures in
    (search rules, subst (Consumes _ _) (filled k.size _ c.in-Ok.count k.buffer c.read.new.buf k.invariant.0 e.bound.0) (Consumes-trans _ _ _ _ _ k.invariant.1 e.bytes.0))
