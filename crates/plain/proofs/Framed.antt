-- The frames that a table's words make are those that the checker's acceptance shows; and runs of frames may be skipped.
use mathlib.Core.Path.{◌≡◌, refl, ap, ◌∙◌}
use mathlib.Core.List.{List, [], ◌∷◌, ◌++◌}
use Prim.Native.Nat.{ℕ, zero, suc, ◌+◌, ◌≤◌}
use native.Mathlib.Omega.{arith}
use lib.ListN.{drop}
use lib.Seq.{take_at, drop_at, drop-nil}
use Rattle.circuit.specs.Limits.{fewest_shares}
use Rattle.circuit.specs.Kinds.{words}
use Rattle.circuit.specs.Circuit.{Circuit, empty, extend}
use Rattle.circuit.specs.Composition.{Frame, AllFit, done, next, words_of}
use Rattle.circuit.proofs.Building.{Lawful, InTime, intime_step}
use Rattle.circuit.proofs.Fitting.{kind-known, fit-meets}
use Rattle.circuit.proofs.Exact.{Accepted}
use Rattle.plain.specs.Sharings.{frames_from, frames_in, groups_from}

-- words passed over, and frames passed over
words_skip : (d n : ℕ) (xs : List ℕ) → frames_from d n xs ≡ frames_from d 0 (drop n xs)
unfolding frames_from
words_skip d n [] = rw drop-nil
words_skip d zero (x ∷ xs) = refl
words_skip d (suc n) (x ∷ xs) = words_skip d n xs

pub groups_skip : (d f n : ℕ) (fs : List Frame) → groups_from d f n fs ≡ groups_from d (f + n) 0 (drop n fs)
unfolding groups_from
groups_skip d f n [] = rw drop-nil
groups_skip d f zero (x ∷ fs) = let e : f ≡ f + 0 = omega arith in ap (λ (m : ℕ). groups_from d m 0 (x ∷ fs)) e
groups_skip d f (suc n) (x ∷ fs) = let e : suc f + n ≡ f + suc n = omega arith in groups_skip d (suc f) n fs ∙ ap (λ (m : ℕ). groups_from d m 0 (drop n fs)) e

-- frames that fit are read back from their words
frames-of : (k : Circuit) (fs : List Frame) → fewest_shares ≤ k.d → Lawful InTime k → AllFit k fs → frames_from k.d 0 (words_of fs) ≡ fs
unfolding frames_from
frames-of k _ ge h done = refl
frames-of k _ ge h (next {f = g} {fs = fs} fits few more) =
    let n = words k.d g.kind in
    let count = (fit-meets k g.kind g.ops ge h fits).count in
    rw (kind-known g.kind, take_at g.ops (words_of fs) n count) (ap (λ l. g ∷ l) (words_skip k.d n (g.ops ++ words_of fs)
    ∙ ap (frames_from k.d 0) (drop_at g.ops (words_of fs) n count) ∙ frames-of (extend k g.ops g.kind) fs ge (intime_step k g.ops g.kind ge fits h) more))

pub frames_in_lem : {table : List ℕ} {room : ℕ} (a : Accepted table room) → frames_in table ≡ a.fs
frames_in_lem a = ap frames_in a.table_is ∙ frames-of (empty a.d) a.fs a.least tt a.fit
