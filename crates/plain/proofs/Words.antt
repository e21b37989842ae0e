-- The words of frames of one kind: where their kind words and their columns stand in the table.
use mathlib.Core.Path.{◌≡◌, refl, sym, ap, subst, ◌∙◌}
use mathlib.Core.List.{List, [], ◌∷◌}
use Prim.Native.Nat.{ℕ, zero, suc, ◌+◌, ◌*◌, ◌≤◌, ◌<◌}
use native.Mathlib.Omega.{arith}
use lib.ListN.{length, get_or, take, drop, length-append, get_or-append}
use lib.Seq.{get_or-append-add, drop-append-add}
use Rattle.circuit.specs.Limits.{fewest_shares}
use Rattle.circuit.specs.Lists.{nth}
use Rattle.circuit.specs.Kinds.{Kind, words}
use Rattle.circuit.specs.Circuit.{Circuit, extend}
use Rattle.circuit.specs.Composition.{Frame, AllFit, done, next, kind_word, words_of}
use Rattle.circuit.proofs.Base.{Every}
use Rattle.circuit.proofs.Building.{Lawful, InTime, intime_step}
use Rattle.circuit.proofs.Fitting.{fit-meets}
use Rattle.plain.proofs.Runs.{same_kind}

-- frames that fit have the words of their kinds
abbrev pub Sized : ℕ → List Frame → Type 0
Sized d = Every (λ g. length g.ops ≡ words d g.kind)

pub fit-sized : (k : Circuit) (fs : List Frame) → fewest_shares ≤ k.d → Lawful InTime k → AllFit k fs → Sized k.d fs
fit-sized k _ ge h done = tt
fit-sized k _ ge h (next {f = g} {fs = fs} fits few more) =
    ((fit-meets k g.kind g.ops ge h fits).count, fit-sized (extend k g.ops g.kind) fs ge (intime_step k g.ops g.kind ge fits h) more)

-- frames of one kind, of which each has `count` words behind the kind
module _ (d : ℕ) (kind : Kind) where
  abbrev count : ℕ
  count = words d kind

  abbrev Alike : List Frame → Type 0
  Alike = Every (λ g. g.kind ≡ kind)

  -- n of them are at a list's start where their kind words stand at their places
  pub words-run : (n : ℕ) (fs : List Frame) → Sized d fs → n * (1 + count) ≤ length (words_of fs) → ((i : ℕ) → i < n → nth (words_of fs) (i * (1 + count)) ≡ kind_word kind)
      → Alike (take n fs) × (length (take n fs) ≡ n)
  words-run zero fs h room at = (tt, refl)
  words-run (suc n) [] h room at = absurd (omega arith)
  words-run (suc n) (g ∷ fs) h room at =
      let start : 0 * (1 + count) ≡ 0 = omega arith in
      let one : g.kind ≡ kind = same_kind g.kind kind (subst (λ (x : ℕ). nth (words_of (g ∷ fs)) x ≡ kind_word kind) start (at 0 (omega arith))) in
      let len : length g.ops ≡ count = h.0 ∙ ap (words d) one in
      let (each, size) = words-run n fs h.1 (omega (arith, length-append g.ops (words_of fs)))
      (λ i l. let e : suc i * (1 + count) ≡ suc (length g.ops + i * (1 + count)) = omega arith in
      sym (get_or-append-add g.ops (words_of fs) (i * (1 + count)) 0) ∙ subst (λ (x : ℕ). nth (words_of (g ∷ fs)) x ≡ kind_word kind) e (at (suc i) (omega arith))) in
      ((one, each), ap suc size)

  -- and then they stand there, with their words behind them
  pub run-words : (n : ℕ) (fs : List Frame) → Sized d fs → Alike (take n fs) → length (take n fs) ≡ n → n * (1 + count) ≤ length (words_of fs)
  run-words zero fs h each size = omega arith
  run-words (suc n) [] h each size = absurd (omega arith)
  run-words (suc n) (g ∷ fs) h each size =
      omega (arith, length-append g.ops (words_of fs), h.0 ∙ ap (words d) each.0, run-words n fs h.1 each.1 (omega arith))

  pub word_at : (n : ℕ) (fs : List Frame) (z : Frame) → Sized d fs → Alike (take n fs) → length (take n fs) ≡ n → (i : ℕ) → i < n
      → (nth (words_of fs) (i * (1 + count)) ≡ kind_word kind) × ((c : ℕ) → c < count → nth (words_of fs) (1 + c + i * (1 + count)) ≡ nth (get_or (take n fs) i z).ops c)
  word_at zero fs z h each size i l = absurd (omega arith)
  word_at (suc n) [] z h each size i l = absurd (omega arith)
  word_at (suc n) (g ∷ fs) z h each size zero l =
      let start : 0 ≡ 0 * (1 + count) = omega arith in (
        subst (λ (x : ℕ). nth (words_of (g ∷ fs)) x ≡ kind_word kind) start (ap kind_word each.0),
        λ c m. let e : suc c ≡ 1 + c + 0 * (1 + count) = omega arith in
            subst (λ (x : ℕ). nth (words_of (g ∷ fs)) x ≡ nth g.ops c) e (get_or-append g.ops (words_of fs) 0 c (omega (arith, h.0 ∙ ap (words d) each.0))),
      )
  word_at (suc n) (g ∷ fs) z h each size (suc i) l =
      let len : length g.ops ≡ count = h.0 ∙ ap (words d) each.0 in
      let (kinds, columns) = word_at n fs z h.1 each.1 (omega arith) i (omega arith) in (
        let e : suc (length g.ops + i * (1 + count)) ≡ suc i * (1 + count) = omega arith in
            subst (λ (x : ℕ). nth (words_of (g ∷ fs)) x ≡ kind_word kind) e (get_or-append-add g.ops (words_of fs) (i * (1 + count)) 0 ∙ kinds),
        λ c m. let e : suc (length g.ops + (1 + c + i * (1 + count))) ≡ 1 + c + suc i * (1 + count) = omega arith in
            subst (λ (x : ℕ). nth (words_of (g ∷ fs)) x ≡ nth (get_or (take n fs) i z).ops c) e (get_or-append-add g.ops (words_of fs) (1 + c + i * (1 + count)) 0 ∙ columns c m),
      )

  -- behind them stand the words of the others
  pub words-behind : (n : ℕ) (fs : List Frame) → Sized d fs → Alike (take n fs) → length (take n fs) ≡ n → drop (n * (1 + count)) (words_of fs) ≡ words_of (drop n fs)
  words-behind zero fs h each size = let e : 0 * (1 + count) ≡ 0 = omega arith in ap (λ m. drop m (words_of fs)) e
  words-behind (suc n) [] h each size = absurd (omega arith)
  words-behind (suc n) (g ∷ fs) h each size =
      let e : suc n * (1 + count) ≡ suc (length g.ops + n * (1 + count)) = omega (arith, h.0 ∙ ap (words d) each.0) in
      ap (λ m. drop m (words_of (g ∷ fs))) e ∙ drop-append-add g.ops (words_of fs) (n * (1 + count)) ∙ words-behind n fs h.1 each.1 (omega arith)
