-- Judgements that pass: what each word's rule asks, as a statement.
use mathlib.Core.Path.{◌≡◌, refl, sym, ap, ap₂, ◌∙◌}
use mathlib.Core.Bool.{Bool, true, false, ◌&&◌}
use mathlib.Core.List.{List, [], ◌∷◌}
use Prim.Native.Nat.{ℕ, suc, ◌+◌, ◌≤◌, ◌<◌}
use native.Mathlib.Omega.{arith}
use lib.Dec.{leb, ltb, eqb}
use lib.ListN.{length, drop}
use lib.Seq.{drop-cons}
use borrow.Author.Tests.{ltb-true, leb-true, eqb-true, lt-ltb, le-leb, eq-eqb}
use Rattle.circuit.specs.Limits.{stage_limit, fewest_shares, most_shares}
use Rattle.circuit.specs.Lists.{nth}
use Rattle.circuit.specs.Wires.{is_stop, Place, named, inner}
use Rattle.circuit.specs.Kinds.{WordRule, share_count, label, value, stage, random, like, share, before, registered}
use Rattle.circuit.specs.Circuit.{Circuit, size, wire_at, place, showing, look_up, label_shown, stage_shown, is_registered, is_named}
use Rattle.circuit.specs.Rules.{Judgement, pass, refuse, need, ◌then◌, wire_rule, word_rule, words_rule}
use Rattle.circuit.proofs.Building.{named-made, stage-told, registered-told}
use Rattle.circuit.proofs.Base.{and_left, and_right, AllFrom}

pub never : {A : Type 0} (rule frame word : ℕ) → refuse rule frame word ≡ pass → A
never rule frame word h = absurd (let z : ◌≡◌ {A = ℕ} 0 1 = cc in omega arith)

-- a chain of judgements passes where each part passes
pub then_pass : (i j : Judgement) → (i then j) ≡ pass → (i ≡ pass) × (j ≡ pass)
then_pass pass j h = (refl, h)
then_pass (refuse rule frame word) j h = never rule frame word h

pub need-pass : (b : Bool) (rule frame word : ℕ) → need b rule frame word ≡ pass → b ≡ true
need-pass true rule frame word h = refl
need-pass false rule frame word h = never rule frame word h

-- a test, then the rest
pub need_then : (b : Bool) (rule frame word : ℕ) (j : Judgement) → (need b rule frame word then j) ≡ pass → (b ≡ true) × (j ≡ pass)
need_then b rule frame word j h = let (p, q) = then_pass (need b rule frame word) j h in (need-pass b rule frame word p, q)

named-place : (p : Place) (b : Bool) → is_named (showing p b) ≡ true → p ≡ named (label_shown (showing p b)) (stage_shown (showing p b))
named-place (named l t) b h = refl
named-place (inner t) b h = absurd (let z : ◌≡◌ {A = ℕ} 0 1 = cc in omega arith)

-- what the word x has to be, by its rule
module _ (k : Circuit) (ops : List ℕ) where
  abbrev pub Meets : WordRule → ℕ → Type 0
  Meets share_count x = (fewest_shares ≤ x) × (x ≤ most_shares)
  Meets label x = x < k.d
  Meets value x = x ≤ 1
  Meets stage x = x ≤ stage_limit
  Meets random x = x ≡ k.randoms
  Meets (like p) x = place k x ≡ named (label_shown (look_up k (nth ops p))) (stage_shown (look_up k (nth ops p)))
  Meets (share i p) x = place k x ≡ named i (stage_shown (look_up k (nth ops p)))
  Meets (before i p) x = (t : ℕ) × (place k x ≡ named i t) × (suc t ≡ stage_shown (look_up k (nth ops p)))
  Meets (registered i p) x = (place k x ≡ named i (stage_shown (look_up k (nth ops p)))) × (is_stop (wire_at k x).gate ≡ true)

  -- the rules of the words from place n on
  abbrev pub AllMeet : ℕ → List WordRule → Type 0
  AllMeet n rs = AllFrom (λ m r. Meets r (nth ops m)) n rs

module _ (k : Circuit) (f : ℕ) (ops : List ℕ) where
  wire-pass : (l w x : ℕ) (stage_right : Bool) → wire_rule k f ops (eqb (label_shown (look_up k x)) l) stage_right w x ≡ pass
      → (place k x ≡ named l (stage_shown (look_up k x))) × (stage_right ≡ true)
  wire-pass l w x stage_right h =
      let (a, h1) = need_then (ltb x (size k)) 8 f w _ h in
      let (b, h2) = need_then (is_named (look_up k x)) 9 f w _ h1 in
      let (e, h3) = need_then (eqb (label_shown (look_up k x)) l) 10 f w _ h2 in
      (named-place (place k x) (is_stop (wire_at k x).gate) b ∙ ap (λ l. named l (stage_shown (look_up k x))) (eqb-true (label_shown (look_up k x)) l e), need-pass stage_right 11 f w h3)

  alike : (l t w x : ℕ) → wire_rule k f ops (eqb (label_shown (look_up k x)) l) (eqb (stage_shown (look_up k x)) t) w x ≡ pass → place k x ≡ named l t
  alike l t w x h = let (e, s) = wire-pass l w x (eqb (stage_shown (look_up k x)) t) h in e ∙ ap (named l) (eqb-true (stage_shown (look_up k x)) t s)

  pass-wire : (l t w x : ℕ) (stage_right : Bool) → place k x ≡ named l t → stage_right ≡ true
      → wire_rule k f ops (eqb (label_shown (look_up k x)) l) stage_right w x ≡ pass
  pass-wire l t w x stage_right h s = rw (lt-ltb x (size k) (named-made k x l t h), h, eq-eqb l l refl, s)

  pub word-pass : (r : WordRule) (w x : ℕ) → word_rule k f ops r w x ≡ pass → Meets k ops r x
  word-pass share_count w x h = let e = need-pass (leb fewest_shares x && leb x most_shares) 4 f w h in
      (leb-true fewest_shares x (and_left (leb fewest_shares x) (leb x most_shares) e), leb-true x most_shares (and_right (leb fewest_shares x) (leb x most_shares) e))
  word-pass label w x h = ltb-true x k.d (need-pass (ltb x k.d) 7 f w h)
  word-pass value w x h = leb-true x 1 (need-pass (leb x 1) 7 f w h)
  word-pass stage w x h = leb-true x stage_limit (need-pass (leb x stage_limit) 7 f w h)
  word-pass random w x h = eqb-true x k.randoms (need-pass (eqb x k.randoms) 12 f w h)
  word-pass (like p) w x h = alike (label_shown (look_up k (nth ops p))) (stage_shown (look_up k (nth ops p))) w x h
  word-pass (share i p) w x h = alike i (stage_shown (look_up k (nth ops p))) w x h
  word-pass (before i p) w x h =
      let (e, s) = wire-pass i w x (eqb (suc (stage_shown (look_up k x))) (stage_shown (look_up k (nth ops p)))) h in
      (stage_shown (look_up k x), e, eqb-true (suc (stage_shown (look_up k x))) (stage_shown (look_up k (nth ops p))) s)
  word-pass (registered i p) w x h =
      let t = stage_shown (look_up k (nth ops p)) in
      let (a, b) = then_pass (wire_rule k f ops (eqb (label_shown (look_up k x)) i) (eqb (stage_shown (look_up k x)) t) w x) _ h in
      let e = alike i t w x a in
      (e, sym (registered-told k _ e) ∙ need-pass (is_registered (look_up k x)) 22 f w b)

  pass-alike : (l t w x : ℕ) → place k x ≡ named l t → wire_rule k f ops (eqb (label_shown (look_up k x)) l) (eqb (stage_shown (look_up k x)) t) w x ≡ pass
  pass-alike l t w x h = pass-wire l t w x _ h (eq-eqb _ _ (stage-told k x h))

  pub pass-word : (r : WordRule) (w x : ℕ) → Meets k ops r x → word_rule k f ops r w x ≡ pass
  pass-word share_count w x h = rw (le-leb fewest_shares x h.0, le-leb x most_shares h.1)
  pass-word label w x h = rw (lt-ltb x k.d h)
  pass-word value w x h = rw (le-leb x 1 h)
  pass-word stage w x h = rw (le-leb x stage_limit h)
  pass-word random w x h = rw (eq-eqb x k.randoms h)
  pass-word (like p) w x h = pass-alike (label_shown (look_up k (nth ops p))) (stage_shown (look_up k (nth ops p))) w x h
  pass-word (share i p) w x h = pass-alike i (stage_shown (look_up k (nth ops p))) w x h
  pass-word (before i p) w x h = pass-wire i h.0 w x _ h.1 (eq-eqb _ _ (ap suc (stage-told k _ h.1) ∙ h.2))
  pass-word (registered i p) w x h = ap₂ ◌then◌ (pass-alike i (stage_shown (look_up k (nth ops p))) w x h.0) (ap (λ b. need b 22 f w) (registered-told k _ h.0 ∙ h.1))

  -- the words of a frame from place n on pass where each meets its rule
  pub words-pass : (w n : ℕ) (rs : List WordRule) → n + length rs ≤ length ops → words_rule k f ops w rs (drop n ops) ≡ pass → AllMeet k ops n rs
  unfolding words_rule
  words-pass w n [] l h = tt
  words-pass w n (r ∷ rs) l h =
      let (p, q) = then_pass _ _ (rw (drop-cons ops n 0 (omega arith)) at h) in
      (word-pass r w (nth ops n) p, words-pass (suc w) (suc n) rs (omega arith) q)

  pub pass-words : (w n : ℕ) (rs : List WordRule) → n + length rs ≤ length ops → AllMeet k ops n rs → words_rule k f ops w rs (drop n ops) ≡ pass
  unfolding words_rule
  pass-words w n [] l h = refl
  pass-words w n (r ∷ rs) l h = rw (drop-cons ops n 0 (omega arith), pass-word r w (nth ops n) h.0) (pass-words (suc w) (suc n) rs (omega arith) h.1)
