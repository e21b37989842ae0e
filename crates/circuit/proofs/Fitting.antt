-- A frame passes exactly where it fits: the words' rules against the composition rules, kind by kind.
use mathlib.Core.Path.{◌≡◌, refl, sym, ap, subst, ◌∙◌}
use mathlib.Core.Bool.{◌&&◌}
use mathlib.Core.List.{List, [], ◌∷◌, ◌++◌}
use Prim.Native.Nat.{ℕ, suc, ◌+◌, ◌≤◌, ◌<◌}
use native.Mathlib.Omega.{arith}
use lib.Dec.{leb}
use lib.ListN.{length, take, length-append, get_or-map}
use lib.Seq.{length-take-le, take_at}
use borrow.Author.Tests.{leb-true, le-leb}
use Rattle.circuit.specs.Limits.{wire_limit, stage_limit, fewest_shares}
use Rattle.circuit.specs.Lists.{nth}
use Rattle.circuit.specs.Wires.{named}
use Rattle.circuit.specs.Kinds.{Kind, HEAD, IN, CON, XOR, NOT, REG, AND, REF, OUT, kind_of, WordRule, share, before, registered, row, shape, words}
use Rattle.circuit.specs.Circuit.{Circuit, size, look_up, stage_shown, new_stage}
use Rattle.circuit.specs.Rules.{pass, words_rule, frame_rule}
use Rattle.circuit.proofs.Base.{and_left, and_right, all_append, all_left, all_right}
use Rattle.circuit.proofs.Numbered.{range_at, all-at, at_all}
use Rattle.circuit.proofs.Sizes.{row-length, words-AND, words-REF, words-OUT}
use Rattle.circuit.specs.Composition.{Fits, fit-IN, fit-CON, fit-XOR, fit-NOT, fit-REG, fit-AND, fit-REF, fit-OUT, kind_word}
use Rattle.circuit.proofs.Building.{stage-told, row_first, Lawful, InTime, shown-limit}
use Rattle.circuit.proofs.Judging.{then_pass, need_then, need-pass, Meets, AllMeet, words-pass, pass-words}

-- the kind words
pub known : (w : ℕ) → w ≤ 8 → kind_word (kind_of w) ≡ w
unfolding kind_of
known w h = sym (get_or-map kind_word (HEAD ∷ IN ∷ CON ∷ XOR ∷ NOT ∷ REG ∷ AND ∷ REF ∷ OUT ∷ []) w HEAD) ∙ range_at 0 9 w (omega arith) ∙ omega arith

pub kind-known : (kind : Kind) → kind_of (kind_word kind) ≡ kind
unfolding kind_of
kind-known HEAD = refl
kind-known IN = refl
kind-known CON = refl
kind-known XOR = refl
kind-known NOT = refl
kind-known REG = refl
kind-known AND = refl
kind-known REF = refl
kind-known OUT = refl

-- lists of one, two and three words
pub one_word : (xs : List ℕ) → length xs ≡ 1 → xs ≡ nth xs 0 ∷ []
one_word [] e = absurd (omega arith)
one_word (x ∷ []) e = refl
one_word (x ∷ y ∷ xs) e = absurd (omega arith)

pub two-words : (xs : List ℕ) → length xs ≡ 2 → xs ≡ nth xs 0 ∷ nth xs 1 ∷ []
two-words [] e = absurd (omega arith)
two-words (x ∷ xs) e = ap (λ l. x ∷ l) (one_word xs (omega arith))

pub three_words : (xs : List ℕ) → length xs ≡ 3 → xs ≡ nth xs 0 ∷ nth xs 1 ∷ nth xs 2 ∷ []
three_words [] e = absurd (omega arith)
three_words (x ∷ xs) e = ap (λ l. x ∷ l) (two-words xs (omega arith))

module _ (k : Circuit) (ops : List ℕ) where
  open k use {d}

  row-meets : (rule : ℕ → ℕ → WordRule) (p n : ℕ) → AllMeet k ops n (row rule p d) → (i : ℕ) → i < d → Meets k ops (rule i p) (nth ops (n + i))
  row-meets rule p n h i l = subst (λ (j : ℕ). Meets k ops (rule j p) (nth ops (n + i))) (omega arith)
      (all-at (λ m r. Meets k ops r (nth ops m)) (λ j. rule j p) n 0 d h i l)

  and-fit : fewest_shares ≤ d → length ops ≡ 1 + d + d → nth ops 0 ≡ k.randoms → ((i : ℕ) → i < d → Meets k ops (share i 1) (nth ops (1 + i)))
      → ((i : ℕ) → i < d → Meets k ops (before i 1) (nth ops (1 + d + i))) → new_stage k ops AND ≤ stage_limit → Fits k AND ops
  unfolding new_stage
  and-fit ge len first a b t = go (b 0 (omega arith)).0 (b 0 (omega arith)).2
    where
      go : (s : ℕ) → suc s ≡ stage_shown (look_up k (nth ops 1)) → Fits k AND ops
      go s e = fit-AND ops s len first (λ i l. a i l ∙ ap (named i) (sym e))
          (λ i l. (b i l).1 ∙ ap (named i) (omega (arith, (b i l).2)))
          (subst (λ (n : ℕ). suc n ≤ stage_limit) (stage-told k _ (a 0 (omega arith)) ∙ sym e) t)

  -- a frame whose words meet their rules fits
  pub meets-fit : (kind : Kind) → fewest_shares ≤ d → 1 ≤ kind_word kind → length ops ≡ words d kind → AllMeet k ops 0 (shape d kind).rules
      → new_stage k ops kind ≤ stage_limit → Fits k kind ops
  unfolding shape new_stage
  meets-fit HEAD ge one len h t = absurd (omega arith)
  meets-fit IN ge one len h t = subst (Fits k IN) (sym (one_word ops len)) (fit-IN (nth ops 0) h.0)
  meets-fit CON ge one len h t = subst (Fits k CON) (sym (three_words ops len)) (fit-CON (nth ops 0) (nth ops 1) (nth ops 2) h.0 h.1.0 h.1.1.0)
  meets-fit XOR ge one len h t = subst (Fits k XOR) (sym (two-words ops len)) (fit-XOR (nth ops 0) (nth ops 1) _ _ h.0 h.1.0)
  meets-fit NOT ge one len h t = subst (Fits k NOT) (sym (one_word ops len)) (fit-NOT (nth ops 0) _ _ h.0)
  meets-fit REG ge one len h t = subst (Fits k REG) (sym (one_word ops len)) (fit-REG (nth ops 0) _ _ h.0 (subst (λ (s : ℕ). suc s ≤ stage_limit) (stage-told k _ h.0) t))
  meets-fit AND ge one len h t =
      let Q : ℕ → WordRule → Type 0 = λ m r. Meets k ops r (nth ops m) in
      and-fit ge (len ∙ words-AND d) h.0
      (row-meets share 1 1 (all_left Q 1 (row share 1 d) (row before 1 d) h.1))
      (row-meets before 1 (1 + d) (subst (λ (n : ℕ). AllMeet k ops (1 + n) (row before 1 d)) (row-length share 1 d)
      (all_right Q 1 (row share 1 d) (row before 1 d) h.1))) t
  meets-fit REF ge one len h t =
      let a = row-meets share 1 1 h.1 in
      fit-REF ops _ (len ∙ words-REF d) h.0 a (subst (λ (n : ℕ). suc n ≤ stage_limit) (stage-told k _ (a 0 (omega arith))) t)
  meets-fit OUT ge one len h t =
      let a = row-meets registered 0 0 h in
      fit-OUT ops _ (len ∙ words-OUT d) (λ i l. (a i l).0) (λ i l. (a i l).1)

-- what a frame that passes shows
pub record Passed (k : Circuit) (x : ℕ) (rest : List ℕ) : Type 0 where
  pub kind : kind_word (kind_of x) ≡ x
  pub whole : words k.d (kind_of x) ≤ length rest
  pub fits : Fits k (kind_of x) (take (words k.d (kind_of x)) rest)
  pub stage : new_stage k (take (words k.d (kind_of x)) rest) (kind_of x) ≤ stage_limit
  pub few : size k + (shape k.d (kind_of x)).wires ≤ wire_limit

pub frame-pass : (k : Circuit) (f x : ℕ) (rest : List ℕ) → fewest_shares ≤ k.d → frame_rule k f x rest ≡ pass → Passed k x rest
unfolding frame_rule
frame-pass k f x rest ge h =
    let n = words k.d (kind_of x) in
    let ops = take n rest in
    let (p5, h6) = need_then (leb 1 x && leb x 8) 5 f 0 _ h in
    let (p6, h7) = need_then (leb n (length rest)) 6 f 0 _ h6 in
    let (p7, h13) = then_pass (words_rule k f ops 1 (shape k.d (kind_of x)).rules ops) _ h7 in
    let (p13, h14) = need_then (leb (new_stage k ops (kind_of x)) stage_limit) 13 f 0 _ h13 in
    let p14 = need-pass (leb (size k + (shape k.d (kind_of x)).wires) wire_limit) 14 f 0 h14 in
    let whole = leb-true n (length rest) p6 in
    let stage = leb-true (new_stage k ops (kind_of x)) stage_limit p13 in
    let count = length-take-le n rest whole in
    let kind = known x (leb-true x 8 (and_right (leb 1 x) (leb x 8) p5)) in
    record {
      kind = kind;
      whole = whole;
      fits = meets-fit k ops (kind_of x) ge (subst (λ (w : ℕ). 1 ≤ w) (sym kind) (leb-true 1 x (and_left (leb 1 x) (leb x 8) p5))) count
          (words-pass k f ops 1 0 (shape k.d (kind_of x)).rules (omega arith) p7) stage;
      stage = stage;
      few = leb-true (size k + (shape k.d (kind_of x)).wires) wire_limit p14;
    }

-- a frame that fits meets its rules
module _ (k : Circuit) (ops : List ℕ) where
  open k use {d}

  pub record Meeting (kind : Kind) : Type 0 where
    pub known : (1 ≤ kind_word kind) × (kind_word kind ≤ 8)
    pub count : length ops ≡ words d kind
    pub meets : AllMeet k ops 0 (shape d kind).rules
    pub stage : new_stage k ops kind ≤ stage_limit

  meets-row : (rule : ℕ → ℕ → WordRule) (p n : ℕ) → ((i : ℕ) → i < d → Meets k ops (rule i p) (nth ops (n + i))) → AllMeet k ops n (row rule p d)
  meets-row rule p n h = at_all (λ m r. Meets k ops r (nth ops m)) (λ j. rule j p) n 0 d
      (λ i l. subst (λ (j : ℕ). Meets k ops (rule j p) (nth ops (n + i))) (omega arith) (h i l))

pub fit-meets : (k : Circuit) (kind : Kind) (ops : List ℕ) → fewest_shares ≤ k.d → Lawful InTime k → Fits k kind ops → Meeting k ops kind
unfolding shape new_stage
fit-meets k _ _ ge h (fit-IN t o) = record { known = omega arith; count = refl; meets = (o, tt); stage = o }
fit-meets k _ _ ge h (fit-CON l b t p q o) = record { known = omega arith; count = refl; meets = (p, (q, (o, tt))); stage = o }
fit-meets k _ _ ge h (fit-XOR x y l t p q) = record { known = omega arith; count = refl; meets = (rw p, (rw (q, p), tt)); stage = shown-limit k h x }
fit-meets k _ _ ge h (fit-NOT x l t p) = record { known = omega arith; count = refl; meets = (rw p, tt); stage = shown-limit k h x }
fit-meets k _ _ ge h (fit-REG x l t p o) = record { known = omega arith; count = refl; meets = (rw p, tt); stage = omega (arith, stage-told k _ p) }
fit-meets k _ _ ge h (fit-AND ops t len first p q o) =
    let s = row_first k ops 1 (suc t) ge p in
    record {
      known = omega arith;
      count = len ∙ sym (words-AND k.d);
      meets = (
        first,
        all_append (λ m r. Meets k ops r (nth ops m)) 1 (row share 1 k.d) (row before 1 k.d)
            (meets-row k ops share 1 1 (λ i l. p i l ∙ ap (named i) (sym s)))
            (subst (λ (n : ℕ). AllMeet k ops (1 + n) (row before 1 k.d)) (sym (row-length share 1 k.d)) (meets-row k ops before 1 (1 + k.d) (λ i l. (t, q i l, sym s)))),
      );
      stage = omega arith;
    }
fit-meets k _ _ ge h (fit-REF ops t len first p o) =
    let s = row_first k ops 1 t ge p in
    record {
      known = omega arith;
      count = len ∙ sym (words-REF k.d);
      meets = (first, meets-row k ops share 1 1 (λ i l. p i l ∙ ap (named i) (sym s)));
      stage = omega arith;
    }
fit-meets k _ _ ge h (fit-OUT ops t len p q) = record {
  known = omega arith;
  count = len ∙ sym (words-OUT k.d);
  meets = meets-row k ops registered 0 0 (λ i l. (p i l ∙ ap (named i) (sym (row_first k ops 0 t ge p)), q i l));
  stage = shown-limit k h (nth ops 0);
}

-- a frame that fits passes, whatever words come behind it
pub fit-pass : (k : Circuit) (f : ℕ) (kind : Kind) (ops rest : List ℕ) → fewest_shares ≤ k.d → Lawful InTime k → Fits k kind ops
    → size k + (shape k.d kind).wires ≤ wire_limit → frame_rule k f (kind_word kind) (ops ++ rest) ≡ pass
unfolding frame_rule
fit-pass k f kind ops rest ge h fits few =
    let g = fit-meets k kind ops ge h fits in
    let whole : words k.d kind ≤ length (ops ++ rest) = omega (arith, length-append ops rest, g.count) in
    rw (
      kind-known kind,
      take_at ops rest (words k.d kind) g.count,
      le-leb 1 (kind_word kind) g.known.0,
      le-leb (kind_word kind) 8 g.known.1,
      le-leb (words k.d kind) (length (ops ++ rest)) whole,
      pass-words k f ops 1 0 (shape k.d kind).rules (omega (arith, g.count)) g.meets,
      le-leb (new_stage k ops kind) stage_limit g.stage,
      le-leb (size k + (shape k.d kind).wires) wire_limit few,
    )
