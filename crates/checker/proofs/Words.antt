-- The words of a form on a circuit: what the code's order finds broken first is what the kind's rules find first.
use mathlib.Core.Path.{◌≡◌, refl, sym, ap, ap₂, ◌∙◌}
use mathlib.Core.Bool.{Bool, true, false, cond}
use mathlib.Core.List.{List, [], ◌∷◌, ◌++◌, map}
use Prim.Native.Nat.{ℕ, zero, suc, ◌+◌, ◌≤◌}
use native.Mathlib.Omega.{arith}
use lib.Dec.{leb, ltb, eqb}
use lib.ListN.{length, take, drop, length-append, length-drop, get_or-eq_default, take-append-drop}
use lib.Seq.{length-take-le}
use borrow.Author.Tests.{ltb-false}
use Rattle.circuit.specs.Lists.{nth, range}
use Rattle.circuit.specs.Kinds.{WordRule, like, share, before, registered, row}
use Rattle.circuit.specs.Circuit.{Circuit, size, Lookup, found, hidden, shown_by, look_up, label_shown, stage_shown, is_registered, is_named}
use Rattle.circuit.specs.Rules.{Judgement, pass, need, ◌then◌, wire_rule, word_rule, words_rule}
use Rattle.circuit.proofs.Base.{cases}
use Rattle.circuit.proofs.Fitting.{one_word, two-words, three_words}
use Rattle.frames.specs.declared.kinds.Form.{Form}
use Rattle.frames.specs.declared.kinds.Form.TheVariants.{ShareCount, Stage, Constant, Sum, Copy, Product, Refresh, Row}
use Rattle.frames.specs.Walk.{rules_of}
use Rattle.circuit.proofs.Sizes.{row-length}
use Rattle.std.specs.Prelude.{Result, Ok, Err}
use Rattle.circuit.specs.declared.rules.Rule.{Rule}
use Rattle.circuit.specs.declared.rules.Rule.TheVariants as rule
use Rattle.checker.specs.declared.notes.Named.{Named}
use Rattle.checker.specs.declared.notes.Wanted.{Wanted}
use Rattle.checker.specs.declared.forms.Spot.{Spot}
use Rattle.checker.specs.Internal.Notes.{shown, found_of, label_found, stage_found, ask, wanted, wire_asked}
use Rattle.checker.specs.Internal.Adding.{at_word, ◌and_then◌, stage_asked, label_asked, value_asked, random_asked, like_asked, row_broken, broken_in}
use Rattle.checker.proofs.Spots.{judged_at, judged_then, tested, then_assoc, pass_last}

-- what the circuit shows of a wire is what a look-up finds
module _ (k : Circuit) where
  past : (x : ℕ) → size k ≤ x → look_up k x ≡ hidden
  past x h = ap shown_by (get_or-eq_default k.wires _ h)

  found_by : {A : Type 0} (f : Result Named Rule → A) (g : Lookup → A) → f (Err rule.MissingWire) ≡ g hidden → ((p : Lookup) → f (shown p) ≡ g p)
      → (x : ℕ) → f (found_of k x) ≡ g (look_up k x)
  found_by f g e h x = cases (ltb x (size k)) (λ l. rw l (h (look_up k x))) (λ l. rw (l, past x (ltb-false x (size k) l)) e)

  label-shown : (p : Lookup) → label_found (shown p) ≡ label_shown p
  label-shown (found l t b) = refl
  label-shown hidden = refl

  stage_in_lem : (p : Lookup) → stage_found (shown p) ≡ stage_shown p
  stage_in_lem (found l t b) = refl
  stage_in_lem hidden = refl

  pub label-found : (x : ℕ) → label_found (found_of k x) ≡ label_shown (look_up k x)
  label-found = found_by label_found label_shown refl label-shown

  pub stage-found : (x : ℕ) → stage_found (found_of k x) ≡ stage_shown (look_up k x)
  stage-found = found_by stage_found stage_shown refl stage_in_lem

-- one word, then others, or none
word_then : (f w : ℕ) (r : Result (Unit {0}) Rule) (rest : Result (Unit {0}) Spot) {one more : Judgement} → judged_at f (at_word w r) ≡ one → judged_at f rest ≡ more
    → judged_at f (at_word w r and_then rest) ≡ (one then more)
word_then f w r rest one more = judged_then f (at_word w r) rest ∙ ap₂ ◌then◌ one more

word_last : (f w : ℕ) (r : Result (Unit {0}) Rule) {one : Judgement} → judged_at f (at_word w r) ≡ one → judged_at f (at_word w r) ≡ (one then pass)
word_last f w r {one} e = e ∙ sym (pass_last one)

module _ (k : Circuit) (f : ℕ) (ops : List ℕ) where
  -- a wire that has to have a label and a stage, and to be registered where that is asked
  abbrev asked : (register held : Bool) (w : ℕ) → Judgement
  asked true held w = need held 22 f w
  asked false held w = pass

  wire-asked : (w x l : ℕ) (want : Wanted) → judged_at f (at_word w (wire_asked (found_of k x) l want))
      ≡ (wire_rule k f ops (eqb (label_shown (look_up k x)) l) (eqb (stage_shown (look_up k x) + want.ahead) want.stage) w x then asked want.registered (is_registered (look_up k x)) w)
  wire-asked w x l want = go (ltb x (size k)) (look_up k x)
    where
      tests : (a b register c : Bool) → judged_at f (at_word w (cond a (cond b (cond register (ask c rule.Registered) (Ok tt)) (Err rule.Stage)) (Err rule.Label)))
          ≡ ((need a 10 f w then need b 11 f w) then asked register c w)
      tests true true true true = refl
      tests true true true false = refl
      tests true true false c = refl
      tests true false register c = refl
      tests false b register c = refl

      go : (b : Bool) (p : Lookup) → judged_at f (at_word w (wire_asked (cond b (shown p) (Err rule.MissingWire)) l want))
          ≡ ((need b 8 f w then need (is_named p) 9 f w then need (eqb (label_shown p) l) 10 f w then need (eqb (stage_shown p + want.ahead) want.stage) 11 f w)
          then asked want.registered (is_registered p) w)
      go false p = refl
      go true hidden = refl
      go true (found a s c) = tests (eqb a l) (eqb (s + want.ahead) want.stage) want.registered c

  -- the same so many stages ahead, by the stage that has to be equal
  registered-at : (w x l p ahead s : ℕ) (register : Bool) → stage_shown (look_up k x) + ahead ≡ s
      → judged_at f (at_word w (wire_asked (found_of k x) l (wanted (stage_found (found_of k (nth ops p))) ahead register)))
      ≡ (wire_rule k f ops (eqb (label_shown (look_up k x)) l) (eqb s (stage_shown (look_up k (nth ops p)))) w x then asked register (is_registered (look_up k x)) w)
  registered-at w x l p ahead s register e = rw (stage-found k (nth ops p)) (wire-asked w x l (wanted (stage_shown (look_up k (nth ops p))) ahead register)
      ∙ ap (λ n. wire_rule k f ops (eqb (label_shown (look_up k x)) l) (eqb n (stage_shown (look_up k (nth ops p)))) w x then asked register (is_registered (look_up k x)) w) e)

  wire-at : (w x l p ahead s : ℕ) → stage_shown (look_up k x) + ahead ≡ s → judged_at f (at_word w (wire_asked (found_of k x) l (wanted (stage_found (found_of k (nth ops p))) ahead false)))
      ≡ wire_rule k f ops (eqb (label_shown (look_up k x)) l) (eqb s (stage_shown (look_up k (nth ops p)))) w x
  wire-at w x l p ahead s e = registered-at w x l p ahead s false e ∙ pass_last _

  like_is : (p w x : ℕ) → judged_at f (at_word w (like_asked (found_of k (nth ops p)) (found_of k x))) ≡ word_rule k f ops (like p) w x
  like_is p w x = rw (label-found k (nth ops p)) (wire-at w x (label_shown (look_up k (nth ops p))) p 0 (stage_shown (look_up k x)) (omega arith))

  share-is : (p i w x : ℕ) → judged_at f (at_word w (wire_asked (found_of k x) i (wanted (stage_found (found_of k (nth ops p))) 0 false))) ≡ word_rule k f ops (share i p) w x
  share-is p i w x = wire-at w x i p 0 (stage_shown (look_up k x)) (omega arith)

  before-is : (p i w x : ℕ) → judged_at f (at_word w (wire_asked (found_of k x) i (wanted (stage_found (found_of k (nth ops p))) 1 false))) ≡ word_rule k f ops (before i p) w x
  before-is p i w x = wire-at w x i p 1 (suc (stage_shown (look_up k x))) (omega arith)

  registered-is : (p i w x : ℕ) → judged_at f (at_word w (wire_asked (found_of k x) i (wanted (stage_found (found_of k (nth ops p))) 0 true))) ≡ word_rule k f ops (registered i p) w x
  registered-is p i w x = registered-at w x i p 0 (stage_shown (look_up k x)) true (omega arith)

  -- wires in a row
  row_is : (rule : ℕ → WordRule) (want : Wanted) → ((i w x : ℕ) → judged_at f (at_word w (wire_asked (found_of k x) i want)) ≡ word_rule k f ops (rule i) w x)
      → (w i n : ℕ) (xs : List ℕ) → length xs ≡ n → judged_at f (row_broken (found_of k) want w i xs) ≡ words_rule k f ops w (map rule (range i n)) xs
  unfolding row_broken words_rule
  row_is rule want h w i zero [] e = refl
  row_is rule want h w i zero (x ∷ xs) e = absurd (omega arith)
  row_is rule want h w i (suc n) [] e = absurd (omega arith)
  row_is rule want h w i (suc n) (x ∷ xs) e =
      word_then f w (wire_asked (found_of k x) i want) (row_broken (found_of k) want (suc w) (suc i) xs) (h i w x) (row_is rule want h (suc w) (suc i) n xs (omega arith))

  -- rules and words in two parts
  words_append : (w : ℕ) (rs more : List WordRule) (xs ys : List ℕ) → length rs ≡ length xs
      → words_rule k f ops w (rs ++ more) (xs ++ ys) ≡ (words_rule k f ops w rs xs then words_rule k f ops (w + length xs) more ys)
  unfolding words_rule
  words_append w [] more [] ys e = let q : w ≡ w + 0 = omega arith in ap (λ n. words_rule k f ops n more ys) q
  words_append w [] more (x ∷ xs) ys e = absurd (omega arith)
  words_append w (r ∷ rs) more [] ys e = absurd (omega arith)
  words_append w (r ∷ rs) more (x ∷ xs) ys e =
      let q : suc w + length xs ≡ w + suc (length xs) = omega arith in
      ap (λ j. word_rule k f ops r w x then j) (words_append (suc w) rs more xs ys (omega arith) ∙ ap (λ n. words_rule k f ops (suc w) rs xs then words_rule k f ops n more ys) q)
      ∙ sym (then_assoc (word_rule k f ops r w x) (words_rule k f ops (suc w) rs xs) (words_rule k f ops (w + suc (length xs)) more ys))

-- the words of a form, as they are given: so many, of which the first comes first
module _ (k : Circuit) (f : ℕ) where
  rows_are : (ops xs : List ℕ) → length xs ≡ k.d + k.d → let t = stage_found (found_of k (nth ops 1)) in
      judged_at f (row_broken (found_of k) (wanted t 0 false) 2 0 (take k.d xs) and_then row_broken (found_of k) (wanted t 1 false) (2 + k.d) 0 (drop k.d xs))
      ≡ words_rule k f ops 2 (row share 1 k.d ++ row before 1 k.d) xs
  rows_are ops xs e =
      let d = k.d in
      let t = stage_found (found_of k (nth ops 1)) in
      let firsts = length-take-le d xs (omega arith) in
      judged_then f (row_broken (found_of k) (wanted t 0 false) 2 0 (take d xs)) (row_broken (found_of k) (wanted t 1 false) (2 + d) 0 (drop d xs))
      ∙ ap₂ ◌then◌ (row_is k f ops (λ i. share i 1) (wanted t 0 false) (share-is k f ops 1) 2 0 d (take d xs) firsts)
      (row_is k f ops (λ i. before i 1) (wanted t 1 false) (before-is k f ops 1) (2 + d) 0 d (drop d xs) (omega (arith, length-drop d xs))
      ∙ ap (λ n. words_rule k f ops (2 + n) (row before 1 d) (drop d xs)) (sym firsts))
      ∙ sym (words_append k f ops 2 (row share 1 d) (row before 1 d) (take d xs) (drop d xs) (omega (arith, row-length share 1 d)))
      ∙ ap (words_rule k f ops 2 (row share 1 d ++ row before 1 d)) (take-append-drop d xs)

  pub words_are : (form : Form) (ops : List ℕ) → (form ≡ ShareCount → ⊥) → length ops ≡ length (rules_of k.d form)
      → judged_at f (broken_in k.d k.randoms (found_of k) ops form) ≡ words_rule k f ops 1 (rules_of k.d form) ops
  unfolding words_rule
  words_are ShareCount ops h e = absurd (h refl)
  words_are Stage ops h e = let x = nth ops 0 in rw (one_word ops e) (word_last f 1 (stage_asked x) (tested (leb x 255) rule.Range f 1))
  words_are Constant ops h e =
      let l = nth ops 0 in let v = nth ops 1 in let t = nth ops 2 in rw (three_words ops e)
      (word_then f 1 (label_asked k.d l) (at_word 2 (value_asked v) and_then at_word 3 (stage_asked t)) (tested (ltb l k.d) rule.Range f 1)
      (word_then f 2 (value_asked v) (at_word 3 (stage_asked t)) (tested (leb v 1) rule.Range f 2) (word_last f 3 (stage_asked t) (tested (leb t 255) rule.Range f 3))))
  words_are Sum ops h e =
      let x = nth ops 0 in let y = nth ops 1 in rw (two-words ops e)
      (word_then f 1 (like_asked (found_of k x) (found_of k x)) (at_word 2 (like_asked (found_of k x) (found_of k y))) (like_is k f (x ∷ y ∷ []) 0 1 x)
      (word_last f 2 (like_asked (found_of k x) (found_of k y)) (like_is k f (x ∷ y ∷ []) 0 2 y)))
  words_are (Copy after) ops h e = let x = nth ops 0 in rw (one_word ops e) (word_last f 1 (like_asked (found_of k x) (found_of k x)) (like_is k f (x ∷ []) 0 1 x))
  words_are Product [] h e = absurd (omega arith)
  words_are Product (x ∷ xs) h e =
      let t = stage_found (found_of k (nth (x ∷ xs) 1)) in
      word_then f 1 (random_asked k.randoms x) (row_broken (found_of k) (wanted t 0 false) 2 0 (take k.d xs) and_then row_broken (found_of k) (wanted t 1 false) (2 + k.d) 0 (drop k.d xs))
      (tested (eqb x k.randoms) rule.FirstRandom f 1)
      (rows_are (x ∷ xs) xs (omega (arith, length-append (row share 1 k.d) (row before 1 k.d), row-length share 1 k.d, row-length before 1 k.d)))
  words_are Refresh [] h e = absurd (omega arith)
  words_are Refresh (x ∷ xs) h e =
      let t = stage_found (found_of k (nth (x ∷ xs) 1)) in
      word_then f 1 (random_asked k.randoms x) (row_broken (found_of k) (wanted t 0 false) 2 0 xs) (tested (eqb x k.randoms) rule.FirstRandom f 1)
      (row_is k f (x ∷ xs) (λ i. share i 1) (wanted t 0 false) (share-is k f (x ∷ xs) 1) 2 0 k.d xs (omega (arith, row-length share 1 k.d)))
  words_are Row ops h e =
      let t = stage_found (found_of k (nth ops 0)) in
      row_is k f ops (λ i. registered i 0) (wanted t 0 true) (registered-is k f ops 0) 1 0 k.d ops (e ∙ row-length registered 0 k.d)
