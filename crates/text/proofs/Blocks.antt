-- Lines taken a block at a time: the loop that finds them, and what they tell of the reading.
use mathlib.Core.Path.{◌≡◌, refl, ap, subst, ◌∙◌}
use mathlib.Core.Bool.{true, false, cond, ◌&&◌}
use mathlib.Core.List.{List}
use Prim.Native.Nat.{ℕ, zero, suc, ◌+◌, ◌*◌, ◌-◌, ◌≤◌, ◌<◌}
use native.Mathlib.Omega.{arith}
use lib.Dec.{leb, ltb, eqb}
use lib.ListN.{length, get_or, set, drop, length-set}
use lib.Seq.{get_or-set_same, get_or-set_other, drop-drop}
use borrow.Author.Tests.{leb-true, leb-false, ltb-true, lt-ltb, le-leb, lt-leb}
use Rattle.std.specs.Prelude.{Result, Ok, Err, ⊤}
use Rattle.circuit.specs.declared.rules.Rule.{Rule}
use Rattle.circuit.specs.Limits.{table_limit}
use Rattle.circuit.specs.Kinds.{words, kind_of}
use Rattle.circuit.proofs.Base.{cases, below_more}
use Rattle.text.specs.Lines.{line_feed}
use Rattle.text.specs.Internal.Scan.{Coded, is_word, value_in, count_from, ruled, frame_by_count, line_rule, frame_rule}
use Rattle.text.specs.Internal.Blocks.{block_words, start_of, Whole, Split}
use Rattle.text.proofs.Scanning.{count_turn}
use Rattle.text.proofs.Hex.{coded_value, coded_mark}

-- where a line starts
pub start_next : (ends : List ℕ) (g : ℕ) → start_of ends (g + 1) ≡ get_or ends g 0
start_next ends g = let e : g + 1 ≡ suc g = omega arith in rw e

start_set : (ends : List ℕ) (lines v g : ℕ) → g ≤ lines → start_of (set ends lines v) g ≡ start_of ends g
start_set ends lines v zero h = refl
start_set ends lines v (suc g) h = get_or-set_other ends lines g v 0 (λ e. omega arith)

-- the loop over the words of a block, behind k of them: the whole lines, and the count of the one that goes on here
pub record Cut (bytes block ends : List ℕ) (lines k : ℕ) : Type 0 where
  pub held : k ≤ length block
  pub few : lines ≤ k
  pub reached : start_of ends lines ≤ k
  pub whole : (g : ℕ) → g < lines → Whole bytes ends k g
  pub values : (j : ℕ) → j < k → get_or block j 0 ≡ value_in (drop (5 * j) bytes)
  pub count : count_from 1 (drop (5 * start_of ends lines) bytes) ≡ count_from (k - start_of ends lines + 1) (drop (5 * k) bytes)

module _ {bytes block ends : List ℕ} {lines k high low mark : ℕ} (p : Cut bytes block ends lines k)
    (fits : k < length block) (room : lines < length ends) (w : Coded (drop (5 * k) bytes) high low mark) (is : is_word (drop (5 * k) bytes) ≡ true) where
  abbrev more : List ℕ
  more = set ends lines (k + 1)

  abbrev value : ℕ
  value = high * 256 + low

  abbrev byte : ℕ
  byte = get_or (drop (5 * k) bytes) 4 0

  -- the lines before stay
  kept : (g : ℕ) → g < lines → Whole bytes more (k + 1) g
  kept g h =
      let o = p.whole g h in
      let e = start_set ends lines (k + 1) g (omega arith) in
      let f = get_or-set_other ends lines g (k + 1) 0 (λ z. omega arith) in
      record { rising = rw (e, f) o.rising; bounded = rw f (omega (arith, o.bounded)); counted = rw (e, f) o.counted }

  stored : (j : ℕ) → j < k + 1 → get_or (set block k value) j 0 ≡ value_in (drop (5 * j) bytes)
  stored = below_more k
      (λ j h. get_or-set_other block k j value 0 (λ z. omega arith) ∙ p.values j h)
      (get_or-set_same block k value 0 fits ∙ (coded_value w is).2)

  held : k + 1 ≤ length (set block k value)
  held = simp length-set (omega arith)

  -- the count of the line that goes on here, once its word is read
  goes : count_from 1 (drop (5 * start_of ends lines) bytes)
      ≡ cond (eqb byte line_feed) (k - start_of ends lines + 1) (count_from (k - start_of ends lines + 1 + 1) (drop (5 * (k + 1)) bytes))
  goes =
      let e : 5 * k + 5 ≡ 5 * (k + 1) = omega arith in
      p.count ∙ count_turn (k - start_of ends lines + 1) (drop (5 * k) bytes) 0 w.inside ∙ rw (is, drop-drop 5 (5 * k) bytes, e)

  ended : eqb byte line_feed ≡ true → Cut bytes (set block k value) more (lines + 1) (k + 1)
  ended m =
      let s = start_set ends lines (k + 1) lines (omega arith) in
      let l = get_or-set_same ends lines (k + 1) 0 room in
      let n = start_next more lines ∙ l in
      record {
        held = held;
        few = omega (arith, p.few);
        reached = rw n (omega arith);
        whole = below_more lines kept (record {
          rising = rw (s, l) (omega (arith, p.reached));
          bounded = rw l (omega arith);
          counted = rw (s, l) (goes ∙ rw m (omega (arith, p.reached)));
        });
        values = stored;
        count = rw n (let z : k + 1 - (k + 1) + 1 ≡ 1 = omega arith in rw z);
      }

  going : eqb byte line_feed ≡ false → Cut bytes (set block k value) more lines (k + 1)
  going m =
      let s = start_set ends lines (k + 1) lines (omega arith) in
      let n : k - start_of ends lines + 1 + 1 ≡ k + 1 - start_of ends lines + 1 = omega (arith, p.reached) in
      record {
        held = held;
        few = omega (arith, p.few);
        reached = rw s (omega (arith, p.reached));
        whole = kept;
        values = stored;
        count = rw s (goes ∙ rw (m, n));
      }

  pub cut_turn : Cut bytes (set block k value) more (lines + mark) (k + 1)
  cut_turn = rw (coded_mark w is) (cases (eqb byte line_feed)
      (λ m. rw m (ended m))
      (λ m. let z : lines ≡ lines + 0 = omega arith in rw m (subst (λ (n : ℕ). Cut bytes (set block k value) more n (k + 1)) z (going m))))

-- the loop's end: no word is left, or the block is full
pub cut_end : {bytes block ends : List ℕ} {lines k : ℕ} → Cut bytes block ends lines k → k ≤ block_words
    → (count_from (k + 1) (drop (5 * k) bytes) ≤ block_words → count_from (k + 1) (drop (5 * k) bytes) ≡ 0)
    → Split bytes block ends lines
cut_end {bytes} {block} {ends} {lines} {k} p most h = record {
  size = k;
  most = most;
  held = p.held;
  few = p.few;
  whole = p.whole;
  values = p.values;
  none = λ z l. let e : count_from 1 bytes ≡ count_from (k + 1) (drop (5 * k) bytes) = first z p.count in omega (arith, h (omega arith));
} where
  -- the first line is the one that goes on at the end
  first : lines ≡ 0 → count_from 1 (drop (5 * start_of ends lines) bytes) ≡ count_from (k - start_of ends lines + 1) (drop (5 * k) bytes)
      → count_from 1 bytes ≡ count_from (k + 1) (drop (5 * k) bytes)
  first z e =
      let v : k - 0 + 1 ≡ k + 1 = omega arith in
      rw (z, v) at e

-- a line that breaks no rule lies in the room
pub number_fits : (d kind count room : ℕ) → line_rule d kind count room ≡ Ok tt → count ≤ room
number_fits d kind count room h = cases (leb 1 kind && leb kind 8)
    (λ e. cases (eqb count (suc (words d (kind_of kind))))
    (λ f. cases (leb count room)
    (λ g. leb-true count room g)
    (λ g. absurd (broken (rw (e, f, g) at h))))
    (λ f. absurd (broken (rw (e, f) at h))))
    (λ e. absurd (broken (rw e at h)))
  where
    broken : {rule : Rule} → ◌≡◌ {A = Result ⊤ Rule} (Err rule) (Ok tt) → ⊥
    broken e = let z : ◌≡◌ {A = ℕ} 0 1 = cc in omega arith

-- the rules of a line by its kind, its number of words and the room are those of the definition
pub line-number : (d room stored kind count : ℕ) → 0 < count → stored ≤ room → room ≤ table_limit → (n : ℕ)
    → ruled n (line_rule d kind count (room - stored)) ≡ frame_by_count room d n stored kind count
line-number d room stored kind count h k m n = rw (lt-ltb 0 count h) (cases (leb 1 kind && leb kind 8)
    (λ e. rw e (cases (eqb count (suc (words d (kind_of kind))))
    (λ f. rw f (cases (leb count (room - stored))
    (λ r. let s = leb-true count (room - stored) r in rw (r, le-leb (stored + count) room (omega arith), le-leb (stored + count) table_limit (omega arith)))
    (λ r. let s = leb-false count (room - stored) r in rw (r, lt-leb (stored + count) room (omega arith)))))
    (λ f. rw f)))
    (λ e. rw e))

pub frame-number : (d room stored kind count : ℕ) → stored ≤ room → room ≤ table_limit → (n : ℕ)
    → ruled n (frame_rule d (room - stored) kind count) ≡ frame_by_count room d n stored kind count
frame-number d room stored kind count k m n = cases (ltb 0 count)
    (λ h. let e : frame_rule d (room - stored) kind count ≡ line_rule d kind count (room - stored) = rw h in
    ap (ruled n) e ∙ line-number d room stored kind count (ltb-true 0 count h) k m n)
    (λ h. rw h)
