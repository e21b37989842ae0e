-- The loop over the lines: what holds at its head, its turn, and its ends.
use mathlib.Core.Path.{◌≡◌, refl, sym, ap, ◌∙◌}
use mathlib.Core.Bool.{true, ◌&&◌}
use mathlib.Core.List.{List, [], ◌∷◌}
use Prim.Native.Nat.{ℕ, suc, ◌+◌, ◌-◌, ◌≤◌, ◌<◌}
use native.Mathlib.Omega.{arith}
use lib.Dec.{leb, ltb, eqb}
use lib.ListN.{length, set, take, drop, length-set, take-append-drop}
use lib.Seq.{sets-eq, length-take-le, drop-drop}
use borrow.Author.Tests.{eqb-true, leb-true, ltb-true}
use Rattle.circuit.specs.Kinds.{kind_of, words}
use Rattle.circuit.specs.Limits.{table_limit}
use Rattle.circuit.specs.Rules.{Judgement, pass, refuse, need, ◌then◌}
use Rattle.circuit.proofs.Base.{and_left, and_right}
use Rattle.text.specs.Lines.{lines_of}
use Rattle.text.specs.Reader.{Read, frame_lines, read_text, room_rule}
use Rattle.text.specs.Answer.{table_after}
use Rattle.text.specs.Internal.Scan.{value_in, count_from, words_at, limit_of, head_by_count, frame_by_count}
use Rattle.circuit.proofs.Judging.{then_pass, need-pass, need_then}
use Rattle.text.specs.Internal.Blocks.{rest_read}
use Rattle.text.proofs.Reading.{stop, frame-line, head_line, line-fits}

-- at the head of the loop: what is read is found from here on, and the table is touched only up to `stored`
pub record Progress (reading : Read) (table₀ : List ℕ) (d : ℕ) (table text : List ℕ) (line stored : ℕ) : Type 0 where
  pub reads : reading ≡ frame_lines (length table₀) d line (take stored table) (lines_of text)
  pub rest : drop stored table ≡ drop stored table₀
  pub size : length table ≡ length table₀
  pub head : 2 ≤ stored
  pub fits : stored ≤ limit_of (length table₀)

length-zero : (xs : List ℕ) → length xs ≡ 0 → xs ≡ []
length-zero [] h = refl
length-zero (x ∷ xs) h = absurd (omega arith)

-- what a passing line tells in numbers
pub room_passes : (room n count : ℕ) → room_rule room n count ≡ pass → (count ≤ room) × (count ≤ table_limit)
room_passes room n count h =
    let k = need-pass (leb count room && leb count table_limit) 21 n 0 h in (
      leb-true count room (and_left (leb count room) (leb count table_limit) k),
      leb-true count table_limit (and_right (leb count room) (leb count table_limit) k),
    )

module _ (room d n stored kind count : ℕ) (h : frame_by_count room d n stored kind count ≡ pass) where
  abbrev kind_rules : Judgement
  kind_rules = need (leb 1 kind && leb kind 8) 5 n 0 then need (eqb count (suc (words d (kind_of kind)))) 6 n 0

  rules : (ltb 0 count ≡ true) × (kind_rules ≡ pass)
  rules = need_then (ltb 0 count) 20 n 0 kind_rules (then_pass (need (ltb 0 count) 20 n 0 then kind_rules) (room_rule room n (stored + count)) h).0

  pub frame-count : 0 < count
  frame-count = ltb-true 0 count rules.0

  pub frame-words : count ≡ suc (words d (kind_of kind))
  frame-words = eqb-true count (suc (words d (kind_of kind)))
      (need-pass (eqb count (suc (words d (kind_of kind)))) 6 n 0 (need_then (leb 1 kind && leb kind 8) 5 n 0 (need (eqb count (suc (words d (kind_of kind)))) 6 n 0) rules.1).1)

module _ {reading : Read} {table₀ : List ℕ} {d : ℕ} {table text : List ℕ} {line stored : ℕ} (p : Progress reading table₀ d table text line stored) where
  -- the judgement on the line here
  abbrev pub judgement : Judgement
  judgement = frame_by_count (length table₀) d line stored (value_in text) (count_from 1 text)

  pub front : length (take stored table) ≡ stored
  front = length-take-le stored table (omega (arith, p.fits, p.size))

  -- a line that breaks a rule ends the reading
  pub refused : 0 < length text → (r w : ℕ) → refuse r line w ≡ judgement → reading ≡ stop (take stored table) (refuse r line w)
  refused h r w e =
      let f = frame-line (length table₀) d line (take stored table) text h in
      p.reads ∙ rw front at f ∙ rw (sym e)

  -- the end of the text ends it too
  pub ended : length text ≡ 0 → reading ≡ stop (take stored table) pass
  unfolding frame_lines lines_of
  ended h = p.reads ∙ rw (length-zero text h)

-- the first line: it breaks a rule, or the loop starts behind it
abbrev pub head_here : List ℕ → ℕ → Judgement
head_here text room = head_by_count room (length text) (count_from 1 text) (value_in text) (value_in (drop 5 text))

pub head_refused : (text : List ℕ) (room r n w : ℕ) → refuse r n w ≡ head_here text room → read_text text room ≡ stop [] (refuse r n w)
head_refused text room r n w e = head_line room text ∙ rw (sym e)

module _ (text table : List ℕ) (room : ℕ) (e : pass ≡ head_here text room) where
  abbrev count : ℕ
  count = count_from 1 text

  abbrev line_rules : Judgement
  line_rules = need (eqb count 2 && eqb (value_in text) 0) 3 0 0
      then need (leb 2 (value_in (drop 5 text)) && leb (value_in (drop 5 text)) 8) 4 0 1

  parts : ((need (ltb 0 count) 20 0 0 then line_rules) ≡ pass) × (room_rule room 0 count ≡ pass)
  parts = then_pass (need (ltb 0 count) 20 0 0 then line_rules) (room_rule room 0 count)
      (need_then (ltb 0 (length text)) 3 0 0 ((need (ltb 0 count) 20 0 0 then line_rules) then room_rule room 0 count) (sym e)).1

  -- the first line has two words, the kind 0, and d from 2 to 8
  headed : (count ≡ 2) × (value_in text ≡ 0) × (value_in (drop 5 text) ≤ 8)
  headed =
      let shares = need (leb 2 (value_in (drop 5 text)) && leb (value_in (drop 5 text)) 8) 4 0 1 in
      let k = (need_then (ltb 0 count) 20 0 0 line_rules parts.0).1 in
      let m = need_then (eqb count 2 && eqb (value_in text) 0) 3 0 0 shares k in (
        eqb-true count 2 (and_left (eqb count 2) (eqb (value_in text) 0) m.0),
        eqb-true (value_in text) 0 (and_right (eqb count 2) (eqb (value_in text) 0) m.0),
        leb-true (value_in (drop 5 text)) 8 (and_right (leb 2 (value_in (drop 5 text))) (leb (value_in (drop 5 text)) 8)
            (need-pass (leb 2 (value_in (drop 5 text)) && leb (value_in (drop 5 text)) 8) 4 0 1 m.1)),
      )

  pub head_fits : (10 ≤ length text) × (2 ≤ room)
  head_fits = (omega (arith, headed, line-fits text), omega (arith, headed, (room_passes room 0 count parts.1).0))

  -- what is read is found behind the first line, whose words the table has
  pub start : (d : ℕ) → d ≡ value_in (drop 5 text) → length table ≡ room
      → read_text text room ≡ rest_read d (set (set table 0 0) 1 d) (drop 10 text)
  unfolding words_at
  start d u z =
      let n : length (set (set table 0 0) 1 d) ≡ room = simp length-set z in
      let front : take 2 (set (set table 0 0) 1 d) ≡ 0 ∷ d ∷ [] = ap (take 2) (sets-eq (0 ∷ d ∷ []) table 0 (omega (arith, z, head_fits.1))) in
      rw (n, front) (head_line room text ∙ rw (sym e, headed.0, headed.1, u))

-- what the table holds where the reading ends, told of a table that was lent
pub table-after : {reading : Read} {table₀ : List ℕ} {d : ℕ} {table text : List ℕ} {line stored : ℕ} → Progress reading table₀ d table text line stored
    → (j : Judgement) → reading ≡ stop (take stored table) j → (lent : List ℕ) → drop 2 lent ≡ drop 2 table₀ → table ≡ table_after reading lent
table-after {table₀ = table₀} {table = table} {stored = stored} p j e lent h =
    let z : 2 + (stored - 2) ≡ stored = omega (arith, p.head) in
    let kept : drop stored table ≡ drop stored lent
    = p.rest ∙ rw (sym z, sym (drop-drop (stored - 2) 2 table₀), sym (drop-drop (stored - 2) 2 lent)) (ap (drop (stored - 2)) (sym h)) in
    sym (rw (e, front p, sym kept) (take-append-drop stored table))
