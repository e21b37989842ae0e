-- What an accepted text is: every line is a frame with all its words, and the words found are those on the lines.
use mathlib.Core.Path.{◌≡◌, refl, sym, ap, subst, ◌∙◌}
use mathlib.Core.Bool.{true, ◌&&◌}
use mathlib.Core.List.{List, [], ◌∷◌, ◌++◌, append_assoc, append-nil}
use Prim.Native.Nat.{ℕ, suc, ◌+◌, ◌≤◌}
use native.Mathlib.Omega.{arith}
use lib.Dec.{leb, eqb}
use lib.ListN.{length, length-append}
use borrow.Author.Tests.{eqb-true, leb-true}
use Rattle.circuit.specs.Limits.{table_limit}
use Rattle.circuit.specs.Lists.{nth, concat_map}
use Rattle.circuit.specs.Kinds.{kind_of, words}
use Rattle.circuit.specs.Rules.{Judgement, pass, refuse, need, ◌then◌}
use Rattle.circuit.proofs.Base.{and_left, and_right, Every}
use Rattle.text.specs.Lines.{Line, lines_of, are_words}
use Rattle.text.specs.Reader.{Read, onward, words_of, form_rule, head_line_rule, frame_line_rule, room_rule, frame_lines, all_lines, read_text}
use Rattle.circuit.proofs.Judging.{then_pass, need-pass, need_then}
use Rattle.text.proofs.Progress.{room_passes}

-- a line that its line feed ends, of words with one space between
pub record Formed (l : Line) : Type 0 where
  pub ended : l.ended ≡ true
  pub words : are_words l.content ≡ true

-- a line after the first, d being known: a kind from 1 to 8, and the kind's number of words
pub record FrameLine (d : ℕ) (l : Line) : Type 0 where
  pub form : Formed l
  pub least : 1 ≤ nth (words_of l) 0
  pub most : nth (words_of l) 0 ≤ 8
  pub count : length (words_of l) ≡ suc (words d (kind_of (nth (words_of l) 0)))

-- an accepted text, and the words found on it
pub record AcceptedText (text found : List ℕ) : Type 0 where
  pub first : Line
  pub later : List Line
  pub d : ℕ
  pub lines : lines_of text ≡ first ∷ later
  pub form : Formed first
  pub head : words_of first ≡ 0 ∷ d ∷ []
  pub least : 2 ≤ d
  pub most : d ≤ 8
  pub frames : Every (FrameLine d) later
  pub exact : found ≡ concat_map (lines_of text) words_of
  pub short : length found ≤ table_limit

formed_line : (n : ℕ) (l : Line) → form_rule n l ≡ pass → Formed l
formed_line n l h =
    let g = need-pass (l.ended && are_words l.content) 20 n 0 h in
    record { ended = and_left l.ended (are_words l.content) g; words = and_right l.ended (are_words l.content) g }

frame-line_passes : (d n : ℕ) (l : Line) → frame_line_rule d n l ≡ pass → FrameLine d l
frame-line_passes d n l h =
    let x = nth (words_of l) 0 in
    let kind_rule = need (leb 1 x && leb x 8) 5 n 0 in
    let count_rule = need (eqb (length (words_of l)) (suc (words d (kind_of x)))) 6 n 0 in
    let p = then_pass (form_rule n l) (kind_rule then count_rule) h in
    let q = need_then (leb 1 x && leb x 8) 5 n 0 count_rule p.1 in
    record {
      form = formed_line n l p.0;
      least = leb-true 1 x (and_left (leb 1 x) (leb x 8) q.0);
      most = leb-true x 8 (and_right (leb 1 x) (leb x 8) q.0);
      count = eqb-true (length (words_of l)) (suc (words d (kind_of x))) (need-pass (eqb (length (words_of l)) (suc (words d (kind_of x)))) 6 n 0 q.1);
    }

-- a reading that goes on, and passes
onward-pass : (j : Judgement) (found : List ℕ) (rest : Read) → (onward j found rest).judgement ≡ pass
    → (j ≡ pass) × (onward j found rest ≡ rest)
onward-pass pass found rest h = (refl, refl)
onward-pass (refuse rule n w) found rest h = let z : ◌≡◌ {A = ℕ} 0 1 = cc in absurd (omega arith)

-- the lines after the first
record Lines (d : ℕ) (found : List ℕ) (ls : List Line) (read : Read) : Type 0 where
  pub frames : Every (FrameLine d) ls
  pub exact : read.found ≡ found ++ concat_map ls words_of
  pub short : length read.found ≤ table_limit

lines_pass : (room d n : ℕ) (found : List ℕ) (ls : List Line) → length found ≤ table_limit
    → (frame_lines room d n found ls).judgement ≡ pass → Lines d found ls (frame_lines room d n found ls)
unfolding frame_lines
lines_pass room d n found [] s h = record { frames = tt; exact = sym (append-nil found); short = s }
lines_pass room d n found (l ∷ ls) s h =
    let rest = frame_lines room d (suc n) (found ++ words_of l) ls in
    let room-here = room_rule room n (length found + length (words_of l)) in
    let p = onward-pass (frame_line_rule d n l then room-here) found rest h in
    let q = then_pass (frame_line_rule d n l) room-here p.0 in
    let e = length-append found (words_of l) in
    let s' = (room_passes room n (length found + length (words_of l)) q.1).1 in
    let r = lines_pass room d (suc n) (found ++ words_of l) ls (omega arith) (sym (ap (λ (x : Read). x.judgement) p.1) ∙ h) in
    subst (λ (x : Read). Lines d found (l ∷ ls) x) (sym p.1)
    (record {
      frames = (frame-line_passes d n l q.0, r.frames);
      exact = r.exact ∙ append_assoc found (words_of l) (concat_map ls words_of);
      short = r.short;
    })

two-words : (xs : List ℕ) → length xs ≡ 2 → nth xs 0 ≡ 0 → xs ≡ 0 ∷ nth xs 1 ∷ []
two-words [] h e = absurd (omega arith)
two-words (x ∷ []) h e = absurd (omega arith)
two-words (x ∷ y ∷ []) h e = ap (λ (a : ℕ). a ∷ y ∷ []) e
two-words (x ∷ y ∷ z ∷ xs) h e = absurd (omega arith)

all_pass : (room : ℕ) (text : List ℕ) (ls : List Line) → lines_of text ≡ ls → (all_lines room ls).judgement ≡ pass → AcceptedText text (all_lines room ls).found
all_pass room text [] f h = let z : ◌≡◌ {A = ℕ} 0 1 = cc in absurd (omega arith)
all_pass room text (l ∷ ls) f h =
    let ws = words_of l in
    let d = nth ws 1 in
    let rest = frame_lines room d 1 ws ls in
    let head_rule = need (eqb (length ws) 2 && eqb (nth ws 0) 0) 3 0 0 in
    let order_rule = need (leb 2 d && leb d 8) 4 0 1 in
    let p = onward-pass (head_line_rule l then room_rule room 0 (length ws)) [] rest h in
    let q = then_pass (head_line_rule l) (room_rule room 0 (length ws)) p.0 in
    let form = then_pass (form_rule 0 l) (head_rule then order_rule) q.0 in
    let two = need_then (eqb (length ws) 2 && eqb (nth ws 0) 0) 3 0 0 order_rule form.1 in
    let share_count = need-pass (leb 2 d && leb d 8) 4 0 1 two.1 in
    let r = lines_pass room d 1 ws ls (room_passes room 0 (length ws) q.1).1 (sym (ap (λ (x : Read). x.judgement) p.1) ∙ h) in
    subst (λ (x : Read). AcceptedText text x.found) (sym p.1)
    (record {
      first = l;
      later = ls;
      d = d;
      lines = f;
      form = formed_line 0 l form.0;
      head = two-words ws (eqb-true (length ws) 2 (and_left (eqb (length ws) 2) (eqb (nth ws 0) 0) two.0))
          (eqb-true (nth ws 0) 0 (and_right (eqb (length ws) 2) (eqb (nth ws 0) 0) two.0));
      least = leb-true 2 d (and_left (leb 2 d) (leb d 8) share_count);
      most = leb-true d 8 (and_right (leb 2 d) (leb d 8) share_count);
      frames = r.frames;
      exact = r.exact ∙ ap (λ (x : List Line). concat_map x words_of) (sym f);
      short = r.short;
    })

-- where nothing is broken, the words found are exactly those on the lines, and every line is a whole frame
pub text_accepted : (text : List ℕ) (room : ℕ) → (read_text text room).judgement ≡ pass → AcceptedText text (read_text text room).found
unfolding read_text
text_accepted text room h = all_pass room text (lines_of text) refl h
