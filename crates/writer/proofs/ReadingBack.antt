-- The reader accepts the text of an accepted table, as this very table.
use mathlib.Core.Path.{◌≡◌, sym, ap, ap₂, subst, ◌∙◌}
use mathlib.Core.Bool.{true, false}
use mathlib.Core.List.{List, [], ◌∷◌, ◌++◌, append_assoc, append-nil}
use Prim.Native.Nat.{ℕ, suc, ◌+◌, ◌/◌, ◌%◌, ◌≤◌, ◌<◌}
use native.Mathlib.Omega.{arith}
use lib.Dec.{leb, eqb}
use lib.ListN.{length, length-append}
use borrow.Author.Tests.{le-leb, eq-eqb, ne_eqb}
use Rattle.circuit.specs.Limits.{table_limit, fewest_shares, most_shares}
use Rattle.circuit.specs.Lists.{nth}
use Rattle.circuit.specs.Kinds.{kind_of, words}
use Rattle.circuit.specs.Circuit.{Circuit, empty, extend}
use Rattle.circuit.specs.Rules.{pass}
use Rattle.circuit.specs.Composition.{Frame, AllFit, done, next, kind_word, words_of}
use Rattle.circuit.proofs.Base.{cases, Every, every_split}
use Rattle.circuit.proofs.Building.{Lawful, InTime, intime_step}
use Rattle.circuit.proofs.Fitting.{kind-known, fit-meets}
use Rattle.circuit.proofs.Exact.{Accepted}
use Rattle.text.specs.Lines.{line_feed, space, line, lines_of, are_words, words_on}
use Rattle.text.specs.Reader.{frame_lines, read_text}
use Rattle.text.proofs.Reading.{stop}
use Rattle.writer.specs.Writer.{digit_byte, digits_of, lines_from, text_of, ReadsBack}
use Rattle.writer.specs.Internal.Line.{line_of}
use Rattle.writer.proofs.Digits.{word_read}
use Rattle.writer.proofs.Lines.{FrameWords, line_first, head_first}

-- a word of 16 bits
abbrev pub Word16 : ℕ → Type 0
Word16 x = x < 65536

-- no digit is a line feed
no_feed : (n : ℕ) → eqb (digit_byte n) line_feed ≡ false
no_feed n = cases (leb n 9) (λ e. rw e (ne_eqb (48 + n) line_feed (λ z. omega arith))) (λ e. rw e (ne_eqb (55 + n) line_feed (λ z. omega arith)))

-- what the reader takes the line of some words for, other bytes behind it
record LineRead (ws more : List ℕ) : Type 0 where
  content : List ℕ
  lines : lines_of (line_of ws ++ more) ≡ line content true ∷ lines_of more
  form : are_words content ≡ true
  words : words_on content ≡ ws

line_read : (x : ℕ) (ws more : List ℕ) → Every Word16 (x ∷ ws) → LineRead (x ∷ ws) more
unfolding line_of lines_of are_words words_on
line_read x [] more h = record {
  content = digits_of x;
  lines = rw (no_feed (x / 4096), no_feed (x / 256 % 16), no_feed (x / 16 % 16), no_feed (x % 16));
  form = (word_read x h.0).0;
  words = ap (λ (w : ℕ). w ∷ []) (word_read x h.0).1;
}
line_read x (y ∷ ws) more h =
    let r = line_read y ws more h.1 in
    record {
      content = digits_of x ++ space ∷ r.content;
      lines = rw (no_feed (x / 4096), no_feed (x / 256 % 16), no_feed (x / 16 % 16), no_feed (x % 16), r.lines);
      form = rw (word_read x h.0).0 r.form;
      words = ap₂ ◌∷◌ (word_read x h.0).1 r.words;
    }

-- a frame is read from its line, behind the words found on the lines before
module _ (room d n : ℕ) (found : List ℕ) where
  frame_read : (ws more : List ℕ) → FrameWords d ws → Every Word16 ws → length found + length ws ≤ room → length found + length ws ≤ table_limit
      → frame_lines room d n found (lines_of (lines_from d 0 (ws ++ more))) ≡ frame_lines room d (suc n) (found ++ ws) (lines_of (lines_from d 0 more))
  unfolding frame_lines
  frame_read [] more f small fits few = absurd (omega (arith, f.count))
  frame_read (x ∷ ws) more f small fits few =
      let r = line_read x ws (lines_from d 0 more) small in
      ap (λ (bs : List ℕ). frame_lines room d n found (lines_of bs)) (line_first d (x ∷ ws) more f.count)
      ∙ rw (
        r.lines,
        r.form,
        r.words,
        le-leb 1 x f.least,
        le-leb x 8 f.most,
        eq-eqb (length (x ∷ ws)) (suc (words d (kind_of x))) f.count,
        le-leb (length found + length (x ∷ ws)) room fits,
        le-leb (length found + length (x ∷ ws)) table_limit few,
      )

-- the frames of a circuit, one after the other
frames_read : (room : ℕ) (k : Circuit) (fs : List Frame) → fewest_shares ≤ k.d → Lawful InTime k → AllFit k fs → Every Word16 (words_of fs)
    → (n : ℕ) (found : List ℕ) → length found + length (words_of fs) ≤ room → length found + length (words_of fs) ≤ table_limit
    → frame_lines room k.d n found (lines_of (lines_from k.d 0 (words_of fs))) ≡ stop (found ++ words_of fs) pass
frames_read room k _ ge h done small n found fits few = unfold frame_lines lines_from lines_of in ap (λ (ws : List ℕ). stop ws pass) (sym (append-nil found))
frames_read room k _ ge h (next {f = g} {fs = fs} fit many rest) small n found fits few =
    let ws : List ℕ = kind_word g.kind ∷ g.ops in
    let m = fit-meets k g.kind g.ops ge h fit in
    let f : FrameWords k.d ws = record { least = m.known.0; most = m.known.1; count = rw (kind-known g.kind) (ap suc m.count) } in
    let s = every_split Word16 ws (words_of fs) small in
    let size = length-append ws (words_of fs) in
    let longer = length-append found ws in
    frame_read room k.d n found ws (words_of fs) f s.0 (omega arith) (omega arith)
    ∙ frames_read room (extend k g.ops g.kind) fs ge (intime_step k g.ops g.kind ge fit h) rest s.1 (suc n) (found ++ ws) (omega arith) (omega arith)
    ∙ ap (λ (xs : List ℕ). stop xs pass) (append_assoc found ws (words_of fs))

-- HEAD and the frames
head_read : (room d : ℕ) (fs : List Frame) → fewest_shares ≤ d → d ≤ most_shares → AllFit (empty d) fs → Every Word16 (words_of fs)
    → length (0 ∷ d ∷ words_of fs) ≤ room → length (0 ∷ d ∷ words_of fs) ≤ table_limit
    → read_text (text_of (0 ∷ d ∷ words_of fs)) room ≡ stop (0 ∷ d ∷ words_of fs) pass
unfolding read_text
head_read room d fs ge le fit small fits few =
    let r = line_read 0 (d ∷ []) (lines_from d 0 (words_of fs)) (omega arith, (omega arith, tt)) in
    ap (λ (bs : List ℕ). read_text bs room) (head_first d (words_of fs))
    ∙ rw (r.lines, r.form, r.words, le-leb fewest_shares d ge, le-leb d most_shares le, le-leb 2 room (omega arith))
    (frames_read room (empty d) fs ge tt fit small 1 (0 ∷ d ∷ []) (omega arith) (omega arith))

-- the table's words are of 16 bits
every_word : (xs : List ℕ) → ((i : ℕ) → Word16 (nth xs i)) → Every Word16 xs
every_word [] h = tt
every_word (x ∷ xs) h = (h 0, every_word xs (λ i. h (suc i)))

pub reads_back : {table : List ℕ} {notes : ℕ} → ((i : ℕ) → Word16 (nth table i)) → Accepted table notes → ReadsBack table
reads_back {table} small a room fits =
    let s = subst (Every Word16) a.table_is (every_word table small) in
    let e = a.table_is in
    subst (λ (t : List ℕ). read_text (text_of t) room ≡ stop t pass) (sym e)
    (head_read room a.d a.fs a.least a.most a.fit s.1.1
    (subst (λ (t : List ℕ). length t ≤ room) e fits) (subst (λ (t : List ℕ). length t ≤ table_limit) e a.short))
