-- The answer from a line on, by the line's count of words.
use mathlib.Core.Path.{◌≡◌, refl, sym, ap, ◌∙◌}
use mathlib.Core.Bool.{true, false, ◌&&◌}
use mathlib.Core.List.{List, [], ◌∷◌, ◌++◌}
use Prim.Native.Nat.{ℕ, zero, suc, ◌*◌, ◌≤◌, ◌<◌}
use native.Mathlib.Omega.{arith}
use lib.ListN.{length, drop}
use borrow.Author.Tests.{lt-ltb}
use Rattle.circuit.specs.Rules.{Judgement}
use Rattle.text.specs.Lines.{Line, lines_of, are_words}
use Rattle.text.specs.Reader.{Read, onward, words_of, frame_lines, all_lines, read_text}
use Rattle.text.specs.Internal.Scan.{value_in, count_from, words_at, head_by_count, frame_by_count}
use Rattle.text.proofs.Splitting.{first_line, after_line, lines_split, Counted, unformed, formed, counted}

pub words-length : (n : ℕ) (bytes : List ℕ) → length (words_at n bytes) ≡ n
unfolding words_at
words-length zero bytes = refl
words-length (suc n) bytes = ap suc (words-length n (drop 5 bytes))

-- the answer from a line on
abbrev pub stop : List ℕ → Judgement → Read
stop found j = record { found = found; judgement = j }

module _ (room d n : ℕ) (found : List ℕ) (l : Line) (ls : List Line) where
  bad_line : (l.ended && are_words l.content) ≡ false → (kind : ℕ) (rest : Read)
      → frame_lines room d n found (l ∷ ls) ≡ onward (frame_by_count room d n (length found) kind 0) found rest
  unfolding frame_lines
  bad_line g kind rest = rw g

  good_line : (l.ended && are_words l.content) ≡ true → (m : ℕ) (bytes : List ℕ) → words_of l ≡ words_at (suc m) bytes
      → frame_lines room d n found (l ∷ ls)
      ≡ onward (frame_by_count room d n (length found) (value_in bytes) (suc m)) found
      (frame_lines room d (suc n) (found ++ words_at (suc m) bytes) ls)
  unfolding frame_lines words_at
  good_line g m bytes w = rw (g, w, words-length m (drop 5 bytes), lt-ltb 0 (suc m) (omega arith))

-- a line at the start of some bytes, by its count of words
frame-told : (room d n : ℕ) (found : List ℕ) (b : ℕ) (bs : List ℕ) (k : ℕ) → Counted 1 (b ∷ bs) k
    → frame_lines room d n found (lines_of (b ∷ bs))
    ≡ onward (frame_by_count room d n (length found) (value_in (b ∷ bs)) k) found
    (frame_lines room d (suc n) (found ++ words_at k (b ∷ bs)) (lines_of (drop (5 * k) (b ∷ bs))))
frame-told room d n found b bs k (unformed z g) =
    ap (frame_lines room d n found) (lines_split b bs)
    ∙ bad_line room d n found (first_line (b ∷ bs)) (lines_of (after_line (b ∷ bs))) g (value_in (b ∷ bs))
    (frame_lines room d (suc n) (found ++ words_at 0 (b ∷ bs)) (lines_of (drop (5 * 0) (b ∷ bs))))
    ∙ ap (λ (x : ℕ). onward (frame_by_count room d n (length found) (value_in (b ∷ bs)) x) found
    (frame_lines room d (suc n) (found ++ words_at x (b ∷ bs)) (lines_of (drop (5 * x) (b ∷ bs))))) (sym z)
frame-told room d n found b bs k (formed m z g w t l) =
    let y : suc m ≡ k = omega arith in
    ap (frame_lines room d n found) (lines_split b bs ∙ ap (λ (r : List ℕ). first_line (b ∷ bs) ∷ lines_of r) t)
    ∙ good_line room d n found (first_line (b ∷ bs)) (lines_of (drop (5 * suc m) (b ∷ bs))) g m (b ∷ bs) w
    ∙ ap (λ (x : ℕ). onward (frame_by_count room d n (length found) (value_in (b ∷ bs)) x) found
    (frame_lines room d (suc n) (found ++ words_at x (b ∷ bs)) (lines_of (drop (5 * x) (b ∷ bs))))) y

pub frame-line : (room d n : ℕ) (found bs : List ℕ) → 0 < length bs
    → frame_lines room d n found (lines_of bs)
    ≡ onward (frame_by_count room d n (length found) (value_in bs) (count_from 1 bs)) found
    (frame_lines room d (suc n) (found ++ words_at (count_from 1 bs) bs) (lines_of (drop (5 * count_from 1 bs) bs)))
frame-line room d n found [] h = absurd (omega arith)
frame-line room d n found (b ∷ bs) h = frame-told room d n found b bs (count_from 1 (b ∷ bs)) (counted 1 (b ∷ bs))

-- the first line
module _ (room : ℕ) (l : Line) (ls : List Line) where
  good_head : (l.ended && are_words l.content) ≡ true → (m size : ℕ) (bytes : List ℕ) → 0 < size → words_of l ≡ words_at (suc m) bytes
      → all_lines room (l ∷ ls)
      ≡ onward (head_by_count room size (suc m) (value_in bytes) (value_in (drop 5 bytes))) []
      (frame_lines room (value_in (drop 5 bytes)) 1 (words_at (suc m) bytes) ls)
  unfolding words_at
  good_head g zero size bytes h w = rw (g, w, lt-ltb 0 size h)
  good_head g (suc m) size bytes h w =
      rw (g, w, words-length m (drop 5 (drop 5 bytes)), lt-ltb 0 size h, lt-ltb 0 (suc (suc m)) (omega arith))

head_told : (room b : ℕ) (bs : List ℕ) (k : ℕ) → Counted 1 (b ∷ bs) k
    → read_text (b ∷ bs) room
    ≡ onward (head_by_count room (length (b ∷ bs)) k (value_in (b ∷ bs)) (value_in (drop 5 (b ∷ bs)))) []
    (frame_lines room (value_in (drop 5 (b ∷ bs))) 1 (words_at k (b ∷ bs)) (lines_of (drop (5 * k) (b ∷ bs))))
unfolding read_text
head_told room b bs k (unformed z g) = ap (all_lines room) (lines_split b bs) ∙ rw (g, z, lt-ltb 0 (suc (length bs)) (omega arith))
head_told room b bs k (formed m z g w t l) =
    let y : suc m ≡ k = omega arith in
    ap (all_lines room) (lines_split b bs ∙ ap (λ (r : List ℕ). first_line (b ∷ bs) ∷ lines_of r) t)
    ∙ good_head room (first_line (b ∷ bs)) (lines_of (drop (5 * suc m) (b ∷ bs))) g m (suc (length bs)) (b ∷ bs) (omega arith) w
    ∙ ap (λ (x : ℕ). onward (head_by_count room (length (b ∷ bs)) x (value_in (b ∷ bs)) (value_in (drop 5 (b ∷ bs)))) []
    (frame_lines room (value_in (drop 5 (b ∷ bs))) 1 (words_at x (b ∷ bs)) (lines_of (drop (5 * x) (b ∷ bs))))) y

pub head_line : (room : ℕ) (text : List ℕ)
    → read_text text room
    ≡ onward (head_by_count room (length text) (count_from 1 text) (value_in text) (value_in (drop 5 text))) []
    (frame_lines room (value_in (drop 5 text)) 1 (words_at (count_from 1 text) text) (lines_of (drop (5 * count_from 1 text) text)))
unfolding read_text lines_of
head_line room [] = refl
head_line room (b ∷ bs) = head_told room b bs (count_from 1 (b ∷ bs)) (counted 1 (b ∷ bs))

-- a line of the form lies in the text
pub line-fits : (bs : List ℕ) → 5 * count_from 1 bs ≤ length bs
line-fits bs = fits (count_from 1 bs) (counted 1 bs) where
  fits : (k : ℕ) → Counted 1 bs k → 5 * k ≤ length bs
  fits k (unformed z g) = omega arith
  fits k (formed m z g w t l) = omega arith
