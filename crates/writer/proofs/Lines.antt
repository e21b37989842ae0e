-- A frame's line: written word by word, and the lines of a table frame by frame.
use mathlib.Core.Path.{◌≡◌, refl, sym, ◌∙◌}
use mathlib.Core.List.{List, [], ◌∷◌, ◌++◌}
use Prim.Native.Nat.{ℕ, zero, suc, ◌+◌, ◌*◌, ◌-◌, ◌≤◌, ◌<◌}
use native.Mathlib.Numerals.{add-one}
use native.Mathlib.Omega.{arith}
use lib.ListN.{length, get_or, set}
use lib.Seq.{sets, slice, slice-cons, slice_empty, length-slice, set-set}
use Rattle.circuit.specs.Lists.{nth}
use Rattle.circuit.specs.Kinds.{kind_of, shape, words}
use Rattle.text.specs.Lines.{line_feed, space}
use Rattle.writer.specs.Writer.{digits_of, lines_from, text_of}
use Rattle.writer.specs.Internal.Line.{line_of, spaced_of}

-- five bytes a word
pub line-length : (ws : List ℕ) → length (line_of ws) ≡ 5 * length ws
unfolding line_of
line-length [] = refl
line-length (x ∷ ws) = omega (arith, line-length ws)

pub lines_length : (d left : ℕ) (xs : List ℕ) → length (lines_from d left xs) ≡ 5 * length xs
unfolding lines_from
lines_length d left [] = refl
lines_length d zero (x ∷ xs) = omega (arith, lines_length d (words d (kind_of x)) xs)
lines_length d (suc n) (x ∷ xs) = omega (arith, lines_length d n xs)

-- words are written, each with a space behind it: one of them is, and what is left; none is left
pub words_turn : (text table : List ℕ) (i to : ℕ) → i < to → to ≤ length table
    → {new : List ℕ} → new ≡ sets text (5 * i) (digits_of (get_or table i 0) ++ space ∷ [])
    → sets text (5 * i) (spaced_of (slice i to table)) ≡ sets new (5 * (i + 1)) (spaced_of (slice (i + 1) to table))
unfolding spaced_of
words_turn text table i to h l w =
    let e : slice i to table ≡ get_or table i 0 ∷ slice (i + 1) to table = rw add-one (slice-cons i to table 0 h l) in
    let p : 5 * (i + 1) ≡ suc (suc (suc (suc (suc (5 * i))))) = omega arith in
    rw (e, p, w)

pub words_end : (text table : List ℕ) (i to : ℕ) → i ≤ to → to ≤ i → sets text (5 * i) (spaced_of (slice i to table)) ≡ text
unfolding spaced_of
words_end text table i to h l = let e : i ≡ to = omega arith in rw (e, slice_empty to table)

-- two words, and those behind them
pub words-two : (text table : List ℕ) (from to : ℕ) → from + 2 ≤ to → to ≤ length table → {one two all : List ℕ}
    → one ≡ sets text (5 * from) (digits_of (get_or table from 0) ++ space ∷ []) → two ≡ sets one (5 * from + 5) (digits_of (get_or table (from + 1) 0) ++ space ∷ [])
    → all ≡ sets two (5 * (from + 2)) (spaced_of (slice (from + 2) to table)) → all ≡ sets text (5 * from) (spaced_of (slice from to table))
words-two text table from to h l {one} p q r =
    let e : 5 * from + 5 ≡ 5 * (from + 1) = omega arith in
    let f : from + 1 + 1 ≡ from + 2 = omega arith in
    sym (words_turn text table from to (omega arith) l p ∙ words_turn one table (from + 1) to (omega arith) l (rw e at q) ∙ rw f (sym r))

-- the line feed in the last space's place makes the line
feed_last : (text : List ℕ) (at x : ℕ) (ws : List ℕ) (last : ℕ) → last + 1 ≡ at + 5 * length (x ∷ ws)
    → set (sets text at (spaced_of (x ∷ ws))) last line_feed ≡ sets text at (line_of (x ∷ ws))
unfolding spaced_of line_of
feed_last text at x [] last e = let z : last ≡ suc (suc (suc (suc at))) = omega arith in rw z (set-set (sets text at (digits_of x)) (suc (suc (suc (suc at)))) space line_feed)
feed_last text at x (y ∷ ws) last e = feed_last (sets text at (digits_of x ++ space ∷ [])) (suc (suc (suc (suc (suc at))))) y ws last (omega arith)

pub line-ended : (text table : List ℕ) (from to : ℕ) → from < to → to ≤ length table
    → {all new : List ℕ} → all ≡ sets text (5 * from) (spaced_of (slice from to table))
    → new ≡ set all (5 * to - 1) line_feed → new ≡ sets text (5 * from) (line_of (slice from to table))
line-ended text table from to h l p q =
    q ∙ rw (p, slice-cons from to table 0 h l)
    (feed_last text (5 * from) (get_or table from 0) (slice (suc from) to table) (5 * to - 1) (omega (arith, length-slice (suc from) to table l)))

-- words of a frame that has begun, and the frames behind them
rest_lines : (d n : ℕ) (xs : List ℕ) (ys : List ℕ) → length xs ≡ n → lines_from d n (xs ++ ys) ≡ line_of xs ++ lines_from d 0 ys
unfolding lines_from line_of
rest_lines d zero [] ys h = refl
rest_lines d (suc n) [] ys h = absurd (omega arith)
rest_lines d zero (x ∷ xs) ys h = absurd (omega arith)
rest_lines d (suc n) (x ∷ xs) ys h = let e : length xs ≡ n = omega arith in rw (e, rest_lines d n xs ys e)

-- the words of a frame after HEAD, d being known: a kind from 1 to 8, and the kind's number of words
pub record FrameWords (d : ℕ) (ws : List ℕ) : Type 0 where
  pub least : 1 ≤ nth ws 0
  pub most : nth ws 0 ≤ 8
  pub count : length ws ≡ suc (words d (kind_of (nth ws 0)))

-- the line of a frame, and the lines of those behind it
pub line_first : (d : ℕ) (ws more : List ℕ) → length ws ≡ suc (words d (kind_of (nth ws 0))) → lines_from d 0 (ws ++ more) ≡ line_of ws ++ lines_from d 0 more
unfolding lines_from line_of
line_first d [] more h = absurd (omega arith)
line_first d (x ∷ ws) more h = let e : length ws ≡ words d (kind_of x) = omega arith in rw (e, rest_lines d (words d (kind_of x)) ws more e)

-- HEAD's line, and the lines behind it
pub head_first : (d : ℕ) (more : List ℕ) → text_of (0 ∷ d ∷ more) ≡ line_of (0 ∷ d ∷ []) ++ lines_from d 0 more
unfolding text_of kind_of shape
head_first d more = line_first d (0 ∷ d ∷ []) more refl
