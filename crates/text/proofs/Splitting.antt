-- The first line of some bytes: what it holds, what comes after it, and what counting its words tells of it.
use mathlib.Core.Path.{◌≡◌, refl, ap, ◌∙◌}
use mathlib.Core.Bool.{Bool, true, false, cond, ◌&&◌, false≢true}
use mathlib.Core.List.{List, [], ◌∷◌}
use Prim.Native.Nat.{ℕ, suc, ◌+◌, ◌*◌, ◌≤◌, ◌<◌}
use native.Mathlib.Omega.{arith}
use lib.Dec.{eqb}
use lib.ListN.{length, drop}
use borrow.Author.Tests.{eqb-true, ne_eqb}
use Rattle.circuit.proofs.Base.{cases, and_left, and_right}
use Rattle.text.specs.Lines.{line_feed, space, is_digit, are_digits, word, Line, line, grow, lines_of, are_words, words_on}
use Rattle.text.specs.Internal.Scan.{value_in, count_from, words_at}

pub first_line : List ℕ → Line
first_line [] = line [] false
first_line (b ∷ bs) = cond (eqb b line_feed) (line [] true) (line (b ∷ (first_line bs).content) (first_line bs).ended)

pub after_line : List ℕ → List ℕ
after_line [] = []
after_line (b ∷ bs) = cond (eqb b line_feed) bs (after_line bs)

pub lines_split : (b : ℕ) (bs : List ℕ) → lines_of (b ∷ bs) ≡ first_line (b ∷ bs) ∷ lines_of (after_line (b ∷ bs))
unfolding lines_of first_line after_line
lines_split b [] = cases (eqb b line_feed) (λ e. rw e) (λ e. rw e)
lines_split b (b' ∷ bs) = cases (eqb b line_feed) (λ e. rw e) (λ e. rw e (ap (grow b) (lines_split b' bs)))

-- whether the first line is of the form
abbrev pub good : List ℕ → Bool
good bs = (first_line bs).ended && are_words (first_line bs).content

-- a line that ends leaves its line feed out
ended_shorter : (bs : List ℕ) → (first_line bs).ended ≡ true → length (first_line bs).content < length bs
unfolding first_line
ended_shorter [] h = absurd (false≢true h)
ended_shorter (b ∷ bs) h = cases (eqb b line_feed) (λ e. rw e (omega arith))
    (λ e. let k : (first_line bs).ended ≡ true = rw e at h in rw e (omega (arith, ended_shorter bs k)))

short_no_words : (bs : List ℕ) → length bs < 4 → are_words bs ≡ false
unfolding are_words
short_no_words [] h = refl
short_no_words (a ∷ []) h = refl
short_no_words (a ∷ b ∷ []) h = refl
short_no_words (a ∷ b ∷ c ∷ []) h = refl
short_no_words (a ∷ b ∷ c ∷ e ∷ []) h = absurd (omega arith)
short_no_words (a ∷ b ∷ c ∷ e ∷ s ∷ rest) h = absurd (omega arith)

short_bad : (bs : List ℕ) → length bs < 5 → good bs ≡ false
short_bad bs h = cases (first_line bs).ended
    (λ e. rw (e, short_no_words (first_line bs).content (omega (arith, ended_shorter bs e)))) (λ e. rw e)

-- bytes that are not four digits begin no line of the form
no_digits : (a b c e : ℕ) (xs : List ℕ) → are_digits a b c e ≡ false → are_words (a ∷ b ∷ c ∷ e ∷ xs) ≡ false
unfolding are_words
no_digits a b c e [] h = h
no_digits a b c e (s ∷ xs) h = rw h

bad_word : (a b c e : ℕ) (bs : List ℕ) → are_digits a b c e ≡ false → good (a ∷ b ∷ c ∷ e ∷ bs) ≡ false
unfolding are_words first_line
bad_word a b c e bs h = cases (eqb a line_feed) (λ p. rw p)
    (λ p. cases (eqb b line_feed) (λ q. rw (p, q))
    (λ q. cases (eqb c line_feed) (λ r. rw (p, q, r))
    (λ r. cases (eqb e line_feed) (λ s. rw (p, q, r, s))
    (λ s. rw (p, q, r, s) (cases (first_line bs).ended
    (λ t. rw (t, no_digits a b c e (first_line bs).content h)) (λ t. rw t))))))

digit_no_feed : (b : ℕ) → is_digit b ≡ true → eqb b line_feed ≡ false
digit_no_feed b h = ne_eqb b line_feed (λ e. let k : false ≡ true = rw e at h in false≢true k)

-- four digits, and what they are in front of
module _ (a b c e : ℕ) (bs : List ℕ) (h : are_digits a b c e ≡ true) where
  plain : (eqb a line_feed ≡ false) × (eqb b line_feed ≡ false) × (eqb c line_feed ≡ false) × (eqb e line_feed ≡ false)
  plain =
      let k = and_left (is_digit a && is_digit b && is_digit c) (is_digit e) h in
      let l = and_left (is_digit a && is_digit b) (is_digit c) k in (
        digit_no_feed a (and_left (is_digit a) (is_digit b) l),
        digit_no_feed b (and_right (is_digit a) (is_digit b) l),
        digit_no_feed c (and_right (is_digit a && is_digit b) (is_digit c) k),
        digit_no_feed e (and_right (is_digit a && is_digit b && is_digit c) (is_digit e) h),
      )

  word_first : first_line (a ∷ b ∷ c ∷ e ∷ bs) ≡ line (a ∷ b ∷ c ∷ e ∷ (first_line bs).content) (first_line bs).ended
  unfolding first_line
  word_first = rw (plain.0, plain.1, plain.2, plain.3)

  word_after : after_line (a ∷ b ∷ c ∷ e ∷ bs) ≡ after_line bs
  unfolding after_line
  word_after = rw (plain.0, plain.1, plain.2, plain.3)

-- what the count k of the words of the first line, its first being the n-th, tells
pub data Counted (n : ℕ) (bs : List ℕ) (k : ℕ) : Type 0 where
  unformed : k ≡ 0 → good bs ≡ false → Counted n bs k
  formed : (m : ℕ) → k ≡ n + m → good bs ≡ true → words_on (first_line bs).content ≡ words_at (suc m) bs
      → after_line bs ≡ drop (5 * suc m) bs → 5 * suc m ≤ length bs → Counted n bs k

-- a line of one word
last_word : (n a b c e : ℕ) (rest : List ℕ) → are_digits a b c e ≡ true → Counted n (a ∷ b ∷ c ∷ e ∷ line_feed ∷ rest) n
unfolding first_line after_line are_words words_on words_at value_in
last_word n a b c e rest h =
    let f = word_first a b c e (line_feed ∷ rest) h in
    formed 0 (omega arith) (rw (f, h)) (rw f) (word_after a b c e (line_feed ∷ rest) h) (omega arith)

-- a word in front of a line
more_words : (n a b c e : ℕ) (rest : List ℕ) (k : ℕ) → are_digits a b c e ≡ true → Counted (suc n) rest k → Counted n (a ∷ b ∷ c ∷ e ∷ space ∷ rest) k
unfolding first_line after_line are_words words_on words_at value_in
more_words n a b c e rest k h (unformed z g) =
    unformed z (rw (word_first a b c e (space ∷ rest) h, h) g)
more_words n a b c e rest k h (formed m z g w t l) =
    let f = word_first a b c e (space ∷ rest) h in
    let u : 5 * suc (suc m) ≡ suc (suc (suc (suc (suc (5 * suc m))))) = omega arith in
    formed (suc m) (omega arith) (rw (f, h) g) (rw f (ap (λ (ws : List ℕ). word a b c e ∷ ws) w))
    (word_after a b c e (space ∷ rest) h ∙ rw u t) (omega arith)

-- a word with another byte behind it
bad_mark : (a b c e s : ℕ) (rest : List ℕ) → are_digits a b c e ≡ true → eqb s line_feed ≡ false → eqb s space ≡ false → good (a ∷ b ∷ c ∷ e ∷ s ∷ rest) ≡ false
unfolding first_line are_words
bad_mark a b c e s rest h p q = rw (word_first a b c e (s ∷ rest) h, p) (cases (first_line rest).ended (λ t. rw (t, h, q)) (λ t. rw t))

pub counted : (n : ℕ) (bs : List ℕ) → Counted n bs (count_from n bs)
unfolding count_from
counted n [] = unformed refl (short_bad [] (omega arith))
counted n (a ∷ []) = unformed refl (short_bad (a ∷ []) (omega arith))
counted n (a ∷ b ∷ []) = unformed refl (short_bad (a ∷ b ∷ []) (omega arith))
counted n (a ∷ b ∷ c ∷ []) = unformed refl (short_bad (a ∷ b ∷ c ∷ []) (omega arith))
counted n (a ∷ b ∷ c ∷ e ∷ []) = unformed refl (short_bad (a ∷ b ∷ c ∷ e ∷ []) (omega arith))
counted n (a ∷ b ∷ c ∷ e ∷ s ∷ rest) = cases (are_digits a b c e)
    (λ h. cases (eqb s line_feed)
    (λ p. rw (h, p) (rw (eqb-true s line_feed p) (last_word n a b c e rest h)))
    (λ p. cases (eqb s space)
    (λ q. rw (h, p, q) (rw (eqb-true s space q) (more_words n a b c e rest (count_from (suc n) rest) h (counted (suc n) rest))))
    (λ q. rw (h, p, q) (unformed refl (bad_mark a b c e s rest h p q)))))
    (λ h. rw h (unformed refl (bad_word a b c e (s ∷ rest) h)))

-- a line of the form has its first word
pub count-least : (n : ℕ) (bs : List ℕ) → count_from n bs < n → count_from n bs ≡ 0
count-least n bs h = least (count_from n bs) (counted n bs) h where
  least : (k : ℕ) → Counted n bs k → k < n → k ≡ 0
  least k (unformed z g) l = z
  least k (formed m z g w t f) l = absurd (omega arith)
