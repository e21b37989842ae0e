-- Whatever text the reader accepts as a table is that table's text.
use mathlib.Core.Path.{◌≡◌, refl, sym, ap, ap₂, subst, ◌∙◌}
use mathlib.Core.Bool.{true, ◌&&◌, false≢true}
use mathlib.Core.List.{List, [], ◌∷◌, ◌++◌}
use Prim.Native.Nat.{ℕ}
use lib.Dec.{eqb}
use lib.ListN.{length}
use borrow.Author.Tests.{eqb-true}
use Rattle.circuit.specs.Lists.{concat_map}
use Rattle.circuit.proofs.Base.{cases, and_left, and_right, Every, every_imp}
use Rattle.text.specs.Lines.{line_feed, space, are_digits, Line, line, grow, lines_of, are_words, words_on}
use Rattle.text.specs.Reader.{Read, words_of}
use Rattle.text.proofs.Accepted.{FrameLine, AcceptedText, text_accepted}
use Rattle.writer.specs.Writer.{mark_behind, lines_from, text_of, OnlyText}
use Rattle.writer.specs.Internal.Line.{line_of}
use Rattle.writer.proofs.Digits.{digits_back}
use Rattle.writer.proofs.Lines.{line_first, head_first}

-- bytes of the form have a word
has_word : (bytes : List ℕ) → are_words bytes ≡ true → mark_behind (length (words_on bytes)) ≡ space
unfolding are_words words_on
has_word [] h = absurd (false≢true h)
has_word (a ∷ []) h = absurd (false≢true h)
has_word (a ∷ b ∷ []) h = absurd (false≢true h)
has_word (a ∷ b ∷ c ∷ []) h = absurd (false≢true h)
has_word (a ∷ b ∷ c ∷ e ∷ []) h = refl
has_word (a ∷ b ∷ c ∷ e ∷ s ∷ rest) h = refl

-- bytes of the form, with a line feed behind them, are the line of their words
form_told : (bytes : List ℕ) → are_words bytes ≡ true → line_of (words_on bytes) ≡ bytes ++ line_feed ∷ []
unfolding are_words words_on line_of
form_told [] h = absurd (false≢true h)
form_told (a ∷ []) h = absurd (false≢true h)
form_told (a ∷ b ∷ []) h = absurd (false≢true h)
form_told (a ∷ b ∷ c ∷ []) h = absurd (false≢true h)
form_told (a ∷ b ∷ c ∷ e ∷ []) h = ap (λ (ds : List ℕ). ds ++ line_feed ∷ []) (digits_back a b c e h)
form_told (a ∷ b ∷ c ∷ e ∷ s ∷ rest) h =
    let front = and_left (are_digits a b c e && eqb s space) (are_words rest) h in
    let more = and_right (are_digits a b c e && eqb s space) (are_words rest) h in
    let mark = has_word rest more ∙ sym (eqb-true s space (and_right (are_digits a b c e) (eqb s space) front)) in
    ap (λ (ds : List ℕ). ds ++ mark_behind (length (words_on rest)) ∷ line_of (words_on rest))
    (digits_back a b c e (and_left (are_digits a b c e) (eqb s space) front))
    ∙ ap₂ (λ (m : ℕ) (bs : List ℕ). a ∷ b ∷ c ∷ e ∷ m ∷ bs) mark (form_told rest more)

-- a line's bytes, with its line feed
abbrev bytes_of : Line → List ℕ
bytes_of l = l.content ++ line_feed ∷ []

-- a text whose lines all end is those lines' bytes
grown : (b : ℕ) (ls : List Line) → Every (λ l. l.ended ≡ true) (grow b ls) → Every (λ l. l.ended ≡ true) ls × (concat_map (grow b ls) bytes_of ≡ b ∷ concat_map ls bytes_of)
grown b [] h = absurd (false≢true h.0)
grown b (l ∷ ls) h = (h, refl)

lines_told : (text : List ℕ) → Every (λ l. l.ended ≡ true) (lines_of text) → concat_map (lines_of text) bytes_of ≡ text
unfolding lines_of
lines_told [] h = refl
lines_told (b ∷ bs) h = cases (eqb b line_feed)
    (λ e. let k : Every (λ l. l.ended ≡ true) (line [] true ∷ lines_of bs) = rw e at h in rw e (ap₂ ◌∷◌ (sym (eqb-true b line_feed e)) (lines_told bs k.1)))
    (λ e. let k : Every (λ l. l.ended ≡ true) (grow b (lines_of bs)) = rw e at h in
    let g = grown b (lines_of bs) k in
    rw e (g.1 ∙ ap (λ (t : List ℕ). b ∷ t) (lines_told bs g.0)))

-- lines that are frames: their text is that of their words
frames-told : (d : ℕ) (ls : List Line) → Every (FrameLine d) ls → lines_from d 0 (concat_map ls words_of) ≡ concat_map ls bytes_of
unfolding lines_from
frames-told d [] h = refl
frames-told d (l ∷ ls) h =
    line_first d (words_of l) (concat_map ls words_of) h.0.count ∙ ap₂ ◌++◌ (form_told l.content h.0.form.words) (frames-told d ls h.1)

accepted-told : {text table : List ℕ} → AcceptedText text table → text ≡ text_of table
accepted-told {text} {table} a =
    let rest = concat_map a.later words_of in
    let words : table ≡ 0 ∷ a.d ∷ rest
    = a.exact ∙ ap (λ (ls : List Line). concat_map ls words_of) a.lines ∙ ap (λ (ws : List ℕ). ws ++ rest) a.head in
    let ends : Every (λ (l : Line). l.ended ≡ true) (lines_of text)
    = rw a.lines (a.form.ended, every_imp (FrameLine a.d) (λ (l : Line). l.ended ≡ true) a.later (λ l h. h.form.ended) a.frames) in
    let first : line_of (0 ∷ a.d ∷ []) ≡ bytes_of a.first = ap line_of (sym a.head) ∙ form_told a.first.content a.form.words in
    sym (ap text_of words ∙ head_first a.d rest ∙ ap₂ ◌++◌ first (frames-told a.d a.later a.frames)
    ∙ ap (λ (ls : List Line). concat_map ls bytes_of) (sym a.lines) ∙ lines_told text ends)

pub only_text : (table : List ℕ) → OnlyText table
only_text table text room e =
    accepted-told (subst (λ (r : Read). AcceptedText text r.found) e (text_accepted text room (ap (λ (r : Read). r.judgement) e)))
