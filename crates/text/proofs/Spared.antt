-- A text that the reader accepts gives a table that breaks none of the checker's rules 1 and 3 to 6: where the notes have
-- room, the checker accepts it or refuses it by one of 7 to 14.
use mathlib.Core.Path.{◌≡◌, refl, sym, ap, subst, ◌∙◌}
use mathlib.Core.Bool.{Bool, true, false}
use mathlib.Core.List.{List, [], ◌∷◌, ◌++◌}
use Prim.Native.Nat.{ℕ, suc, ◌+◌, ◌≤◌}
use native.Mathlib.Omega.{arith}
use lib.Dec.{leb, ltb, eqb}
use lib.ListN.{length, take, length-append}
use borrow.Author.Tests.{le-leb}
use Rattle.circuit.specs.Limits.{table_limit, notes_room, stage_limit, wire_limit}
use Rattle.circuit.specs.Lists.{nth, concat_map}
use Rattle.circuit.specs.Gadgets.{labels}
use Rattle.circuit.specs.Kinds.{Kind, HEAD, IN, CON, XOR, NOT, REG, AND, REF, OUT, kind_of, WordRule, share_count, label, value, stage, random, like, share, before, registered, row, shape, words}
use Rattle.circuit.specs.Circuit.{Circuit, size, empty, label_shown, stage_shown, is_registered, new_stage, extend, look_up, is_named}
use Rattle.circuit.specs.Rules.{Judgement, pass, refuse, need, ◌then◌, wire_rule, word_rule, words_rule, frame_rule, Checked, onward, frames, head_rule, checked}
use Rattle.circuit.specs.Composition.{kind_word}
use Rattle.circuit.proofs.Base.{Every, every_map, every_append}
use Rattle.circuit.proofs.Fitting.{known}
use Rattle.text.specs.Lines.{Line}
use Rattle.text.specs.Reader.{words_of, read_text}
use Rattle.text.proofs.Accepted.{FrameLine, text_accepted}

-- nothing is broken, or a rule past 6
abbrev pub PastSix : Judgement → Type 0
PastSix pass = Unit {0}
PastSix (refuse rule frame word) = 7 ≤ rule

past_need : (b : Bool) (rule f w : ℕ) → 7 ≤ rule → PastSix (need b rule f w)
past_need true rule f w h = tt
past_need false rule f w h = h

past_then : (i j : Judgement) → PastSix i → PastSix j → PastSix (i then j)
past_then pass j p q = q
past_then (refuse rule f w) j p q = p

past_onward : (j : Judgement) (k : Circuit) (rest : Checked) → PastSix j → PastSix rest.judgement → PastSix (onward j k rest).judgement
past_onward pass k rest p q = q
past_onward (refuse rule f w) k rest p q = p

-- the rule of d stands on HEAD alone
abbrev NotShareCount : WordRule → Type 0
NotShareCount share_count = ⊥
NotShareCount label = Unit {0}
NotShareCount value = Unit {0}
NotShareCount stage = Unit {0}
NotShareCount random = Unit {0}
NotShareCount (like p) = Unit {0}
NotShareCount (share i p) = Unit {0}
NotShareCount (before i p) = Unit {0}
NotShareCount (registered i p) = Unit {0}

row-not : (rule : ℕ → ℕ → WordRule) (place d : ℕ) → ((i : ℕ) → NotShareCount (rule i place)) → Every NotShareCount (row rule place d)
row-not rule place d h = every_map NotShareCount (λ i. rule i place) (labels d) (λ i l. h i)

no_share-count : (d : ℕ) (kind : Kind) → 1 ≤ kind_word kind → Every NotShareCount (shape d kind).rules
unfolding shape
no_share-count d HEAD h = absurd (omega arith)
no_share-count d IN h = (tt, tt)
no_share-count d CON h = (tt, (tt, (tt, tt)))
no_share-count d XOR h = (tt, (tt, tt))
no_share-count d NOT h = (tt, tt)
no_share-count d REG h = (tt, tt)
no_share-count d AND h = (tt, every_append NotShareCount (row share 1 d) (row before 1 d) (row-not share 1 d (λ i. tt)) (row-not before 1 d (λ i. tt)))
no_share-count d REF h = (tt, row-not share 1 d (λ i. tt))
no_share-count d OUT h = row-not registered 0 d (λ i. tt)

module _ (k : Circuit) (f : ℕ) (ops : List ℕ) where
  -- the label and the stage that a wire shows
  abbrev l : ℕ → ℕ
  l x = label_shown (look_up k x)

  abbrev t : ℕ → ℕ
  t x = stage_shown (look_up k x)

  past_wire : (label_right stage_right : Bool) (w x : ℕ) → PastSix (wire_rule k f ops label_right stage_right w x)
  past_wire label_right stage_right w x =
      past_then (need (ltb x (size k)) 8 f w) (need (is_named (look_up k x)) 9 f w then need label_right 10 f w then need stage_right 11 f w)
      (past_need (ltb x (size k)) 8 f w (omega arith))
      (past_then (need (is_named (look_up k x)) 9 f w) (need label_right 10 f w then need stage_right 11 f w) (past_need (is_named (look_up k x)) 9 f w (omega arith))
      (past_then (need label_right 10 f w) (need stage_right 11 f w) (past_need label_right 10 f w (omega arith)) (past_need stage_right 11 f w (omega arith))))

  past_word : (r : WordRule) (w x : ℕ) → NotShareCount r → PastSix (word_rule k f ops r w x)
  past_word share_count w x h = absurd h
  past_word label w x h = past_need (ltb x k.d) 7 f w (omega arith)
  past_word value w x h = past_need (leb x 1) 7 f w (omega arith)
  past_word stage w x h = past_need (leb x stage_limit) 7 f w (omega arith)
  past_word random w x h = past_need (eqb x k.randoms) 12 f w (omega arith)
  past_word (like p) w x h = past_wire (eqb (l x) (l (nth ops p))) (eqb (t x) (t (nth ops p))) w x
  past_word (share i p) w x h = past_wire (eqb (l x) i) (eqb (t x) (t (nth ops p))) w x
  past_word (before i p) w x h = past_wire (eqb (l x) i) (eqb (suc (t x)) (t (nth ops p))) w x
  past_word (registered i p) w x h = past_then (wire_rule k f ops (eqb (l x) i) (eqb (t x) (t (nth ops p))) w x) (need (is_registered (look_up k x)) 22 f w)
      (past_wire (eqb (l x) i) (eqb (t x) (t (nth ops p))) w x) (past_need (is_registered (look_up k x)) 22 f w (omega arith))

  past_words : (w : ℕ) (rs : List WordRule) (xs : List ℕ) → Every NotShareCount rs → PastSix (words_rule k f ops w rs xs)
  unfolding words_rule
  past_words w [] xs h = tt
  past_words w (r ∷ rs) [] h = tt
  past_words w (r ∷ rs) (x ∷ xs) h = past_then (word_rule k f ops r w x) (words_rule k f ops (suc w) rs xs) (past_word r w x h.0) (past_words (suc w) rs xs h.1)

-- a frame of a kind from 1 to 8 with all its words
past_frame : (k : Circuit) (f x : ℕ) (rest : List ℕ) → 1 ≤ x → x ≤ 8 → words k.d (kind_of x) ≤ length rest → PastSix (frame_rule k f x rest)
unfolding frame_rule
past_frame k f x rest h l n =
    let kind = kind_of x in
    let ops = take (words k.d kind) rest in
    let stage_rule = need (leb (new_stage k ops kind) stage_limit) 13 f 0 in
    let size_rule = need (leb (size k + (shape k.d kind).wires) wire_limit) 14 f 0 in
    rw (le-leb 1 x h, le-leb x 8 l, le-leb (words k.d kind) (length rest) n)
    (past_then (words_rule k f ops 1 (shape k.d kind).rules ops) (stage_rule then size_rule)
    (past_words k f ops 1 (shape k.d kind).rules ops (no_share-count k.d kind (omega (arith, known x l))))
    (past_then stage_rule size_rule (past_need (leb (new_stage k ops kind) stage_limit) 13 f 0 (omega arith))
    (past_need (leb (size k + (shape k.d kind).wires) wire_limit) 14 f 0 (omega arith))))

-- the words of a frame that is judged are passed over
passed_over : (k : Circuit) (f : ℕ) (ops rest : List ℕ) → frames k f (length ops) (ops ++ rest) ≡ frames k f 0 rest
unfolding frames
passed_over k f [] rest = refl
passed_over k f (x ∷ ops) rest = passed_over k f ops rest

past_line : (k : Circuit) (f : ℕ) (ws rest : List ℕ) → 1 ≤ nth ws 0 → nth ws 0 ≤ 8 → length ws ≡ suc (words k.d (kind_of (nth ws 0)))
    → ((k' : Circuit) → k'.d ≡ k.d → PastSix (frames k' (suc f) 0 rest).judgement) → PastSix (frames k f 0 (ws ++ rest)).judgement
unfolding frames
past_line k f [] rest h l n next = absurd (omega arith)
past_line k f (x ∷ ops) rest h l n next =
    let count = words k.d (kind_of x) in
    let k' = extend k (take count (ops ++ rest)) (kind_of x) in
    let all : count ≡ length ops = omega arith in
    let further : frames k' (suc f) count (ops ++ rest) ≡ frames k' (suc f) 0 rest
    = ap (λ (m : ℕ). frames k' (suc f) m (ops ++ rest)) all ∙ passed_over k' (suc f) ops rest in
    past_onward (frame_rule k f x (ops ++ rest)) k (frames k' (suc f) count (ops ++ rest))
    (past_frame k f x (ops ++ rest) h l (simp length-append (omega arith)))
    (subst (λ (r : Checked). PastSix r.judgement) (sym further) (next k' refl))

past_lines : (ls : List Line) (d : ℕ) → Every (FrameLine d) ls → (k : Circuit) (f : ℕ) → k.d ≡ d → PastSix (frames k f 0 (concat_map ls words_of)).judgement
unfolding frames
past_lines [] d h k f e = tt
past_lines (l ∷ ls) d h k f e =
    let g = h.0 in
    past_line k f (words_of l) (concat_map ls words_of) g.least g.most
    (g.count ∙ ap (λ (m : ℕ). suc (words m (kind_of (nth (words_of l) 0)))) (sym e))
    (λ k' e'. past_lines ls d h.1 k' (suc f) (e' ∙ e))

past_table : (d : ℕ) (rest : List ℕ) (room : ℕ) → notes_room ≤ room → 2 ≤ d → d ≤ 8 → length (0 ∷ d ∷ rest) ≤ table_limit
    → PastSix (frames (empty d) 1 0 rest).judgement → PastSix (checked (0 ∷ d ∷ rest) room).judgement
unfolding checked head_rule
past_table d rest room n least most short p =
    rw (le-leb (length (0 ∷ d ∷ rest)) table_limit short, le-leb notes_room room n, le-leb 2 (length (0 ∷ d ∷ rest)) (omega arith), le-leb 2 d least, le-leb d 8 most) p

-- the table of an accepted text, with notes of so many words
pub spared : (text : List ℕ) (room notes : ℕ) → (read_text text room).judgement ≡ pass → notes_room ≤ notes
    → PastSix (checked (read_text text room).found notes).judgement
spared text room notes h n =
    let a = text_accepted text room h in
    let rest = concat_map a.later words_of in
    let table : (read_text text room).found ≡ 0 ∷ a.d ∷ rest
    = a.exact ∙ ap (λ (ls : List Line). concat_map ls words_of) a.lines ∙ ap (λ (ws : List ℕ). ws ++ rest) a.head in
    subst (λ (t : List ℕ). PastSix (checked t notes).judgement) (sym table)
    (past_table a.d rest notes n a.least a.most (subst (λ (t : List ℕ). length t ≤ table_limit) table a.short)
    (past_lines a.later a.d a.frames (empty a.d) 1 refl))
