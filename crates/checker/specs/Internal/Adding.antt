-- A frame judged by its words, then by rules 13 and 14, and added to the circuit so far.
use Rattle.std.specs.Prelude.{◌≡◌, Bool, true, false, cond, ◌&&◌, Result, Ok, Err, List, [], ◌∷◌, ℕ, suc, ◌+◌, ◌*◌, ◌-◌, ◌≤◌, leb, ltb, eqb, length, take, drop}
use Rattle.std.proofs.lemmas.List.Edits.{sets}
use Rattle.circuit.specs.Limits.{table_limit, notes_room, fewest_shares, most_shares, stage_limit, wire_limit}
use Rattle.circuit.specs.Lists.{nth}
use Rattle.circuit.specs.Kinds.{Kind, HEAD, words}
use Rattle.circuit.specs.Circuit.{Circuit, size}
use Rattle.circuit.specs.Refusals.{refusal}
use Rattle.circuit.specs.declared.rules.Refusal.{Refusal}
use Rattle.circuit.specs.declared.rules.Rule.{Rule}
use Rattle.circuit.specs.declared.rules.Rule.TheVariants as rule
use Rattle.frames.specs.declared.kinds.Form.{Form}
use Rattle.frames.specs.declared.kinds.Form.TheVariants.{ShareCount, Stage, Constant, Sum, Copy, Product, Refresh, Row}
use Rattle.frames.specs.declared.kinds.Shape.{Shape as ShapeCode}
use Rattle.frames.specs.Walk.{shape_code}
use Rattle.checker.specs.declared.notes.Named.{Named}
use Rattle.checker.specs.declared.notes.Wanted.{Wanted}
use Rattle.checker.specs.declared.notes.Made.{Made}
use Rattle.checker.specs.declared.forms.Spot.{Spot}
use Rattle.checker.specs.declared.Accepted.{Accepted}
use Rattle.checker.specs.declared.span.Span.{Span}
use Rattle.checker.specs.declared.frame.Tally.{Tally}
use Rattle.checker.specs.Internal.Notes.{Room, noted, label_found, stage_found, ask, wanted, wire_asked, made_words}
use Rattle.checker.specs.Internal.Spans.{no_span, span_of, span_in, latency_in}

-- a rule at a word of a frame; what a word breaks; and the first that is broken of two parts of a frame
abbrev pub spot : (rule : Rule) (word : ℕ) → Spot
spot rule word = record { rule = rule; word = word }

abbrev pub at_word : ℕ → Result (Unit {0}) Rule → Result (Unit {0}) Spot
at_word word (Ok u) = Ok tt
at_word word (Err rule) = Err (spot rule word)

infixr 20 ◌and_then◌
abbrev pub ◌and_then◌ : Result (Unit {0}) Spot → Result (Unit {0}) Spot → Result (Unit {0}) Spot
Ok u and_then next = next
Err s and_then next = Err s

-- what is asked of a word: a stage, a label, a value, the first random
abbrev pub stage_asked : ℕ → Result (Unit {0}) Rule
stage_asked x = ask (leb x stage_limit) rule.Range

abbrev pub label_asked : (d x : ℕ) → Result (Unit {0}) Rule
label_asked d x = ask (ltb x d) rule.Range

abbrev pub value_asked : ℕ → Result (Unit {0}) Rule
value_asked x = ask (leb x 1) rule.Range

abbrev pub random_asked : (used x : ℕ) → Result (Unit {0}) Rule
random_asked used x = ask (eqb x used) rule.FirstRandom

-- a wire like another
abbrev pub like_asked : (other own : Result Named Rule) → Result (Unit {0}) Rule
like_asked other own = wire_asked own (label_found other) (wanted (stage_found other) 0 false)

-- what wires in a row break, from a word and a label on
unfoldable pub row_broken : (look : ℕ → Result Named Rule) → Wanted → (word label : ℕ) → List ℕ → Result (Unit {0}) Spot
row_broken look want w i [] = Ok tt
row_broken look want w i (x ∷ xs) = at_word w (wire_asked (look x) i want) and_then row_broken look want (suc w) (suc i) xs

-- what the words of a form break
module _ (d used : ℕ) (look : ℕ → Result Named Rule) (ops : List ℕ) where
  abbrev pub stage_at : ℕ → ℕ
  stage_at place = stage_found (look (nth ops place))

  abbrev pub product_broken : Result (Unit {0}) Spot
  product_broken = at_word 1 (random_asked used (nth ops 0))
      and_then row_broken look (wanted (stage_at 1) 0 false) 2 0 (take d (drop 1 ops)) and_then row_broken look (wanted (stage_at 1) 1 false) (2 + d) 0 (drop d (drop 1 ops))

  abbrev pub refresh_broken : Result (Unit {0}) Spot
  refresh_broken = at_word 1 (random_asked used (nth ops 0)) and_then row_broken look (wanted (stage_at 1) 0 false) 2 0 (drop 1 ops)

  abbrev pub broken_in : Form → Result (Unit {0}) Spot
  broken_in ShareCount = Ok tt
  broken_in Stage = at_word 1 (stage_asked (nth ops 0))
  broken_in Constant = at_word 1 (label_asked d (nth ops 0)) and_then at_word 2 (value_asked (nth ops 1)) and_then at_word 3 (stage_asked (nth ops 2))
  broken_in Sum = at_word 1 (like_asked (look (nth ops 0)) (look (nth ops 0))) and_then at_word 2 (like_asked (look (nth ops 0)) (look (nth ops 1)))
  broken_in (Copy after) = at_word 1 (like_asked (look (nth ops 0)) (look (nth ops 0)))
  broken_in Product = product_broken
  broken_in Refresh = refresh_broken
  broken_in Row = row_broken look (wanted (stage_at 0) 0 true) 1 0 ops

-- the wires that a form makes: of a row, none, but its stage counts
abbrev pub wires_at : (named label stage : ℕ) (registered : Bool) → Made
wires_at n l t registered = record { inner = 0; named = n; label = l; stage = t; registered = registered }

abbrev pub gadget_after : (inner d stage : ℕ) (registered : Bool) → Made
gadget_after n d t registered = record { inner = n; named = d; label = 0; stage = t + 1; registered = registered }

abbrev pub made_in : Form → (d inner : ℕ) (look : ℕ → Result Named Rule) (ops : List ℕ) → Made
made_in ShareCount d n look ops = wires_at 0 0 0 false
made_in Stage d n look ops = wires_at d 0 (nth ops 0) true
made_in Constant d n look ops = wires_at 1 (nth ops 0) (nth ops 2) true
made_in Sum d n look ops = wires_at 1 (label_found (look (nth ops 0))) (stage_found (look (nth ops 0))) false
made_in (Copy after) d n look ops = wires_at 1 (label_found (look (nth ops 0))) (stage_found (look (nth ops 0)) + after) (eqb after 1)
made_in Product d n look ops = gadget_after n d (stage_found (look (nth ops 1))) false
made_in Refresh d n look ops = gadget_after n d (stage_found (look (nth ops 1))) true
made_in Row d n look ops = wires_at 0 0 (stage_found (look (nth ops 0))) false

-- rules 13 and 14 of new wires behind so many; the notes with them, where no rule is broken
abbrev pub limit_broken : Made → (wires : ℕ) → Result (Unit {0}) Spot
limit_broken m wires = at_word 0 (ask (leb m.stage stage_limit) rule.LastStage) and_then at_word 0 (ask (leb (wires + (m.inner + m.named)) wire_limit) rule.WireCount)

abbrev pub notes_with : Result (Unit {0}) Spot → Made → (wires : ℕ) → List ℕ → List ℕ
notes_with (Ok u) m wires notes = sets notes (2 * wires) (made_words m)
notes_with (Err s) m wires notes = notes

-- judged by words that break this, and written where nothing is broken
pub record Judges (words : Result (Unit {0}) Spot) (m : Made) (wires : ℕ) (old new : List ℕ) (r : Result (Unit {0}) Spot) : Type 0 where
  pub spot_is : r ≡ (words and_then limit_broken m wires)
  pub notes_are : new ≡ notes_with r m wires old

-- the circuit so far as the code counts it
abbrev pub tally_of : (frames : ℕ) → Circuit → Tally
tally_of f k = record { frames = f; wires = size k; randoms = k.randoms; span = span_of k.frames; inputs = k.inputs }

-- the counts of HEAD by itself
abbrev pub head_alone : Tally
head_alone = record { frames = 1; wires = 0; randoms = 0; span = no_span; inputs = 0 }

-- what a frame adds to the counts: wires, random bits, INs
pub record Numbers : Type 0 where
  pub wires : ℕ
  pub randoms : ℕ
  pub inputs : ℕ

abbrev pub numbers : (wires randoms inputs : ℕ) → Numbers
numbers w r i = record { wires = w; randoms = r; inputs = i }

abbrev pub numbers_of : ShapeCode → Numbers
numbers_of sh = numbers sh.wires sh.randoms sh.inputs

abbrev pub with_frame : Tally → Numbers → Span → Tally
with_frame tally n span = record {
  frames = tally.frames + 1;
  wires = tally.wires + n.wires;
  randoms = tally.randoms + n.randoms;
  span = span;
  inputs = tally.inputs + n.inputs;
}

abbrev pub added_by : Result (Unit {0}) Spot → Tally → Numbers → Span → Result Tally Spot
added_by (Ok u) tally n span = Ok (with_frame tally n span)
added_by (Err s) tally n span = Err s

-- counts to which a frame may be added, and counts that the frame leaves within bounds
pub record Bounded (tally : Tally) (notes : List ℕ) : Type 0 where
  pub room : Room tally.wires notes
  pub randoms : tally.randoms ≤ tally.wires
  pub frames : tally.frames ≤ table_limit
  pub inputs : tally.inputs ≤ tally.frames

pub record Fitting (tally : Tally) (n : Numbers) : Type 0 where
  pub wires : tally.wires + n.wires ≤ wire_limit
  pub randoms : tally.randoms + n.randoms ≤ wire_limit
  pub frames : tally.frames ≤ table_limit
  pub inputs : tally.inputs + n.inputs ≤ table_limit + 1

-- the shape and the words are those of one kind, not of HEAD, on so many shares
pub record FrameOf (sh : ShapeCode) (d : ℕ) (ops : List ℕ) : Type 0 where
  pub kind : Kind
  pub later : kind ≡ HEAD → ⊥
  pub whole : length ops ≡ words d kind
  pub shape_is : sh ≡ shape_code d kind
  pub least : fewest_shares ≤ d
  pub most : d ≤ most_shares

-- a frame added, or refused at a spot; its wires are in the notes where it is added
module _ (tally : Tally) (sh : ShapeCode) (d : ℕ) (ops old : List ℕ) where
  abbrev pub made_new : Made
  made_new = made_in sh.form d (sh.wires - d) (noted old tally.wires) ops

  abbrev pub broken : Result (Unit {0}) Spot
  broken = broken_in d tally.randoms (noted old tally.wires) ops sh.form and_then limit_broken made_new tally.wires

  pub record Adds (new : List ℕ) (r : Result Tally Spot) : Type 0 where
    pub added_is : r ≡ added_by broken tally (numbers_of sh) (span_in sh.form tally.span made_new.stage)
    pub notes_are : new ≡ notes_with broken made_new tally.wires old

-- what a table that keeps rules 1 to 4 and a number of words of notes answer, or the first of them that is broken
abbrev pub head_answer : List ℕ → ℕ → Result (Unit {0}) Refusal
head_answer table room = cond (leb (length table) table_limit)
    (cond (leb notes_room room)
    (cond (leb 2 (length table) && eqb (nth table 0) 0)
    (cond (leb fewest_shares (nth table 1) && leb (nth table 1) most_shares) (Ok tt) (Err (refusal rule.ShareCount 0 1)))
    (Err (refusal rule.Head 0 0)))
    (Err (refusal rule.NotesLength 0 0)))
    (Err (refusal rule.TableLength 0 0))

-- the answer that accepts, from the counts
abbrev pub accepted_by : Tally → Accepted
accepted_by t = record { wires = t.wires; randoms = t.randoms; latency = latency_in t.span; inputs = t.inputs }
