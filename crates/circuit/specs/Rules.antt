-- Document 01, "Where each refusal is met": rules 1 to 14, in the order of its table, with document 02's rule 22 behind 11.
use Rattle.std.specs.Prelude.{Bool, true, false, ◌&&◌, List, [], ◌∷◌, ℕ, zero, suc, ◌+◌, leb, ltb, eqb, length, take, drop}
use Rattle.circuit.specs.Limits.{table_limit, wire_limit, notes_room, stage_limit, fewest_shares, most_shares}
use Rattle.circuit.specs.Lists.{nth}
use Rattle.circuit.specs.Kinds.{kind_of, WordRule, share_count, label, value, stage, random, like, share, before, registered, shape, words}
use Rattle.circuit.specs.Circuit.{Circuit, size, empty, look_up, is_named, label_shown, stage_shown, is_registered, new_stage, extend}

-- nothing is broken; or the number of the first rule broken, the frame and the word
pub data Judgement : Type 0 where
  pass : Judgement
  refuse : (rule frame word : ℕ) → Judgement

-- a test that refuses where it fails
abbrev pub need : Bool → (rule frame word : ℕ) → Judgement
need true rule frame word = pass
need false rule frame word = refuse rule frame word

-- one judgement, and where nothing is broken the next
infixr 20 ◌then◌
abbrev pub ◌then◌ : Judgement → Judgement → Judgement
pass then j = j
refuse rule frame word then j = refuse rule frame word

-- a frame of number f on the circuit k, with these words after its kind
module _ (k : Circuit) (f : ℕ) (ops : List ℕ) where
  -- the word x, of number w on the frame, where a wire is asked for: made, not inner, and of the right label and stage
  abbrev pub wire_rule : (label_right stage_right : Bool) → (w x : ℕ) → Judgement
  wire_rule label_right stage_right w x = need (ltb x (size k)) 8 f w
      then need (is_named (look_up k x)) 9 f w
      then need label_right 10 f w
      then need stage_right 11 f w

  abbrev label_at : ℕ → ℕ
  label_at x = label_shown (look_up k x)

  abbrev stage_at : ℕ → ℕ
  stage_at x = stage_shown (look_up k x)

  -- a wire with the label i, at the stage of the wire at place p of the frame
  abbrev share_rule : (i p w x : ℕ) → Judgement
  share_rule i p w x = wire_rule (eqb (label_at x) i) (eqb (stage_at x) (stage_at (nth ops p))) w x

  -- a word by its rule
  abbrev pub word_rule : WordRule → (w x : ℕ) → Judgement
  word_rule share_count w x = need (leb fewest_shares x && leb x most_shares) 4 f w
  word_rule label w x = need (ltb x k.d) 7 f w
  word_rule value w x = need (leb x 1) 7 f w
  word_rule stage w x = need (leb x stage_limit) 7 f w
  word_rule random w x = need (eqb x k.randoms) 12 f w
  word_rule (like p) w x = share_rule (label_at (nth ops p)) p w x
  word_rule (share i p) w x = share_rule i p w x
  word_rule (before i p) w x = wire_rule (eqb (label_at x) i) (eqb (suc (stage_at x)) (stage_at (nth ops p))) w x
  word_rule (registered i p) w x = share_rule i p w x then need (is_registered (look_up k x)) 22 f w

  -- word by word, from the number w on
  unfoldable pub words_rule : ℕ → List WordRule → List ℕ → Judgement
  words_rule w [] xs = pass
  words_rule w (r ∷ rs) [] = pass
  words_rule w (r ∷ rs) (x ∷ xs) = word_rule r w x then words_rule (suc w) rs xs

-- the frame of number f that a kind word begins, `rest` being the table after that word
unfoldable pub frame_rule : Circuit → ℕ → ℕ → List ℕ → Judgement
frame_rule k f word rest =
    let kind = kind_of word in
    let ops = take (words k.d kind) rest in
    need (leb 1 word && leb word 8) 5 f 0
    then need (leb (words k.d kind) (length rest)) 6 f 0
    then words_rule k f ops 1 (shape k.d kind).rules ops
    then need (leb (new_stage k ops kind) stage_limit) 13 f 0
    then need (leb (size k + (shape k.d kind).wires) wire_limit) 14 f 0

-- the circuit of the frames before the first refusal, or of all; and the judgement
pub record Checked : Type 0 where
  pub circuit : Circuit
  pub judgement : Judgement

-- go on where nothing is broken; otherwise stay at the circuit so far
abbrev pub onward : Judgement → Circuit → Checked → Checked
onward pass k rest = rest
onward (refuse rule frame word) k rest = record { circuit = k; judgement = refuse rule frame word }

-- the frames of a table from frame f on. A frame is judged at its kind word; `passed` words of it are still to be passed over
unfoldable pub frames : Circuit → (f passed : ℕ) → List ℕ → Checked
frames k f passed [] = record { circuit = k; judgement = pass }
frames k f (suc n) (x ∷ rest) = frames k f n rest
frames k f zero (x ∷ rest) =
    let n = words k.d (kind_of x) in
    let further = frames (extend k (take n rest) (kind_of x)) (suc f) n rest in
    onward (frame_rule k f x rest) k further

-- the table with its HEAD, and notes of so many words
unfoldable pub head_rule : List ℕ → ℕ → Judgement
head_rule table room = need (leb (length table) table_limit) 1 0 0
    then need (leb notes_room room) 2 0 0
    then need (leb 2 (length table) && eqb (nth table 0) 0) 3 0 0
    then word_rule (empty 0) 0 [] share_count 1 (nth table 1)

unfoldable pub checked : List ℕ → ℕ → Checked
checked table room = onward (head_rule table room) (empty 0) (frames (empty (nth table 1)) 1 0 (drop 2 table))
