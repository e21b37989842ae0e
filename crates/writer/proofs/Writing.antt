-- The loop over the frames of an accepted table: what holds at its head, its turn, and its end.
use mathlib.Core.Path.{◌≡◌, refl, sym, ap, ◌∙◌}
use mathlib.Core.List.{List, [], ◌++◌}
use Prim.Native.Nat.{ℕ, ◌+◌, ◌*◌, ◌-◌, ◌≤◌}
use native.Mathlib.Omega.{arith}
use lib.ListN.{length, set, take, drop, take-append-drop}
use lib.Seq.{sets, slice, sets-eq, length-slice, length-take-le, drop-append-le, get_or-drop, get_or-take, length-sets}
use Rattle.circuit.specs.Lists.{nth, overwrite}
use Rattle.circuit.specs.Kinds.{kind_of, shape, words}
use Rattle.circuit.specs.Composition.{words_of}
use Rattle.frames.specs.declared.walk.Frame.{Frame as FrameCode}
use Rattle.frames.specs.declared.walk.Walk.{Walk}
use Rattle.frames.specs.declared.kinds.Shape.{Shape as ShapeCode}
use Rattle.gadgets.specs.Internal.Accepting.{AcceptedTable, Between}
use Rattle.gadgets.proofs.Walking.{headed, between_start, Met}
use Rattle.circuit.proofs.Base.{stores_append}
use Rattle.text.specs.Lines.{line_feed}
use Rattle.writer.specs.Writer.{lines_from, text_of}
use Rattle.writer.specs.Internal.Line.{line_of, spaced_of}
use Rattle.writer.proofs.Lines.{line-length, lines_length, line_first, line-ended}

-- a frame's words from one place of the table to another: its line is written, and the lines behind it are left
frame_turn : (text table : List ℕ) (d at to : ℕ) → to ≤ length table → to ≡ at + 1 + words d (kind_of (nth table at))
    → sets text (5 * at) (lines_from d 0 (drop at table)) ≡ sets (sets text (5 * at) (line_of (slice at to table))) (5 * to) (lines_from d 0 (drop to table))
frame_turn text table d at to l e =
    let ws = slice at to table in
    let size : length ws ≡ to - at = length-slice at to table l in
    let first : nth ws 0 ≡ nth table at = get_or-drop at (take to table) 0 0 ∙ get_or-take to table (at + 0) 0 (omega arith) ∙ ap (nth table) (omega arith) in
    let split : drop at table ≡ ws ++ drop to table
    = ap (drop at) (sym (take-append-drop to table)) ∙ drop-append-le at (take to table) (drop to table) (omega (arith, length-take-le to table l)) in
    let end : 5 * at + length (line_of ws) ≡ 5 * to = omega (arith, line-length ws) in
    ap (sets text (5 * at)) (ap (lines_from d 0) split ∙ line_first d ws (drop to table) (rw first (omega arith)))
    ∙ stores_append text (5 * at) (line_of ws) (lines_from d 0 (drop to table))
    ∙ ap (λ (n : ℕ). sets (sets text (5 * at) (line_of ws)) n (lines_from d 0 (drop to table))) end

-- at the head of the loop: the lines from a place between two frames on are left
pub record LinesTo (table text₀ text : List ℕ) (at : ℕ) : Type 0 where
  pub accepted : AcceptedTable table
  pub between : Between table accepted.fs at
  pub behind : 2 ≤ at
  pub sized : length text ≡ length text₀
  pub left : sets text₀ 10 (lines_from (nth table 1) 0 (drop 2 table)) ≡ sets text (5 * at) (lines_from (nth table 1) 0 (drop at table))

-- behind HEAD's line
pub lines_start : {table : List ℕ} (text : List ℕ) → AcceptedTable table → LinesTo table text text 2
lines_start text a = record { accepted = a; between = between_start a; behind = omega arith; sized = refl; left = refl }

-- behind a frame that the walk meets
pub lines_next : {table text₀ text : List ℕ} {at : ℕ} (h : LinesTo table text₀ text at) {w from : ℕ} {fr : FrameCode} {sh : ShapeCode} {wk : Walk}
    → Met h.accepted h.between (nth table 1) w from fr sh wk → {all new : List ℕ} → all ≡ sets text (5 * at) (spaced_of (slice at wk.at table))
    → new ≡ set all (5 * wk.at - 1) line_feed → LinesTo table text₀ new wk.at
lines_next {table} {text = text} {at = at} h {wk = wk} m p q =
    let e = line-ended text table at wk.at (omega (arith, m.later)) m.onward.most p q in
    record {
      accepted = h.accepted;
      between = m.onward;
      behind = omega (arith, m.later);
      sized = ap length e ∙ length-sets text (5 * at) (line_of (slice at wk.at table)) ∙ h.sized;
      left = h.left ∙ frame_turn text table (nth table 1) at wk.at m.onward.most m.place
          ∙ ap (λ t. sets t (5 * wk.at) (lines_from (nth table 1) 0 (drop wk.at table))) (sym e);
    }

-- behind the last frame
pub lines_done : {table text₀ text : List ℕ} {at : ℕ} (h : LinesTo table text₀ text at) → h.between.after ≡ []
    → text ≡ sets text₀ 10 (lines_from (nth table 1) 0 (drop 2 table))
unfolding lines_from
lines_done h e = let none = h.between.rest ∙ ap words_of e in sym (h.left ∙ rw none)

-- HEAD's line and those behind it
pub head_and_lines : (table text : List ℕ) → AcceptedTable table → 5 * length table ≤ length text → {all head new : List ℕ}
    → all ≡ sets text (5 * 0) (spaced_of (slice 0 2 table)) → head ≡ set all (5 * 2 - 1) line_feed → new ≡ sets head 10 (lines_from (nth table 1) 0 (drop 2 table))
    → new ≡ overwrite (text_of table) text
unfolding text_of kind_of shape
head_and_lines table text a room p q w =
    let two : 2 ≡ 0 + 1 + words (nth table 1) (kind_of (nth table 0)) = rw (ap (λ t. nth t 0) a.table_is) in
    let size = lines_length (nth table 1) 0 table in
    let start : 0 + length (text_of table) ≡ length (text_of table) = omega arith in
    let head_line = line-ended text table 0 2 (omega arith) (headed a) p q in
    w ∙ rw head_line (sym (frame_turn text table (nth table 1) 0 2 (headed a) two)) ∙ sets-eq (text_of table) text 0 (omega arith)
    ∙ ap (λ n. text_of table ++ drop n text) start
