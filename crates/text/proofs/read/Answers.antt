-- The first line is judged; where it breaks no rule, the loop starts behind it. A table's first two words do not matter to what it
-- holds once both are found.
use mathlib.Core.Path.{◌≡◌, refl, sym, ap, ◌∙◌}
use native.Mathlib.Omega.{arith}
use lib.ListN.{length, set, drop}
use lib.Seq.{drop-set-lt}
use borrow.Author.Rules.{rules}
use Rattle.std.proofs.lemmas.List.{take_rest}
use Rattle.std.proofs.lemmas.Result.{err_from_is_err_and}
use Rattle.circuit.specs.Refusals.{number_of}
use Rattle.text.specs.Internal.Scan.{value_in, count_from}
use Rattle.text.proofs.Scanning.{same_head}
use Rattle.text.proofs.Progress.{head_here, head_refused, head_fits, start}
use Rattle.text.proofs.read.Goals as goal
use Rattle.text.proofs.read.Goals.{After-min-room}

-- the judgement on the first line asks for room as the definition does
limited : (c : After-min-room) → head_here c.args.text.now c.min-room.result ≡ head_here c.args.text.now (length c.args.table.now)
limited c =
    let t = c.args.text.now in
    ap (head_here t) c.min-room.ensures ∙ same_head (length c.args.table.now) (length t) (count_from 1 t) (value_in t) (value_in (drop 5 t))

pub returns-in_err-d : goal.returns-in_err-d
returns-in_err-d c =
    let p = err_from_is_err_and c.from_residual.result c.from_residual.ensures.1 in
    let r = c.in_err-d.field-0.0 in
    let e = head_refused c.args.text.now (length c.args.table.now) (number_of r.rule) r.frame r.word
    (c.in_err-d.ensures.ruled ∙ limited (goal.at.returns-in_err-d c).After-min-room) in
    rw (p.1, p.2, e) (record { answered = refl; stored = refl })

pub slice_bounds-read_frames-count : goal.slice_bounds-read_frames-count
slice_bounds-read_frames-count c =
    let e = c.in_ok-d.ensures.ruled ∙ limited (goal.at.slice_bounds-read_frames-count c).After-min-room in
    let h = (head_fits c.args.text.now c.args.table.now (length c.args.table.now) e).0 in
    omega arith

pub slice_bounds-read_frames-start : goal.slice_bounds-read_frames-start
slice_bounds-read_frames-start c =
    let e = c.in_ok-d.ensures.ruled ∙ limited (goal.at.slice_bounds-read_frames-start c).After-min-room in
    let h = (head_fits c.args.text.now c.args.table.now (length c.args.table.now) e).0 in
    search rules

pub returns : goal.returns
returns c =
    let t = c.args.table.now in
    let r = c.read_frames.ensures in
    let e = start c.args.text.now t (length t) (c.in_ok-d.ensures.ruled ∙ limited (goal.at.returns c).After-min-room) c.in_ok-d.d c.in_ok-d.ensures.shares refl in
    let rest : drop 2 t ≡ drop 2 (set (set t 0 0) 1 c.in_ok-d.d)
    = sym (drop-set-lt 2 (set t 0 0) 1 c.in_ok-d.d (omega arith) ∙ drop-set-lt 2 t 0 0 (omega arith)) in
    record {
      answered = rw e (rw take_rest at r.answered);
      stored = rw e (rw take_rest at (r.stored t rest));
    }
