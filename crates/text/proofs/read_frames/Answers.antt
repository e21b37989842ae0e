-- The loop's turn and its ends, by `Progress`.
use mathlib.Core.Path.{◌≡◌, refl, sym, ap, ◌∙◌}
use Prim.Native.Nat.{ℕ, ◌+◌, ◌*◌, ◌-◌, ◌≤◌}
use native.Mathlib.Omega.{arith}
use lib.ListN.{length, drop, length-drop, length-take}
use lib.Seq.{paste, take-take, length-take-le}
use borrow.Author.Rules.{rules}
use borrow.Author.Tests.{eqb-true, eqb-false}
use Rattle.std.proofs.lemmas.List.{take_rest}
use Rattle.std.specs.Prelude.{Result, Ok, Err, ⊤, IsErr}
use Rattle.circuit.specs.declared.rules.Rule.{Rule}
use Rattle.circuit.specs.Refusals.{number_of}
use Rattle.circuit.specs.Rules.{pass, refuse}
use Rattle.text.specs.Internal.Scan.{value_in, count_from, ruled, frame_by_count}
use Rattle.text.specs.Internal.Blocks.{start_of, Taken}
use Rattle.text.proofs.Scanning.{same-frame}
use Rattle.text.proofs.Blocks.{frame-number}
use Rattle.text.proofs.Progress.{judgement, refused, ended, front, table-after}
use Rattle.text.proofs.Advance.{in_room, in_text, least, most, turn, never}
use Rattle.text.proofs.read_frames.Goals as goal
use Rattle.text.proofs.read_frames.Goals.{After-taken-taken, After-words-words, After-first-broken}

-- the lines taken, by the d that was given
told : (c : After-taken-taken) → Taken c.args.d c.split.new.self.words c.split.new.self.ends c.split.new.self.lines (c.args.room - c.loop-text.stored) c.taken-taken.result
told c = rw c.new-lengths.ensures at c.taken-taken.ensures

-- their words
record Numbers (c : After-words-words) : Type 0 where
  count : length c.words-words.result.now ≡ start_of c.split.new.self.ends c.taken-taken.result
  room : c.loop-text.stored + length c.words-words.result.now ≤ length c.loop-text.table
  within : 5 * length c.words-words.result.now ≤ length c.loop-text.text.now
  some : c.taken-taken.result ≤ length c.words-words.result.now

numbers : (c : After-words-words) → Numbers c
numbers c =
    let p = c.loop-text.invariant.progress in
    let q = c.requires.0 in
    let s = c.split.ensures in
    let t : Taken c.args.d c.split.new.self.words c.split.new.self.ends c.split.new.self.lines (c.args.room - c.loop-text.stored) c.taken-taken.result
    = rw c.new-lengths.ensures at c.taken-taken.ensures in
    let n = c.taken-taken.result in
    let count : length c.words-words.result.now ≡ start_of c.split.new.self.ends n
    = ap length c.words-words.ensures ∙ length-take-le (start_of c.split.new.self.ends n) c.split.new.self.words (omega (arith, most p q s t n (omega arith), s.held)) in
    record {
      count = count;
      room = omega (arith, in_room p q s t n (omega arith), p.size);
      within = omega (arith, in_text p q s t n (omega arith));
      some = omega (arith, least p q s t n (omega arith));
    }

-- what does not pass is a rule broken
not_passed : (n : ℕ) (r : Result ⊤ Rule) → (ruled n r ≡ pass → ⊥) → IsErr r
not_passed n (Ok x) h = absurd (h refl)
not_passed n (Err rule) h = refl

-- the judgement on the line here, where no line is taken
broken : (c : After-first-broken) → ruled c.loop-text.line c.first-broken.result ≡ judgement c.loop-text.invariant.progress
broken c =
    let kind = value_in c.loop-text.text.now in
    let count = count_from 1 c.loop-text.text.now in
    let line = c.loop-text.line in
    let stored = c.loop-text.stored in
    ap (ruled line) (rw c.new-lengths.ensures at c.first-broken.ensures)
    ∙ frame-number c.args.d c.args.room stored kind count (omega (arith, c.loop-text.invariant.progress.fits)) (omega arith) line
    ∙ ap (λ (r : ℕ). frame_by_count r c.args.d line stored kind count) c.requires.0
    ∙ same-frame (length c.args.table.now) c.args.d line stored kind count

pub unwrap_err-requires : goal.unwrap_err-requires
unwrap_err-requires c =
    not_passed c.loop-text.line c.first-broken.result
    (λ e. never c.loop-text.invariant.progress c.requires.0 c.split.ensures (told (goal.at.unwrap_err-requires c).After-taken-taken) c.if-taken-eq0.true c.requires.2
    (sym (broken (goal.at.unwrap_err-requires c).After-first-broken) ∙ e))

pub loop-text-smaller : goal.loop-text-smaller
loop-text-smaller c =
    let n = numbers (goal.at.loop-text-smaller c).After-words-words in
    let x = c.loop-text.text.now in
    let k = 5 * length c.words-words.result.now in
    omega (arith, n.some, n.within, length-take (length x - k) (drop k x), length-drop k x)

pub loop-text-preserved : goal.loop-text-preserved
loop-text-preserved c =
    let n = numbers (goal.at.loop-text-preserved c).After-words-words in
    let l = c.loop-text in
    let w = c.words-words.result.now in
    let block = c.split.new.self.words in
    let k = start_of c.split.new.self.ends c.taken-taken.result in
    let next = turn l.invariant.progress c.requires.0 c.split.ensures (told (goal.at.loop-text-preserved c).After-taken-taken) in
    let table : paste l.table l.stored w (length w) ≡ paste l.table l.stored block k
    = rw (n.count, c.words-words.ensures, take-take k k block (omega arith)) in
    record {
      progress = rw (c.store.ensures, table, take_rest, n.count) next;
      lines = omega (arith, l.invariant.lines, n.some, n.within, length-drop (5 * length w) l.text.now, length-take (length l.text.now - 5 * length w) (drop (5 * length w) l.text.now));
    }

pub slice_bounds-text-start : goal.slice_bounds-text-start
slice_bounds-text-start c = let h = (numbers (goal.at.slice_bounds-text-start c).After-words-words).within in search rules

pub slice_bounds-text-count : goal.slice_bounds-text-count
slice_bounds-text-count c = (numbers (goal.at.slice_bounds-text-count c).After-words-words).within

pub store-requires : goal.store-requires
store-requires c = (numbers (goal.at.store-requires c).After-words-words).room

pub overflow_add-stored : goal.overflow_add-stored
overflow_add-stored c = omega (arith, (numbers (goal.at.overflow_add-stored c).After-words-words).room)

pub returns-then-taken-eq0 : goal.returns-then-taken-eq0
returns-then-taken-eq0 c =
    let p = c.loop-text.invariant.progress in
    let rule = number_of c.unwrap_err.result in
    let e = refused p (omega (arith, eqb-false (length c.loop-text.text.now) 0 (sym c.loop-text-test.ensures))) rule 0
    (sym (ap (ruled c.loop-text.line) c.unwrap_err.ensures) ∙ broken (goal.at.returns-then-taken-eq0 c).After-first-broken) in
    record { answered = rw e; stored = table-after p (refuse rule c.loop-text.line 0) e }

pub returns : goal.returns
returns c =
    let p = c.loop-text.invariant.progress in
    let e = ended p (eqb-true (length c.loop-text.text.now) 0 (sym c.loop-text-test.ensures)) in
    record { answered = rw (e, front p); stored = table-after p pass e }
