-- The whole check, frame by frame: what the loop keeps, and what each way out of it answers.
use mathlib.Core.Path.{◌≡◌, refl, sym, ap, subst, ◌∙◌}
use mathlib.Core.Bool.{Bool, true, false, cond, ◌&&◌}
use mathlib.Core.List.{List, ◌∷◌}
use Prim.Native.Nat.{ℕ, suc, ◌+◌, ◌≤◌, ◌<◌}
use native.Mathlib.Omega.{arith}
use lib.Dec.{leb, ltb, eqb}
use lib.ListN.{length, drop}
use lib.Seq.{drop-cons}
use borrow.Author.Tests.{leb-true, ltb-true, ltb-false}
use Rattle.circuit.specs.Limits.{table_limit, notes_room, fewest_shares, most_shares, stage_limit, wire_limit}
use Rattle.circuit.specs.Lists.{nth}
use Rattle.circuit.specs.Kinds.{kind_of, words}
use Rattle.circuit.specs.Circuit.{Circuit, size, empty}
use Rattle.circuit.specs.Rules.{Judgement, pass, refuse, need, ◌then◌, frame_rule, frames, head_rule, checked}
use Rattle.circuit.specs.Answer.{verdict_of, notes_after}
use Rattle.circuit.proofs.Base.{cases}
use Rattle.circuit.proofs.Building.{Lawful}
use Rattle.circuit.proofs.Exact.{Headed, head_pass}
use Rattle.std.specs.Prelude.{Option, Some, None, Result, Ok, Err}
use Rattle.circuit.specs.Refusals.{number_of, refusal}
use Rattle.circuit.specs.declared.rules.Refusal.{Refusal}
use Rattle.circuit.specs.declared.rules.Rule.{Rule}
use Rattle.circuit.specs.declared.rules.Rule.TheVariants as rule
use Rattle.checker.specs.declared.Accepted.{Accepted}
use Rattle.frames.specs.declared.kinds.Shape.{Shape as ShapeCode}
use Rattle.frames.specs.declared.walk.Walk.{Walk}
use Rattle.frames.specs.declared.walk.Next.{Next}
use Rattle.checker.specs.declared.frame.Tally.{Tally}
use Rattle.checker.specs.Answers.{answer_of, InputsAre}
use Rattle.frames.specs.Walk.{shape_code, behind, step_at}
use Rattle.checker.specs.Internal.Spans.{span_of}
use Rattle.checker.specs.Internal.Adding.{head_alone, tally_of, head_answer}
use Rattle.circuit.proofs.Noted.{Labelled}

-- what an answer of the code judges, where nothing else is told
abbrev pub judged_by : Result (Unit {0}) Refusal → Judgement
judged_by (Ok u) = pass
judged_by (Err r) = refuse (number_of r.rule) r.frame r.word

-- 1 to 4
pub head_judged : (table : List ℕ) (room : ℕ) → head_rule table room ≡ judged_by (head_answer table room)
unfolding head_rule
head_judged table room = go (leb (length table) table_limit) (leb notes_room room) (leb 2 (length table) && eqb (nth table 0) 0) (leb fewest_shares (nth table 1) && leb (nth table 1) most_shares)
  where
    go : (a b c e : Bool) → (need a 1 0 0 then need b 2 0 0 then need c 3 0 0 then need e 4 0 1)
        ≡ judged_by (cond a (cond b (cond c (cond e (Ok tt) (Err (refusal rule.ShareCount 0 1))) (Err (refusal rule.Head 0 0))) (Err (refusal rule.NotesLength 0 0)))
        (Err (refusal rule.TableLength 0 0)))
    go false b c e = refl
    go true false c e = refl
    go true true false e = refl
    go true true true false = refl
    go true true true true = refl

-- what the call promises
abbrev pub Promised : (table notes₀ notes : List ℕ) → Result Accepted Refusal → Type 0
Promised table notes₀ notes verdict = (answer_of verdict ≡ verdict_of table (length notes₀))
    × ((notes ≡ notes_after (checked table (length notes₀)).circuit notes₀) × InputsAre verdict (checked table (length notes₀)).circuit.inputs)

pub head_refused : (table notes : List ℕ) (r : Refusal) → head_answer table (length notes) ≡ Err r → Promised table notes notes (Err r)
unfolding checked notes_after
head_refused table notes r e = rw (head_judged table (length notes), e) (refl, (refl, tt))

-- what the loop keeps: the circuit of the frames so far, its notes, and that the rest of the table is still to be judged
pub record Walking (table notes₀ notes : List ℕ) (d : ℕ) (walk : Walk) (tally : Tally) : Type 0 where
  pub k : Circuit
  pub least : fewest_shares ≤ k.d
  pub most : k.d ≤ most_shares
  pub shares : k.d ≡ d
  pub walk_shares : walk.d ≡ d
  pub tally_is : tally ≡ tally_of tally.frames k
  pub few : size k ≤ wire_limit
  pub used : k.randoms ≤ size k
  pub inputs : k.inputs ≤ tally.frames
  pub highest : (span_of k.frames).highest ≤ stage_limit
  pub counted : tally.frames ≤ walk.at
  pub inside : walk.at ≤ length table
  pub short : length table ≤ table_limit
  pub roomy : notes_room ≤ length notes₀
  pub law : Lawful Labelled k
  pub notes_is : notes ≡ notes_after k notes₀
  pub rest : checked table (length notes₀) ≡ frames k tally.frames 0 (drop walk.at table)

-- at the start
pub headed : (table : List ℕ) (room : ℕ) → head_answer table room ≡ Ok tt → Headed table room
headed table room e = head_pass table room (head_judged table room ∙ ap judged_by e)

pub start : (table notes : List ℕ) → head_answer table (length notes) ≡ Ok tt
    → Walking table notes notes (nth table 1) (record { d = nth table 1; at = 2 }) head_alone
unfolding checked notes_after
start table notes e =
    let h = headed table (length notes) e in
    record {
      k = empty (nth table 1);
      least = h.least;
      most = h.most;
      shares = refl;
      walk_shares = refl;
      tally_is = refl;
      few = omega arith;
      used = omega arith;
      inputs = omega arith;
      highest = omega arith;
      counted = omega arith;
      inside = h.two;
      short = h.short;
      roomy = h.roomy;
      law = tt;
      notes_is = refl;
      rest = rw (head_judged table (length notes), e);
    }

-- what stands at the walk's place
module _ (table : List ℕ) (d at : ℕ) where
  abbrev word : ℕ
  word = nth table at

  abbrev rest : List ℕ
  rest = drop (at + 1) table

  pub here : at < length table → drop at table ≡ word ∷ rest
  here h = let e : suc at ≡ at + 1 = omega arith in drop-cons table at 0 h ∙ ap (λ n. nth table at ∷ drop n table) e

  -- a whole frame
  pub record AtFrame (sh : ShapeCode) (w : Walk) : Type 0 where
    pub inside : at < length table
    pub low : 1 ≤ word
    pub high : word ≤ 8
    pub whole : words d (kind_of word) ≤ length rest
    pub shape_is : sh ≡ shape_code d (kind_of word)
    pub walk_is : w ≡ behind d at (words d (kind_of word))

  -- its end; a word that breaks 5 or 6; or a whole frame
  abbrev pub At : Result (Option Next) Rule → Type 0
  At (Ok None) = length table ≤ at
  At (Ok (Some n)) = AtFrame n.shape n.walk
  At (Err r) = (at < length table) × ((k : Circuit) → k.d ≡ d → (f : ℕ) → frame_rule k f word rest ≡ refuse (number_of r) f 0)

  found : At (step_at table d at)
  unfolding frame_rule
  found = cases (ltb at (length table)) (λ a. let l = ltb-true at (length table) a in
      cases (leb 1 (nth table at)) (λ b. cases (leb (nth table at) 8) (λ c. cases (leb (words d (kind_of (nth table at))) (length (drop (at + 1) table)))
      (λ e. rw (a, b, c, e) (record { inside = l; low = leb-true _ _ b; high = leb-true _ _ c; whole = leb-true _ _ e; shape_is = refl; walk_is = refl }))
      (λ e. rw (a, b, c, e) (l, (λ k s f. rw (s, b, c, e)))))
      (λ c. rw (a, b, c) (l, (λ k s f. rw (b, c)))))
      (λ b. rw (a, b) (l, (λ k s f. rw b))))
      (λ a. rw a (ltb-false at (length table) a))

  pub met : {s : Result (Option Next) Rule} → s ≡ step_at table d at → At s
  met e = subst At (sym e) found
