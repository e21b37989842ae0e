-- A frame of a kind on a circuit that the notes represent: what adding it answers is the rules' judgement, the circuit with
-- the frame, and its notes.
use mathlib.Core.Path.{◌≡◌, refl, sym, ap, ap₂, fun_ext, ◌∙◌}
use mathlib.Core.Bool.{Bool, true, false}
use mathlib.Core.List.{List}
use Prim.Native.Nat.{ℕ, ◌+◌, ◌*◌, ◌-◌}
use lib.Dec.{leb}
use lib.ListN.{length}
use lib.Seq.{sets}
use Rattle.circuit.specs.Limits.{stage_limit, wire_limit}
use Rattle.circuit.specs.Wires.{Wire}
use Rattle.circuit.specs.Kinds.{Kind, HEAD, shape, words}
use Rattle.circuit.specs.Circuit.{Circuit, size, new_stage, made, extend}
use Rattle.circuit.specs.Rules.{Judgement, pass, refuse, need, ◌then◌, words_rule}
use Rattle.circuit.specs.Answer.{notes_of}
use Rattle.circuit.proofs.Building.{size-extend}
use Rattle.frames.specs.declared.kinds.Shape.{Shape as ShapeCode}
use Rattle.frames.specs.Walk.{form_of, shape_code}
use Rattle.frames.proofs.KindTable.{means}
use Rattle.checker.specs.declared.forms.Spot.{Spot}
use Rattle.checker.specs.declared.span.Span.{Span}
use Rattle.checker.specs.declared.frame.Tally.{Tally}
use Rattle.std.specs.Prelude.{Result, Ok, Err}
use Rattle.circuit.specs.Refusals.{number_of}
use Rattle.circuit.specs.declared.rules.Rule.TheVariants as rule
use Rattle.checker.specs.Internal.Notes.{ask, noted, found_of, Represents, made_words}
use Rattle.checker.specs.Internal.Spans.{span_of, span_in}
use Rattle.checker.specs.Internal.Adding.{at_word, ◌and_then◌, broken_in, made_in, limit_broken, notes_with, tally_of, numbers_of, with_frame, added_by, made_new, broken, Adds}
use Rattle.checker.proofs.Spots.{judged_at, judged_then}
use Rattle.checker.proofs.Words.{words_are}
use Rattle.checker.proofs.MadeNotes.{made_by, counts, made-stage, made-words}
use Rattle.checker.proofs.Spanning.{span-next}

-- what an added frame says of the frame of number f
abbrev pub judgement_in : ℕ → Result Tally Spot → Judgement
judgement_in f (Ok t) = pass
judgement_in f (Err s) = refuse (number_of s.rule) f s.word

-- what is left to judge of a frame behind rules 5 and 6: its words, 13 and 14
abbrev pub later_rule : Circuit → ℕ → Kind → List ℕ → Judgement
later_rule k f kind ops = words_rule k f ops 1 (shape k.d kind).rules ops
    then need (leb (new_stage k ops kind) stage_limit) 13 f 0
    then need (leb (size k + (shape k.d kind).wires) wire_limit) 14 f 0

abbrev pub notes_added : Judgement → (notes : List ℕ) (from : ℕ) → List Wire → List ℕ
notes_added pass notes from ws = sets notes (2 * from) (notes_of ws)
notes_added (refuse rule frame word) notes from ws = notes

-- the frame's place
pub record Placed (k : Circuit) (kind : Kind) (tally : Tally) (sh : ShapeCode) (d : ℕ) (ops notes : List ℕ) : Type 0 where
  pub later : kind ≡ HEAD → ⊥
  pub represents : Represents k notes tally.wires
  pub tally_is : tally ≡ tally_of tally.frames k
  pub shares : k.d ≡ d
  pub shape_is : sh ≡ shape_code d kind
  pub whole : length ops ≡ words d kind

module _ {k : Circuit} {kind : Kind} {tally : Tally} {sh : ShapeCode} {d : ℕ} {ops old : List ℕ} (p : Placed k kind tally sh d ops old) where
  -- the wires made are those that the circuit's own look-ups give
  made-is : made_new tally sh d ops old ≡ made_by k ops kind
  made-is = ap (λ s. made_in s.form d (s.wires - d) (noted old tally.wires) ops) p.shape_is
      ∙ ap₂ (λ n look. made_in (form_of kind) n ((shape n kind).wires - n) look ops) (sym p.shares) (fun_ext p.represents)

  stage_is : (made_new tally sh d ops old).stage ≡ new_stage k ops kind
  stage_is = ap (λ x. x.stage) made-is ∙ made-stage k ops kind p.later

  -- and so is the first spot
  broken-is : broken tally sh d ops old ≡ (broken_in k.d k.randoms (found_of k) ops (form_of kind) and_then limit_broken (made_by k ops kind) (size k))
  broken-is = ap₂ (λ s m. broken_in d tally.randoms (noted old tally.wires) ops s.form and_then limit_broken m tally.wires) p.shape_is made-is
      ∙ ap₂ (λ n look. broken_in n tally.randoms look ops (form_of kind) and_then limit_broken (made_by k ops kind) tally.wires) (sym p.shares) (fun_ext p.represents)
      ∙ ap (λ t. broken_in k.d t.randoms (found_of k) ops (form_of kind) and_then limit_broken (made_by k ops kind) t.wires) p.tally_is

  words-judged : (f : ℕ) → judged_at f (broken_in k.d k.randoms (found_of k) ops (form_of kind)) ≡ words_rule k f ops 1 (shape k.d kind).rules ops
  words-judged f =
      let m = means k.d kind in
      words_are k f (form_of kind) ops ((counts k.d kind (found_of k) ops).form_later p.later) (p.whole ∙ ap (λ n. words n kind) (sym p.shares) ∙ sym (ap length m.rules))
      ∙ ap (λ rs. words_rule k f ops 1 rs ops) m.rules

  limits_judged : (f : ℕ) → judged_at f (limit_broken (made_by k ops kind) (size k))
      ≡ (need (leb (new_stage k ops kind) stage_limit) 13 f 0 then need (leb (size k + (shape k.d kind).wires) wire_limit) 14 f 0)
  limits_judged f = both (leb (made_by k ops kind).stage stage_limit) (leb (size k + ((made_by k ops kind).inner + (made_by k ops kind).named)) wire_limit)
      ∙ ap₂ (λ t n. need (leb t stage_limit) 13 f 0 then need (leb (size k + n) wire_limit) 14 f 0) (made-stage k ops kind p.later) (counts k.d kind (found_of k) ops).wires_are
    where
      both : (a b : Bool) → judged_at f (at_word 0 (ask a rule.LastStage) and_then at_word 0 (ask b rule.WireCount)) ≡ (need a 13 f 0 then need b 14 f 0)
      both true true = refl
      both true false = refl
      both false b = refl

  broken-judged : (f : ℕ) → judged_at f (broken tally sh d ops old) ≡ later_rule k f kind ops
  broken-judged f = ap (judged_at f) broken-is ∙ judged_then f (broken_in k.d k.randoms (found_of k) ops (form_of kind)) (limit_broken (made_by k ops kind) (size k))
      ∙ ap₂ ◌then◌ (words-judged f) (limits_judged f)

  -- the counts with the frame are those of the circuit with it
  tally_next : with_frame tally (numbers_of sh) (span_in sh.form tally.span (made_new tally sh d ops old).stage) ≡ tally_of (tally.frames + 1) (extend k ops kind)
  tally_next =
      ap₂ (λ t s. with_frame t (numbers_of s) (span_in s.form t.span (made_new tally sh d ops old).stage)) p.tally_is p.shape_is
      ∙ ap₂ (λ n stage. with_frame (tally_of tally.frames k) (numbers_of (shape_code n kind)) (span_in (form_of kind) (span_of k.frames) stage)) (sym p.shares) stage_is
      ∙ ap₂ (λ wires span. record { frames = tally.frames + 1; wires = wires; randoms = k.randoms + (shape k.d kind).randoms; span = span; inputs = k.inputs + (shape k.d kind).inputs })
      (sym (size-extend k ops kind)) (span-next k.frames kind (new_stage k ops kind))

  -- what adding the frame answers
  module _ {new : List ℕ} {r : Result Tally Spot} (a : Adds tally sh d ops old new r) where
    pub judgement : judgement_in tally.frames r ≡ later_rule k tally.frames kind ops
    judgement = ap (judgement_in tally.frames) a.added_is ∙ by_spot (broken tally sh d ops old) _ ∙ broken-judged tally.frames
      where
        by_spot : (s : Result (Unit {0}) Spot) (span : Span) → judgement_in tally.frames (added_by s tally (numbers_of sh) span) ≡ judged_at tally.frames s
        by_spot (Ok u) span = refl
        by_spot (Err s) span = refl

    pub next : (t : Tally) → r ≡ Ok t → t ≡ tally_of (tally.frames + 1) (extend k ops kind)
    next t e = by_spot (broken tally sh d ops old) _ (sym a.added_is ∙ e) ∙ tally_next
      where
        by_spot : (s : Result (Unit {0}) Spot) (span : Span) → added_by s tally (numbers_of sh) span ≡ Ok t → t ≡ with_frame tally (numbers_of sh) span
        by_spot (Ok u) span e = cc
        by_spot (Err s) span e = absurd (cc)

    pub notes-next : new ≡ notes_added (later_rule k tally.frames kind ops) old (size k) (made k ops kind)
    notes-next = a.notes_are ∙ by_spot (broken tally sh d ops old) ∙ ap (λ j. notes_added j old (size k) (made k ops kind)) (broken-judged tally.frames)
      where
        words : made_words (made_new tally sh d ops old) ≡ notes_of (made k ops kind)
        words = ap made_words made-is ∙ made-words k ops kind p.later

        by_spot : (s : Result (Unit {0}) Spot) → notes_with s (made_new tally sh d ops old) tally.wires old ≡ notes_added (judged_at tally.frames s) old (size k) (made k ops kind)
        by_spot (Ok u) = ap₂ (λ t ws. sets old (2 * t.wires) ws) p.tally_is words
        by_spot (Err s) = refl
