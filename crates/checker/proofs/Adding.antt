-- A frame added: where its form is judged, the counts fit and the code's answer is the definition's.
use mathlib.Core.Path.{◌≡◌, refl, sym, ap, ap₂, ◌∙◌}
use mathlib.Core.List.{List}
use Prim.Native.Nat.{ℕ, ◌+◌, ◌-◌, ◌≤◌}
use native.Mathlib.Omega.{arith}
use lib.Dec.{leb}
use lib.ListN.{length}
use borrow.Author.Tests.{leb-true}
use Rattle.circuit.specs.Limits.{stage_limit, wire_limit}
use Rattle.circuit.proofs.Base.{cases}
use Rattle.frames.specs.declared.kinds.Form.{Form}
use Rattle.frames.specs.declared.kinds.Shape.{Shape as ShapeCode}
use Rattle.frames.specs.Walk.{shape_code}
use Rattle.std.specs.Prelude.{Result, Ok, Err}
use Rattle.circuit.specs.declared.rules.Rule.{Rule}
use Rattle.circuit.specs.declared.rules.Rule.TheVariants as rule
use Rattle.checker.specs.declared.notes.Named.{Named}
use Rattle.checker.specs.declared.notes.Made.{Made}
use Rattle.checker.specs.declared.forms.Spot.{Spot}
use Rattle.checker.specs.declared.span.Span.{Span}
use Rattle.checker.specs.declared.frame.Tally.{Tally}
use Rattle.checker.specs.Internal.Notes.{noted}
use Rattle.checker.specs.Internal.Spans.{span_in}
use Rattle.checker.specs.Internal.Adding.{◌and_then◌, broken_in, made_in, limit_broken, notes_with, Judges, numbers_of, with_frame, added_by, Bounded, Fitting, FrameOf, Adds}
use Rattle.checker.proofs.MadeNotes.{word_count, numbers_in, Counts, counts}

-- no rule is broken only where the new wires fit
within : (words : Result (Unit {0}) Spot) (m : Made) (wires : ℕ) → (words and_then limit_broken m wires) ≡ Ok tt → wires + (m.inner + m.named) ≤ wire_limit
within (Err s) m wires e = absurd (cc)
within (Ok u) m wires e = cases (leb (wires + (m.inner + m.named)) wire_limit) (leb-true (wires + (m.inner + m.named)) wire_limit) (λ a.
    cases (leb m.stage stage_limit) (λ b. absurd (let h = rw (b, a) at e in cc)) (λ b. absurd (let h = rw b at e in cc)))

-- the words and the wires of a frame's form
module _ {sh : ShapeCode} {d : ℕ} {ops : List ℕ} (o : FrameOf sh d ops) {form : Form} (e : sh.form ≡ form) where
  facts : (look : ℕ → Result Named Rule) → Counts d o.kind look ops
  facts look = counts d o.kind look ops

  pub asked : length ops ≡ word_count form d
  asked = o.whole ∙ (facts (λ x. Err rule.MissingWire)).words_are ∙ ap (λ f. word_count f d) (sym (ap (λ s. s.form) o.shape_is) ∙ e)

  made_all : (look : ℕ → Result Named Rule) → (made_in form d (sh.wires - d) look ops).inner + (made_in form d (sh.wires - d) look ops).named ≡ sh.wires
  made_all look = ap (λ f. (made_in f d (sh.wires - d) look ops).inner + (made_in f d (sh.wires - d) look ops).named) (sym e)
      ∙ ap (λ s. (made_in s.form d (s.wires - d) look ops).inner + (made_in s.form d (s.wires - d) look ops).named) o.shape_is
      ∙ (facts look).wires_are ∙ sym (ap (λ s. s.wires) o.shape_is)

  -- what the form adds to the counts is what the shape says
  numbers-all : numbers_in form d sh ≡ numbers_of sh
  numbers-all = ap (λ f. numbers_in f d sh) (sym e) ∙ ap (λ s. numbers_in s.form d s) o.shape_is ∙ (facts (λ x. Err rule.MissingWire)).numbers_are ∙ sym (ap numbers_of o.shape_is)

  -- judged by words and with wires that are the form's
  module _ {tally : Tally} {old new : List ℕ} {words r : Result (Unit {0}) Spot} {m : Made} (j : Judges words m tally.wires old new r)
      (broken-is : words ≡ broken_in d tally.randoms (noted old tally.wires) ops form) (made-is : m ≡ made_in form d (sh.wires - d) (noted old tally.wires) ops) where
    pub fits : Bounded tally old → r ≡ Ok tt → Fitting tally (numbers_in form d sh)
    fits b h =
        let n = facts (noted old tally.wires) in
        let wires : sh.wires ≡ (shape_code d o.kind).wires = ap (λ s. s.wires) o.shape_is in
        let randoms : sh.randoms ≡ (shape_code d o.kind).randoms = ap (λ s. s.randoms) o.shape_is in
        let inputs : sh.inputs ≡ (shape_code d o.kind).inputs = ap (λ s. s.inputs) o.shape_is in
        let room : tally.wires + (m.inner + m.named) ≤ wire_limit = within words m tally.wires (sym j.spot_is ∙ h) in
        let all : m.inner + m.named ≡ sh.wires = ap (λ x. x.inner + x.named) made-is ∙ made_all (noted old tally.wires) in
        rw numbers-all (record { wires = omega arith; randoms = omega arith; frames = b.frames; inputs = omega arith })

    judged : {a : Result Tally Spot} {span : Span} → a ≡ added_by r tally (numbers_in form d sh) span → span ≡ span_in form tally.span m.stage → Adds tally sh d ops old new a
    judged {span = span} g l =
        let M : Form → Made = λ f. made_in f d (sh.wires - d) (noted old tally.wires) ops in
        let S : Form → Result (Unit {0}) Spot = λ f. broken_in d tally.randoms (noted old tally.wires) ops f and_then limit_broken (M f) tally.wires in
        let m_is : m ≡ M sh.form = made-is ∙ ap M (sym e) in
        let r_is : r ≡ S sh.form = j.spot_is ∙ ap₂ (λ s x. s and_then limit_broken x tally.wires) broken-is made-is ∙ ap S (sym e) in
        record {
          added_is = g ∙ ap (λ n. added_by r tally n span) numbers-all ∙ ap₂ (λ s n. added_by s tally (numbers_of sh) n) r_is (l ∙ ap₂ (λ f x. span_in f tally.span x.stage) (sym e) m_is);
          notes_are = j.notes_are ∙ ap₂ (λ s x. notes_with s x tally.wires old) r_is m_is;
        }

    -- added where nothing is broken, or refused
    pub adds : {t : Tally} {span : Span} → r ≡ Ok tt → t ≡ with_frame tally (numbers_in form d sh) span → span ≡ span_in form tally.span m.stage → Adds tally sh d ops old new (Ok t)
    adds {span = span} h g l = judged (ap Ok g ∙ ap (λ x. added_by x tally (numbers_in form d sh) span) (sym h)) l

    pub refuses : {s : Spot} → r ≡ Err s → Adds tally sh d ops old new (Err s)
    refuses h = judged (sym (ap (λ x. added_by x tally (numbers_in form d sh) (span_in form tally.span m.stage)) h)) refl
