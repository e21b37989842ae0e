-- A call's outcome: the checker's refusal, rule 23, or a text that is written.
use mathlib.Core.Path.{◌≡◌, sym, ap, ◌∙◌}
use mathlib.Core.List.{List}
use Prim.Native.Nat.{ℕ, ◌*◌, ◌≤◌, ◌<◌}
use lib.ListN.{length}
use borrow.Author.Tests.{le-leb, lt-leb}
use Rattle.circuit.specs.Lists.{nth}
use Rattle.circuit.specs.Rules.{Judgement, pass, refuse, checked}
use Rattle.circuit.specs.Circuit.{Circuit}
use Rattle.circuit.specs.Answer as check
use Rattle.circuit.proofs.Answers.{answer-pass, answer-refused}
use Rattle.semantics.specs.Calls.{circuit_of, written}
use Rattle.text.specs.Answer.{TextAnswer, answer}
use Rattle.writer.specs.Writer.{text_of, write_rule, write_answer, text_after}
use Rattle.writer.proofs.Lines.{lines_length}

-- five bytes a word
pub text_length : (table : List ℕ) → length (text_of table) ≡ 5 * length table
unfolding text_of
text_length table = lines_length (nth table 1) 0 table

module _ (table notes text : List ℕ) where
  abbrev judgement : Judgement
  judgement = (checked table (length notes)).judgement

  pub refuses : {a b c : ℕ} → judgement ≡ refuse a b c → write_rule table notes text ≡ refuse a b c
  unfolding write_rule
  refuses e = rw e

  pub short : judgement ≡ pass → length text < 5 * length table → write_rule table notes text ≡ refuse 23 0 0
  unfolding write_rule
  short e l = rw (e, text_length table, lt-leb (5 * length table) (length text) l)

  pub fits : judgement ≡ pass → 5 * length table ≤ length text → write_rule table notes text ≡ pass
  unfolding write_rule
  fits e l = rw (e, text_length table, le-leb (5 * length table) (length text) l)

  abbrev k : Circuit
  k = circuit_of table notes

  -- the call's judgement, by the check's answer
  pub stops : {rule frame word : ℕ} → check.refused rule frame word ≡ check.answer k judgement → write_rule table notes text ≡ refuse rule frame word
  stops h = refuses (answer-refused k judgement h)

  pub passes : {w r l : ℕ} → check.accepted w r l ≡ check.answer k judgement → judgement ≡ pass
  passes h = (answer-pass k judgement h).0

  -- the answer and the text, by that judgement
  module _ {j : Judgement} (e : write_rule table notes text ≡ j) where
    pub answered_as : {told : TextAnswer} → told ≡ answer (text_of table) j → told ≡ write_answer table notes text
    answered_as tells = tells ∙ sym (ap (answer (text_of table)) e)

    pub written_as : {new : List ℕ} → new ≡ written j (text_of table) text → new ≡ text_after table notes text
    written_as wrote = wrote ∙ sym (ap (λ (j : Judgement). written j (text_of table) text) e)
