-- How a call ends: refused by the checker, refused by 26, or with a yes; and what a yes is good for.
use mathlib.Core.Path.{◌≡◌, refl, sym, ap, subst, ◌∙◌}
use mathlib.Core.List.{List}
use Prim.Native.Nat.{ℕ, ◌≤◌}
use native.Mathlib.Omega.{arith}
use lib.ListN.{length}
use Rattle.circuit.specs.Circuit.{Circuit, empty}
use Rattle.circuit.specs.Rules.{Judgement, pass, refuse, ◌then◌, checked}
use Rattle.circuit.specs.Answer.{Answer, accepted, refused, answer, notes_after}
use Rattle.circuit.proofs.Answers.{answer-pass, answer-refused}
use Rattle.circuit.proofs.Building.{Lawful, build-shares}
use Rattle.circuit.proofs.Exact.{Accepted}
use Rattle.circuit.proofs.Judging.{then_pass}
use Rattle.semantics.specs.Calls.{circuit_of}
use Rattle.circuit.proofs.Noted.{Labelled, build_labelled, label-noted}
use Rattle.gadgets.specs.Internal.Accepting.{circuit_in}
use Rattle.gadgets.proofs.Walking.{same-circuit}
use Rattle.plain.specs.Sharings.{whole_of, sharings_rule, sharings_answer}
use Rattle.plain.specs.Plain.{IsPlainOf}
use Rattle.plain.specs.Internal.Tests.{Labels}
use Rattle.plain.proofs.Computing.{is_plain}

module _ (table notes : List ℕ) where
  pub refuses : {rule frame word : ℕ} → (checked table (length notes)).judgement ≡ refuse rule frame word → sharings_rule table notes ≡ refuse rule frame word
  unfolding sharings_rule
  refuses e = ap (λ j. j then (whole_of table).judgement) e

  pub comes_to : {j : Judgement} → (checked table (length notes)).judgement ≡ pass → (whole_of table).judgement ≡ j → sharings_rule table notes ≡ j
  unfolding sharings_rule
  comes_to e f = ap (λ j. j then (whole_of table).judgement) e ∙ f

  -- the answer, by the judgement that the call comes to
  abbrev k : Circuit
  k = circuit_of table notes

  answered_as : {told : Answer} {j : Judgement} → sharings_rule table notes ≡ j → told ≡ answer k j → told ≡ sharings_answer table notes
  answered_as e tells = tells ∙ sym (ap (answer k) e)

  pub refused_first : {rule frame word : ℕ} → refused rule frame word ≡ answer k (checked table (length notes)).judgement → refused rule frame word ≡ sharings_answer table notes
  refused_first h = answered_as (refuses (answer-refused k _ h)) refl

  module _ {w r l : ℕ} (h : accepted w r l ≡ answer k (checked table (length notes)).judgement) where
    pub passes : (checked table (length notes)).judgement ≡ pass
    passes = (answer-pass k _ h).0

    pub misfits : {rule frame word : ℕ} → (whole_of table).judgement ≡ refuse rule frame word → refused rule frame word ≡ sharings_answer table notes
    misfits e = answered_as (comes_to passes e) refl

    pub fits_all : (whole_of table).judgement ≡ pass → accepted w r l ≡ sharings_answer table notes
    fits_all e = answered_as (comes_to passes e) (h ∙ ap (answer k) passes)

  pub plain_where : sharings_rule table notes ≡ pass → IsPlainOf table (circuit_of table notes) (whole_of table).plain
  unfolding sharings_rule
  plain_where e = let (first, whole) = then_pass (checked table (length notes)).judgement (whole_of table).judgement e in is_plain table (length notes) first whole

  -- the notes that the check leaves give every named wire its label
  pub labels-noted : Accepted table (length notes) → Labels (notes_after (circuit_of table notes) notes) (circuit_in table)
  labels-noted a =
      let k = circuit_of table notes in
      let law : Lawful Labelled k = subst (Lawful Labelled) (sym a.circuit_is) (build_labelled a.fs a.least a.fit tt) in
      let few : k.d ≤ 8 = omega (arith, ap (λ (c : Circuit). c.d) a.circuit_is ∙ build-shares (empty a.d) a.fs, a.most) in
      subst (Labels (notes_after k notes)) (same-circuit a) (record { told = label-noted k notes few law })
