-- What is left of a call's judgement behind each rule, and its end where the rule is broken.
use mathlib.Core.Path.{◌≡◌, sym, ap, ◌∙◌}
use mathlib.Core.List.{List}
use Prim.Native.Nat.{ℕ, ◌+◌, ◌*◌, ◌≤◌, ◌<◌}
use native.Mathlib.Omega.{arith}
use lib.Dec.{leb, eqb}
use lib.ListN.{length}
use borrow.Author.Tests.{eq-eqb, ne_eqb, le-leb, lt-leb}
use Rattle.std.specs.Prelude.{Option, Some, None, Result}
use Rattle.circuit.specs.Limits.{wire_limit}
use Rattle.circuit.specs.Circuit.{Circuit, size}
use Rattle.circuit.specs.Rules.{Judgement, pass, refuse, need, ◌then◌, checked}
use Rattle.circuit.specs.Answer.{answer}
use Rattle.circuit.specs.declared.rules.Refusal.{Refusal}
use Rattle.semantics.specs.Calls.{bytes_rule, probes_rule, circuit_of, call_rule, call_notes}
use Rattle.checker.specs.declared.Accepted.{Accepted}
use Rattle.checker.specs.Answers.{answer_of}
use Rattle.evaluation.specs.Internal.Refusing.{refusal, OverFirst, MissingFirst}
use Rattle.evaluation.specs.Internal.Calling.{Shortest, Judged}
use Rattle.evaluation.proofs.Answering.{then_none, rules-left, kept, broken, none_found, first_found}

-- a call: its table, the notes lent with it, its lists, and the room of its shortest buffer
pub record Call : Type 0 where
  pub table : List ℕ
  pub notes : List ℕ
  pub shares : List ℕ
  pub tape : List ℕ
  pub probes : List ℕ
  pub room : ℕ

module _ (q : Call) where
  abbrev k : Circuit
  k = circuit_of q.table q.notes

  -- the call's judgement, whatever buffers it is called with
  abbrev pub Comes : Judgement → Type 0
  Comes j = (sheets : List (List ℕ)) → Shortest q.room sheets → call_rule q.table q.notes q.shares q.tape sheets q.probes ≡ j

  pub judged : {new : List ℕ} {r : Result Accepted Refusal} {j : Judgement} → new ≡ call_notes q.table q.notes q.shares q.tape → answer_of r ≡ answer k j → Comes j
      → Judged q.table q.notes q.shares q.tape q.probes q.room new r
  judged noted e h = record { answers = λ sheets s. e ∙ sym (ap (answer k) (h sheets s)); noted = noted }

  -- what is left from each rule on
  abbrev left19 : Judgement
  left19 = probes_rule k 0 q.probes

  abbrev left_tape : Judgement
  left_tape = bytes_rule (0 + length q.shares) q.tape then left19

  abbrev left18 : Judgement
  left18 = bytes_rule 0 q.shares then left_tape

  abbrev left17 : Judgement
  left17 = need (leb wire_limit q.room) 17 0 0 then left18

  abbrev left16 : Judgement
  left16 = need (eqb (length q.tape) k.randoms) 16 0 0 then left17

  abbrev left15 : Judgement
  left15 = need (eqb (length q.shares) (k.inputs * k.d)) 15 0 0 then left16

  pub from15 : (checked q.table (length q.notes)).judgement ≡ pass → Comes left15
  from15 p sheets s = rules-left q.table q.notes q.shares q.tape sheets q.probes q.room s p

  pub breaks15 : Comes left15 → (length q.shares ≡ k.inputs * k.d → ⊥) → Comes (refuse 15 0 0)
  breaks15 h ne sheets s = broken _ 15 _ (h sheets s) (ne_eqb _ _ ne)

  from16 : Comes left15 → length q.shares ≡ k.inputs * k.d → Comes left16
  from16 h e sheets s = kept _ 15 _ (h sheets s) (eq-eqb _ _ e)

  pub breaks16 : Comes left16 → (length q.tape ≡ k.randoms → ⊥) → Comes (refuse 16 0 0)
  breaks16 h ne sheets s = broken _ 16 _ (h sheets s) (ne_eqb _ _ ne)

  from17 : Comes left16 → length q.tape ≡ k.randoms → Comes left17
  from17 h e sheets s = kept _ 16 _ (h sheets s) (eq-eqb _ _ e)

  pub breaks17 : Comes left17 → q.room < wire_limit → Comes (refuse 17 0 0)
  breaks17 h l sheets s = broken _ 17 _ (h sheets s) (lt-leb _ _ l)

  from18 : Comes left17 → wire_limit ≤ q.room → Comes left18
  from18 h l sheets s = kept _ 17 _ (h sheets s) (le-leb _ _ l)

  -- the same from the checker's pass on, by what the tests before have asked
  module _ (p : (checked q.table (length q.notes)).judgement ≡ pass) (shares : length q.shares ≡ k.inputs * k.d) where
    pub at16 : Comes left16
    at16 = from16 (from15 p) shares

    module _ (tape : length q.tape ≡ k.randoms) where
      pub at17 : Comes left17
      at17 = from17 at16 tape

      pub at18 : wire_limit ≤ q.room → Comes left18
      at18 room = from18 at17 room

  at_word : {rule : ℕ} (w x : ℕ) → w ≡ x → refuse rule 0 w ≡ refuse rule 0 x
  at_word {rule} w x e = ap (refuse rule 0) e

  -- rules 18 and 19 by the first place where they are broken
  module _ {r : Option ℕ} (e : OverFirst q.shares r) (h : Comes left18) where
    by_share : Comes (refusal 18 0 r then left_tape)
    by_share sheets s = h sheets s ∙ ap (λ j. j then left_tape) (e.is 0)

    pub breaks_share : {x : ℕ} → r ≡ Some x → Comes (refuse 18 0 x)
    breaks_share {x} f sheets s = first_found 18 0 left_tape (by_share sheets s) f ∙ at_word (0 + x) x (omega arith)

    pub from_tape : r ≡ None → Comes left_tape
    from_tape f sheets s = none_found 18 0 left_tape (by_share sheets s) f

  module _ {r : Option ℕ} (e : OverFirst q.tape r) (h : Comes left_tape) where
    by_tape : Comes (refusal 18 (0 + length q.shares) r then left19)
    by_tape sheets s = h sheets s ∙ ap (λ j. j then left19) (e.is (0 + length q.shares))

    pub breaks_tape : {x : ℕ} → r ≡ Some x → Comes (refuse 18 0 (length q.shares + x))
    breaks_tape {x} f sheets s = first_found 18 (0 + length q.shares) left19 (by_tape sheets s) f ∙ at_word (0 + length q.shares + x) (length q.shares + x) (omega arith)

    pub from19 : r ≡ None → Comes left19
    from19 f sheets s = none_found 18 (0 + length q.shares) left19 (by_tape sheets s) f

  module _ {wires : ℕ} {r : Option ℕ} (e : MissingFirst q.probes wires r) (same : size k ≡ wires) (h : Comes left19) where
    by_probe : Comes (refusal 19 0 r then pass)
    by_probe sheets s = h sheets s ∙ e.is k same 0 ∙ sym (then_none (refusal 19 0 r))

    pub breaks19 : {x : ℕ} → r ≡ Some x → Comes (refuse 19 0 x)
    breaks19 {x} f sheets s = first_found 19 0 pass (by_probe sheets s) f ∙ at_word (0 + x) x (omega arith)

    pub passes : r ≡ None → Comes pass
    passes f sheets s = none_found 19 0 pass (by_probe sheets s) f
