-- How a call ends: by a rule before 25, by 25, or with a list of counts; and what the counts of every accepted circuit obey.
use mathlib.Core.Path.{◌≡◌, refl, sym, ap, ap₂, subst, fun_ext, ◌∙◌}
use mathlib.Core.List.{List, map}
use Prim.Native.Nat.{ℕ, ◌^◌, ◌≤◌, ◌<◌}
use native.Mathlib.Omega.{arith}
use lib.ListN.{length, take, drop}
use borrow.Author.Tests.{le-leb, lt-leb}
use Rattle.std.specs.Prelude.{Ok, Err}
use Rattle.circuit.specs.Lists.{overwrite}
use Rattle.circuit.specs.Circuit.{Circuit, size}
use Rattle.circuit.specs.Rules.{Judgement, pass, refuse}
use Rattle.circuit.specs.Refusals.{number_of}
use Rattle.circuit.specs.declared.rules.Refusal.{Refusal}
use Rattle.circuit.proofs.Answers.{answer-pass, answer-refused}
use Rattle.semantics.specs.Values.{bits}
use Rattle.semantics.specs.Counts.{free_bits}
use Rattle.semantics.specs.Calls.{Accepts, circuit_of, written}
use Rattle.secrecy.proofs.Accepted.{equal_counts}
use Rattle.checker.specs.declared.Accepted.{Accepted}
use Rattle.gadgets.specs.Internal.Accepting.{circuit_in}
use Rattle.evaluation.proofs.Answering.{Taken, taken}
use Rattle.counting.specs.Counting.{combinations, pair_count, read_wires, count_of, count_list, CountAnswer, accepted, refused, count_rule, answer_to, count_answer, counts_after, AddUp, SameColumns}
use Rattle.counting.specs.Internal.Judging.{first_rules, Judged}
use Rattle.counting.specs.Internal.Reading.{Probed, ReadBy}
use Rattle.counting.specs.Internal.Tallying.{Listable, ListsCounts}
use Rattle.counting.proofs.Shown.{add_up}
use Rattle.counting.proofs.Batches.{some-shares}
use Rattle.counting.proofs.Judging.{Passed, passed, last_rule}

module _ (table notes secrets probes counts : List ℕ) where
  abbrev k : Circuit
  k = circuit_of table notes

  abbrev rule : Judgement
  rule = count_rule table notes secrets probes counts

  abbrev first : Judgement
  first = first_rules table notes secrets probes (length counts)

  -- the list of counts, of the circuit with any notes
  sheet : {inputs : ℕ} {wires new : List ℕ} → Taken table notes → inputs ≡ k.inputs → ListsCounts table secrets inputs wires counts new → read_wires k probes ≡ wires
      → new ≡ overwrite (count_list k probes (bits (take k.inputs secrets)) (bits (drop k.inputs secrets))) counts
  sheet {inputs} {wires} {new} t n l e = subst (λ (c : Circuit). new ≡ overwrite (count_list c probes (bits (take k.inputs secrets)) (bits (drop k.inputs secrets))) counts) (sym t.circuit_is)
      (subst (λ (m : ℕ). new ≡ overwrite (count_list (circuit_in table) probes (bits (take m secrets)) (bits (drop m secrets))) counts) n
      (l.is probes (ap (λ (c : Circuit). read_wires c probes) (sym t.circuit_is) ∙ e)))

  -- an end of the call: its answer, and the sheet of counts after it
  pub record Ends (told : CountAnswer) (new : List ℕ) : Type 0 where
    pub answered : told ≡ count_answer table notes secrets probes counts
    pub listed : new ≡ counts_after table notes secrets probes counts

  ends : {j : Judgement} {told : CountAnswer} {new : List ℕ} → rule ≡ j → told ≡ answer_to table notes secrets probes counts j
      → new ≡ written j (count_list k probes (bits (take k.inputs secrets)) (bits (drop k.inputs secrets))) counts → Ends told new
  ends e a l = record {
    answered = a ∙ sym (ap (answer_to table notes secrets probes counts) e);
    listed = l ∙ sym (ap (λ (j : Judgement). written j (count_list k probes (bits (take k.inputs secrets)) (bits (drop k.inputs secrets))) counts) e);
  }

  -- by a rule before 25
  pub ends_refused : {new : List ℕ} {r : Refusal} → Judged table notes secrets probes (length counts) new (Err r) → Ends (refused (number_of r.rule) r.frame r.word) counts
  ends_refused {r = r} j = ends {j = refuse (number_of r.rule) r.frame r.word} (last_rule table notes secrets probes counts ∙ rw (answer-refused k first j.answers)) refl refl

  -- behind them
  pub record Goes (a : Accepted) : Type 0 where
    pub passes : first ≡ pass
    pub of : Passed table notes secrets probes (length counts)
    pub wires : a.wires ≡ size (circuit_in table)
    pub randoms : a.randoms ≡ (circuit_in table).randoms
    pub inputs : a.inputs ≡ k.inputs

  pub goes : {new : List ℕ} {a : Accepted} → Judged table notes secrets probes (length counts) new (Ok a) → Goes a
  goes j =
      let (p, wires, randoms) = answer-pass k first j.answers in
      let q = passed table notes secrets probes (length counts) p in
      record {
        passes = p;
        of = q;
        wires = wires ∙ ap size q.of.circuit_is;
        randoms = randoms ∙ ap (λ (z : Circuit). z.randoms) q.of.circuit_is;
        inputs = j.inputs;
      }

  module _ {a : Accepted} (g : Goes a) where
    same : k ≡ circuit_in table
    same = g.of.of.circuit_is

    pub probed : Probed table a.wires probes
    probed = record { accepted = g.of.of.accepted; wires_are = g.wires; made = λ x i. omega (arith, g.of.probed x i, g.wires, ap size same) }

    -- too many wires are read
    pub ends_many : 8 < length (read_wires (circuit_in table) probes) → Ends (refused 25 0 0) counts
    ends_many l = ends {j = refuse 25 0 0} (last_rule table notes secrets probes counts ∙ rw (g.passes, same, lt-leb (length (read_wires (circuit_in table) probes)) 8 l)) refl refl

    -- few are
    module _ {read : List ℕ} (r : ReadBy table probes read) (few : length read ≤ 8) where
      read_is : read_wires k probes ≡ read
      read_is = ap (λ (z : Circuit). read_wires z probes) same ∙ sym r.are

      few_bits : free_bits (circuit_in table) ≤ 16
      few_bits = subst (λ (z : Circuit). free_bits z ≤ 16) same g.of.few

      pub listable : Listable table secrets a.inputs a.randoms a.wires read counts
      listable = record {
        numbered = record { accepted = g.of.of.accepted; few = few_bits; inputs_are = g.inputs ∙ ap (λ (z : Circuit). z.inputs) same; randoms_are = g.randoms };
        wires_are = g.wires;
        sized = omega (arith, g.of.sized, g.inputs);
        bit = g.of.bit;
        read_in = record { few = few; made = r.made };
        room = g.of.roomy;
      }

      pub ends_counted : {count pairs : ℕ} {new : List ℕ} → count ≡ 2 ^ length read → pairs ≡ pair_count (circuit_in table)
          → ListsCounts table secrets a.inputs read counts new → Ends (accepted (length read) count pairs) new
      ends_counted {count} {pairs} c p l =
          let n : length (read_wires k probes) ≡ length read = ap length read_is in
          ends {j = pass} (last_rule table notes secrets probes counts ∙ rw (g.passes, n, le-leb (length read) 8 few)) (rw (n, same) (ap₂ (accepted (length read)) c p))
          (sheet g.of.of g.inputs l read_is)

-- the counts of every accepted circuit
module _ (table notes probes : List ℕ) where
  abbrev circuit : Circuit
  circuit = circuit_of table notes

  pub adds_up : Accepts table notes → AddUp circuit probes
  adds_up h s l = let t = taken table notes h in add_up circuit probes s (subst (λ (c : Circuit). 1 ≤ c.d) (sym t.circuit_is) (some-shares t.accepted)) l

  pub same_columns : Accepts table notes → SameColumns circuit probes
  unfolding count_of
  same_columns h few one other l m = ap (λ f. map f (combinations (length (read_wires circuit probes)))) (fun_ext (λ bs. equal_counts table (length notes) h probes few one other l m _))
