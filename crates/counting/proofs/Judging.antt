-- The rules of the call: what is left of them behind the checker's, and what an accepted call rests on.
use mathlib.Core.Path.{◌≡◌, refl, sym, ap, ap₂, subst, ◌∙◌}
use mathlib.Core.Bool.{false}
use mathlib.Core.List.{List, [], ◌∷◌}
use Prim.Native.Nat.{ℕ, ◌+◌, ◌*◌, ◌-◌, ◌≤◌, ◌<◌}
use native.Mathlib.Nat.{zero-add, mul_comm, mul-le-mul_left, mul-le-mul_right}
use native.Mathlib.Omega.{arith}
use lib.Dec.{leb, eqb}
use lib.ListN.{length}
use borrow.Author.Tests.{eqb-true, leb-true, eq-eqb, ne_eqb, le-leb, lt-leb}
use Rattle.semantics.specs.Counts.{free_bits}
use Rattle.circuit.specs.Limits.{wire_limit}
use Rattle.circuit.specs.Lists.{nth}
use Rattle.circuit.specs.Wires.{Wire}
use Rattle.circuit.specs.Circuit.{Circuit, size, empty}
use Rattle.circuit.specs.Rules.{Judgement, pass, refuse, need, ◌then◌, checked}
use Rattle.circuit.specs.Answer.{accepted, refused, answer, verdict_of, notes_after}
use Rattle.circuit.specs.Refusals.{refusal_answer}
use Rattle.circuit.proofs.Base.{cases, In}
use Rattle.circuit.proofs.Judging.{then_pass, need-pass, need_then}
use Rattle.semantics.specs.Values.{is_random}
use Rattle.semantics.proofs.Randoms.{randoms_in, build-randoms}
use Rattle.semantics.specs.Calls.{bytes_rule, probes_rule, circuit_of}
use Rattle.std.specs.Prelude.{Option, Some, None, Result, Ok, Err}
use Rattle.circuit.specs.declared.rules.Refusal.{Refusal}
use Rattle.checker.specs.declared.Accepted.{Accepted}
use Rattle.checker.specs.Answers.{answer_of, InputsAre}
use Rattle.gadgets.proofs.Walking.{second_word, whole, whole-few}
use Rattle.circuit.proofs.Answers.{answer-pass}
use Rattle.evaluation.specs.Internal.Refusing.{refusal, OverFirst, MissingFirst}
use Rattle.evaluation.proofs.Answering.{Taken, taken, answer-refuse, then_assoc, bits-pass, probes_pass, kept, broken, none_found, first_found}
use Rattle.counting.specs.Counting.{read_wires, count_rule}
use Rattle.counting.specs.Internal.Judging.{first_rules, Judged}

-- random bits are wires
randoms-most : (ws : List Wire) → randoms_in ws ≤ length ws
randoms-most [] = omega arith
randoms-most (w ∷ ws) = cases (is_random w.gate) (λ e. rw e (omega (arith, randoms-most ws))) (λ e. rw e (omega (arith, randoms-most ws)))

-- a refusal tells no number of INs
inputs-refused : (r : Result Accepted Refusal) {a b c : ℕ} (n : ℕ) → answer_of r ≡ refused a b c → InputsAre r n
inputs-refused (Ok a) n h = cc
inputs-refused (Err r) n h = tt

module _ (table notes secrets probes : List ℕ) where
  abbrev k : Circuit
  k = circuit_of table notes

  -- the numbers of an accepted table stay small
  pub record Small : Type 0 where
    pub inputs : k.inputs ≤ wire_limit
    pub least : 2 ≤ nth table 1
    pub most : nth table 1 ≤ 8
    pub shares : (nth table 1 - 1) * k.inputs ≤ wire_limit
    pub randoms : k.randoms ≤ wire_limit

  pub small : Taken table notes → Small
  small t =
      let a = t.accepted in
      let d = second_word a in
      let few : k.inputs * a.d ≤ wire_limit = subst (λ (n : ℕ). k.inputs * n ≤ wire_limit) (sym t.d_is ∙ d) t.shares_few in
      let less : a.d - 1 ≤ a.d = omega arith in
      record {
        inputs = omega (arith, few, mul-le-mul_left k.inputs a.least);
        least = omega (arith, d, a.least);
        most = omega (arith, d, a.most);
        shares = rw d (omega (arith, few, mul-le-mul_right k.inputs less, mul_comm k.inputs a.d));
        randoms = subst (λ (z : Circuit). z.randoms ≤ wire_limit) (sym (t.circuit_is ∙ a.circuit_is)) (omega (arith, randoms-most (whole a).wires, build-randoms (empty a.d) a.fs refl, whole-few a));
      }

  module _ (room : ℕ) where
    abbrev rules : Judgement
    rules = first_rules table notes secrets probes room

    -- what is left of them from each rule on
    abbrev left24 : Judgement
    left24 = need (leb (free_bits k) 16) 24 0 0

    abbrev left19 : Judgement
    left19 = probes_rule k 0 probes then left24

    abbrev left18 : Judgement
    left18 = bytes_rule 0 secrets then left19

    abbrev left17 : Judgement
    left17 = need (leb 1024 room) 17 0 0 then left18

    abbrev left15 : Judgement
    left15 = need (eqb (length secrets) (2 * k.inputs)) 15 0 0 then left17

    -- a refusal by one of them, and the checker's
    pub refuses : {new : List ℕ} {r : Result Accepted Refusal} {rule word : ℕ} → new ≡ notes_after k notes → answer_of r ≡ refused rule 0 word → rules ≡ refuse rule 0 word
        → Judged table notes secrets probes room new r
    refuses {r = r} noted e h = record { answers = e ∙ sym (ap (answer k) h); noted = noted; inputs = inputs-refused r k.inputs e }

    pub checker_refuses : {new : List ℕ} {r : Refusal} → new ≡ notes_after k notes → refusal_answer r ≡ verdict_of table (length notes) → Judged table notes secrets probes room new (Err r)
    unfolding first_rules
    checker_refuses noted h = record { answers = answer-refuse k (checked table (length notes)).judgement h _; noted = noted; inputs = tt }

    -- what the checker tells where it accepts
    pub record Told (a : Accepted) : Type 0 where
      pub passes : (checked table (length notes)).judgement ≡ pass
      pub of : Taken table notes
      pub wires : a.wires ≡ size k
      pub randoms : a.randoms ≡ k.randoms
      pub inputs : a.inputs ≡ k.inputs
      pub small : Small
      pub shares : (nth table 1 - 1) * a.inputs ≤ wire_limit
      pub free : (nth table 1 - 1) * a.inputs + a.randoms ≡ free_bits k

    pub told : (a : Accepted) → accepted a.wires a.randoms a.latency ≡ verdict_of table (length notes) → a.inputs ≡ k.inputs → Told a
    told a h n =
        let (p, wires, randoms) = answer-pass k (checked table (length notes)).judgement h in
        let t = taken table notes p in
        record {
          passes = p;
          of = t;
          wires = wires;
          randoms = randoms;
          inputs = n;
          small = small t;
          shares = subst (λ (m : ℕ). (nth table 1 - 1) * m ≤ wire_limit) (sym n) (small t).shares;
          free = ap₂ ◌+◌ (ap₂ (λ x y. (x - 1) * y) t.d_is n) randoms;
        }

    -- rule by rule
    module _ {a : Accepted} (t : Told a) where
      from15 : rules ≡ left15
      unfolding first_rules
      from15 = rw t.passes

      many : (length secrets ≡ 2 * a.inputs → ⊥) → eqb (length secrets) (2 * k.inputs) ≡ false
      many h = ne_eqb _ _ (λ e. h (e ∙ sym (ap (λ n. 2 * n) t.inputs)))

      pub at15 : (length secrets ≡ 2 * a.inputs → ⊥) → rules ≡ refuse 15 0 0
      at15 h = broken _ 15 left17 from15 (many h)

      module _ (sized : length secrets ≡ 2 * a.inputs) where
        from17 : rules ≡ left17
        from17 = kept _ 15 left17 from15 (eq-eqb _ _ (sized ∙ ap (λ n. 2 * n) t.inputs))

        pub at17 : room < 1024 → rules ≡ refuse 17 0 0
        at17 h = broken _ 17 left18 from17 (lt-leb _ _ h)

        module _ (roomy : 1024 ≤ room) {byte : Option ℕ} (o : OverFirst secrets byte) where
          from18 : rules ≡ (refusal 18 0 byte then left19)
          from18 = kept _ 17 left18 from17 (le-leb _ _ roomy) ∙ ap (λ j. j then left19) (o.is 0)

          pub at18 : {x : ℕ} → byte ≡ Some x → rules ≡ refuse 18 0 x
          at18 {x} e = first_found 18 0 left19 from18 e ∙ ap (refuse 18 0) (zero-add x)

          module _ (none : byte ≡ None) {probe : Option ℕ} (m : MissingFirst probes a.wires probe) where
            from19 : rules ≡ (refusal 19 0 probe then left24)
            from19 = none_found 18 0 left19 from18 none ∙ ap (λ j. j then left24) (m.is k (sym t.wires) 0)

            pub at19 : {x : ℕ} → probe ≡ Some x → rules ≡ refuse 19 0 x
            at19 {x} e = first_found 19 0 left24 from19 e ∙ ap (refuse 19 0) (zero-add x)

            module _ (on : probe ≡ None) where
              from24 : rules ≡ left24
              from24 = none_found 19 0 left24 from19 on

              pub at24 : 16 < (nth table 1 - 1) * a.inputs + a.randoms → rules ≡ refuse 24 0 0
              at24 h = from24 ∙ ap (λ b. need b 24 0 0) (lt-leb (free_bits k) 16 (omega (arith, t.free)))

              pub at_end : (nth table 1 - 1) * a.inputs + a.randoms ≤ 16 → rules ≡ pass
              at_end h = from24 ∙ ap (λ b. need b 24 0 0) (le-leb (free_bits k) 16 (omega (arith, t.free)))

    -- what a call that passes them rests on
    pub record Passed : Type 0 where
      pub of : Taken table notes
      pub sized : length secrets ≡ 2 * k.inputs
      pub roomy : 1024 ≤ room
      pub bit : (x : ℕ) → nth secrets x ≤ 1
      pub probed : (x : ℕ) → In x probes → x < size k
      pub few : free_bits k ≤ 16

    pub passed : rules ≡ pass → Passed
    unfolding first_rules
    passed p =
        let (first, h0) = then_pass (checked table (length notes)).judgement _ p in
        let (a, h1) = need_then (eqb (length secrets) (2 * k.inputs)) 15 0 0 _ h0 in
        let (b, h2) = need_then (leb 1024 room) 17 0 0 _ h1 in
        let (c, h3) = then_pass (bytes_rule 0 secrets) _ h2 in
        let (d, h4) = then_pass (probes_rule k 0 probes) _ h3 in
        record {
          of = taken table notes first;
          sized = eqb-true (length secrets) (2 * k.inputs) a;
          roomy = leb-true 1024 room b;
          bit = bits-pass 0 secrets c;
          probed = probes_pass k 0 probes d;
          few = leb-true (free_bits k) 16 (need-pass (leb (free_bits k) 16) 24 0 0 h4);
        }

  -- rule 25 is asked behind them
  pub last_rule : (counts : List ℕ) → count_rule table notes secrets probes counts ≡ (first_rules table notes secrets probes (length counts) then need (leb (length (read_wires k probes)) 8) 25 0 0)
  unfolding count_rule first_rules
  last_rule counts = simp then_assoc
