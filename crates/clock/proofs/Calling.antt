-- How a step ends: rule 18 of the bank behind the rules of an evaluation, and what an accepted and a refused step leave.
use mathlib.Core.Path.{◌≡◌, sym, ap, ap₂, subst, ◌∙◌}
use mathlib.Core.Bool.{cond}
use mathlib.Core.List.{List, [], ◌∷◌}
use Prim.Native.Nat.{ℕ, ◌+◌, ◌≤◌, ◌<◌}
use native.Mathlib.Omega.{arith}
use lib.Dec.{ltb}
use lib.ListN.{length}
use Rattle.std.specs.Prelude.{Option, Some, None, position}
use Rattle.circuit.specs.Lists.{nth}
use Rattle.circuit.specs.Circuit.{Circuit, size}
use Rattle.circuit.specs.Rules.{Judgement, pass, refuse, ◌then◌}
use Rattle.circuit.specs.Answer.{refused, answer}
use Rattle.circuit.proofs.Base.{cases}
use Rattle.semantics.specs.Values.{bytes}
use Rattle.semantics.specs.Calls.{bytes_rule, circuit_of, call_rule, written}
use Rattle.semantics.specs.Clock.{is_register, register_bytes, shown_on, held_after, clock_rule}
use Rattle.semantics.proofs.Solving.{gate_at}
use Rattle.semantics.proofs.Clocked.{register_length, register_at}
use Rattle.gadgets.specs.Internal.Accepting.{circuit_in}
use Rattle.evaluation.proofs.Answering.{Passed, answer-refuse, untouched, bits-pass}
use Rattle.evaluation.specs.Internal.Refusing.{refusal}
use Rattle.evaluation.proofs.Refusals.{over_first, first_within, none_over}
use Rattle.clock.specs.Internal.Whole.{wires_of, AllBits, Clocked}

-- where no byte of a wire is over 1, none of a register is
pub none_over_bank : (table bank : List ℕ) {wires : ℕ} → wires ≡ size (circuit_in table) → ((x : ℕ) → x < wires → nth bank x ≤ 1)
    → None ≡ position (λ b. ltb 1 b) (register_bytes (wires_of table) bank)
none_over_bank table bank all few =
    let ws = wires_of table in
    none_over (register_bytes ws bank) (λ x l.
    let in_wires : x < size (circuit_in table) = omega (arith, register_length ws bank) in
    rw (register_at ws bank x in_wires) (cases (is_register (gate_at ws x)) (λ e. rw e (few x (omega arith))) (λ e. rw e (omega arith))))

module _ (table notes shares tape values bank : List ℕ) where
  abbrev k : Circuit
  k = circuit_of table notes

  abbrev sheets : List (List ℕ)
  sheets = values ∷ bank ∷ []

  abbrev rule : Judgement
  rule = clock_rule table notes shares tape values bank

  -- a refusal of the rules before is the step's
  pub refused-before : {a b c : ℕ} → refused a b c ≡ answer k (call_rule table notes shares tape sheets []) → refused a b c ≡ answer k rule
  unfolding clock_rule
  refused-before h = answer-refuse k (call_rule table notes shares tape sheets []) h _

  -- a refused step leaves a buffer as found
  pub left : {a b c : ℕ} → refused a b c ≡ answer k rule → (new old : List ℕ) → old ≡ written rule new old
  left h = untouched k rule h

  -- where these pass, rule 18 of the bank is left: by the first register that breaks it
  module _ {room wires : ℕ} (p : Passed table notes shares tape sheets [] room wires) {r : Option ℕ} (first : r ≡ position (λ b. ltb 1 b) (register_bytes (wires_of table) bank)) where
    abbrev start : ℕ
    start = length shares + length tape

    left18 : rule ≡ refusal 18 start r
    unfolding clock_rule
    left18 = ap₂ (λ j c. j then bytes_rule start (register_bytes c.wires bank)) p.passes p.of.circuit_is ∙ (over_first (register_bytes (wires_of table) bank) first).is start

    pub over_at : {x : ℕ} → r ≡ Some x → rule ≡ refuse 18 0 (start + x)
    over_at h = left18 ∙ ap (refusal 18 start) h

    pub over_within : {x : ℕ} → r ≡ Some x → x < wires
    over_within h = omega (arith, first_within (λ b. ltb 1 b) (register_bytes (wires_of table) bank) first h, register_length (wires_of table) bank, p.wires_are)

    -- an accepted step: its bytes are bits, and its buffers hold what is said of the table's circuit
    module _ (none : r ≡ None) where
      pub passes_all : rule ≡ pass
      passes_all = left18 ∙ ap (refusal 18 start) none

      all-bits : AllBits table shares tape bank
      all-bits = record {
        share_bits = p.share_bits;
        tape_bits = p.tape_bits;
        shown_bits = λ y m q.
            let ws = wires_of table in
            let bits = bits-pass start (register_bytes ws bank) ((over_first (register_bytes ws bank) first).is start ∙ ap (refusal 18 start) none) in
            subst (λ (n : ℕ). n ≤ 1) (register_at ws bank y m ∙ ap (λ b. cond b (nth bank y) 0) q) (bits y);
      }

      module _ {new_values new_bank : List ℕ} (c : Clocked table shares tape bank values bank new_values new_bank) where
        pub valued : new_values ≡ written rule (bytes (shown_on k.wires bank shares tape)) values
        valued = c.valued all-bits ∙ sym (ap₂ (λ j c. written j (bytes (shown_on c.wires bank shares tape)) values) passes_all p.of.circuit_is)

        pub banked : new_bank ≡ written rule (held_after k.wires bank shares tape) bank
        banked = c.banked all-bits ∙ sym (ap₂ (λ j c. written j (held_after c.wires bank shares tape) bank) passes_all p.of.circuit_is)
