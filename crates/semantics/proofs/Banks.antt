-- Of a bank only the registers' bytes count, and behind an accepted step none of these is over 1.
use mathlib.Core.Path.{◌≡◌, refl, sym, ap, ap₂, ◌∙◌}
use mathlib.Core.Bool.{Bool, true, false, cond}
use mathlib.Core.List.{List, [], ◌∷◌}
use Prim.Native.Nat.{ℕ, suc, ◌*◌, ◌≤◌, ◌<◌}
use native.Mathlib.Omega.{arith}
use lib.Dec.{leb, eqb}
use lib.ListN.{length, drop, length-append, length-drop, get_or-append, get_or-map}
use borrow.Author.Tests.{le-leb, leb-true}
use Rattle.circuit.specs.Limits.{wire_limit}
use Rattle.circuit.specs.Lists.{nth, overwrite}
use Rattle.circuit.specs.Wires.{Wire}
use Rattle.circuit.specs.Circuit.{Circuit, is_set}
use Rattle.circuit.specs.Rules.{Judgement, pass, refuse, checked}
use Rattle.circuit.specs.Answer.{answer}
use Rattle.circuit.proofs.Base.{cases}
use Rattle.circuit.proofs.Judging.{then_pass, need_then}
use Rattle.circuit.proofs.Exact.{sound, accepted-size}
use Rattle.semantics.specs.Values.{bits, byte, bytes, at, value}
use Rattle.semantics.specs.Calls.{bytes_rule, sheets_rule, circuit_of, call_rule, written}
use Rattle.semantics.specs.Clock.{is_register, held_bytes, register_bytes, shown_on, held_after, clock_rule, bank_on, RegistersAlone, BankStays, IsClock}
use Rattle.semantics.proofs.Solving.{gate_at}
use Rattle.semantics.proofs.Clocked.{clock_same, register_length, register_at, register_same, held-length, held_at}

-- bytes that are bits pass rule 18
pub bits_rule : (xs : List ℕ) (i : ℕ) → ((x : ℕ) → x < length xs → nth xs x ≤ 1) → bytes_rule i xs ≡ pass
unfolding bytes_rule
bits_rule [] i h = refl
bits_rule (b ∷ bs) i h = rw (le-leb b 1 (h 0 (omega arith))) (bits_rule bs (suc i) (λ x l. h (suc x) (omega arith)))

pub byte-few : (b : Bool) → byte b ≤ 1
byte-few true = omega arith
byte-few false = omega arith

-- a register's byte, where the bytes of registers are known
register_byte : (ws : List Wire) (bank : List ℕ) (x : ℕ) → x < length ws → is_register (gate_at ws x) ≡ true → nth (register_bytes ws bank) x ≡ nth bank x
register_byte ws bank x l r = register_at ws bank x l ∙ ap (λ b. cond b (nth bank x) 0) r

-- what a register's place holds behind a clock with these values
next-byte : (ws : List Wire) (values : List Bool) (bank : List ℕ) (x : ℕ) → x < length ws → is_register (gate_at ws x) ≡ true
    → nth (overwrite (held_bytes ws values bank) bank) x ≡ byte (value (gate_at ws x) (at values) [] [])
next-byte ws values bank x l r =
    let new = held_bytes ws values bank in
    get_or-append new (drop (length new) bank) 0 x (omega (arith, held-length ws values bank)) ∙ held_at ws values bank x l
    ∙ ap (λ b. cond b (byte (value (gate_at ws x) (at values) [] [])) (nth bank x)) r

module _ (table notes shares tape values : List ℕ) where
  abbrev k : Circuit
  k = circuit_of table notes

  abbrev ws : List Wire
  ws = k.wires

  module _ (bank other : List ℕ) (long : length other ≡ length bank) (same : register_bytes ws other ≡ register_bytes ws bank) where
    at_register : (x : ℕ) → x < length ws → is_register (gate_at ws x) ≡ true → nth other x ≡ nth bank x
    at_register x l r = sym (register_byte ws other x l r) ∙ ap (λ (b : List ℕ). nth b x) same ∙ register_byte ws bank x l r

    same_rule : clock_rule table notes shares tape values other ≡ clock_rule table notes shares tape values bank
    unfolding clock_rule call_rule sheets_rule
    same_rule = rw (long, same)

    same-shown : shown_on ws other shares tape ≡ shown_on ws bank shares tape
    same-shown = clock_same ws (bits other) (bits bank) (bits shares) (bits tape) (λ x l r. get_or-map is_set other x 0 ∙ ap is_set (at_register x l r) ∙ sym (get_or-map is_set bank x 0))

    same-held : (j : Judgement) → register_bytes ws (written j (held_after ws other shares tape) other) ≡ register_bytes ws (written j (held_after ws bank shares tape) bank)
    same-held pass = register_same ws _ _ (λ x l r. next-byte ws (shown_on ws other shares tape) other x l r
        ∙ ap (λ vs. byte (value (gate_at ws x) (at vs) [] [])) same-shown ∙ sym (next-byte ws (shown_on ws bank shares tape) bank x l r))
    same-held (refuse rule frame word) = same

  pub registers-alone : (bank : List ℕ) → RegistersAlone table notes shares tape values bank
  registers-alone bank other long same =
      let e = same_rule bank other long same in (
        ap (answer k) e,
        ap₂ (λ j vs. written j (bytes vs) values) e (same-shown bank other long same),
        ap (λ j. register_bytes ws (written j (held_after ws other shares tape) other)) e ∙ same-held bank other long same (clock_rule table notes shares tape values bank),
      )

  -- an accepted step has a bank of a byte for each wire
  bank_long : (bank : List ℕ) → clock_rule table notes shares tape values bank ≡ pass → length ws ≤ length bank
  unfolding clock_rule call_rule sheets_rule
  bank_long bank h =
      let (call, _) = then_pass (call_rule table notes shares tape (values ∷ bank ∷ []) []) _ h in
      let (first, behind) = then_pass (checked table (length notes)).judgement _ call in
      let (_, at16) = need_then (eqb (length shares) (k.inputs * k.d)) 15 0 0 _ behind in
      let (_, at17) = need_then (eqb (length tape) k.randoms) 16 0 0 _ at16 in
      let (sheets, _) = then_pass (sheets_rule (values ∷ bank ∷ [])) _ at17 in
      let (_, second) = need_then (leb wire_limit (length values)) 17 0 0 _ sheets in
      omega (arith, leb-true wire_limit (length bank) (need_then (leb wire_limit (length bank)) 17 0 0 _ second).0, accepted-size (sound table (length notes) first))

  pub bank_stays : (bank : List ℕ) → BankStays table notes shares tape values bank
  bank_stays bank h =
      let values = shown_on ws bank shares tape in
      let new = held_bytes ws values bank in
      rw h (
        length-append new (drop (length new) bank) ∙ omega (arith, length-drop (length new) bank, held-length ws values bank, bank_long bank h),
        λ i. bits_rule (register_bytes ws (overwrite new bank)) i (λ x l. let m : x < length ws = omega (arith, register_length ws (overwrite new bank)) in
            rw (register_at ws (overwrite new bank) x m) (cases (is_register (gate_at ws x)) (λ r. rw (r, next-byte ws values bank x m r) (byte-few (value (gate_at ws x) (at values) [] []))) (λ r. rw r (omega arith)))),
      )

-- a step and a clock of a run are the same
pub is_clock : (table notes values : List ℕ) → IsClock table notes values
unfolding bank_on
is_clock table notes values shares tapes start clock h = rw h (refl, refl)
