-- Document 02, the pipeline run clock by clock: what the wires show on a clock, what the bank holds after it, and which bits that are fed
-- belong to one set.
use Rattle.std.specs.Prelude.{◌≡◌, Bool, true, false, cond, List, [], ◌∷◌, ◌++◌, map, ℕ, zero, suc, ◌+◌, ◌*◌, ◌<◌, length, get_or, drop}
use Rattle.circuit.specs.Lists.{range, concat_map, nth, overwrite}
use Rattle.circuit.specs.Wires.{Gate, input, constant, random, reg, inverse, sum, product, and_not, Wire, ◌placed◌}
use Rattle.circuit.specs.Kinds.{OUT}
use Rattle.circuit.specs.Circuit.{Circuit, size, empty, place, stage_of, new_stage}
use Rattle.circuit.specs.Rules.{Judgement, pass, ◌then◌}
use Rattle.circuit.specs.Answer.{Answer, answer}
use Rattle.circuit.specs.Composition.{Frame, frame, AllFit, build, words_of}
use Rattle.semantics.specs.Values.{bits, byte, bytes, at, value, is_random, values_of}
use Rattle.semantics.specs.Calls.{circuit_of, call_rule, bytes_rule, written}

-- a register; IN and CON wires and random bits are registered too, but hold nothing from clock to clock
abbrev pub is_register : Gate → Bool
is_register (input n) = false
is_register (constant b) = false
is_register random = false
is_register (reg x) = true
is_register (inverse x) = false
is_register (sum xs) = false
is_register (product x y) = false
is_register (and_not x y) = false

abbrev pub is_input : Gate → Bool
is_input (input n) = true
is_input (constant b) = false
is_input random = false
is_input (reg x) = false
is_input (inverse x) = false
is_input (sum xs) = false
is_input (product x y) = false
is_input (and_not x y) = false

-- what each wire makes of its place in a bank; `none` where the bank is too short
abbrev pub with_bank : {A B : Type 0} (none : A) → (Wire → A → B) → List Wire → (bank : List A) → List B
with_bank none f [] bank = []
with_bank none f (w ∷ ws) bank = f w (get_or bank 0 none) ∷ with_bank none f ws (drop 1 bank)

-- the wires as they stand on one clock: a register shows its bit of the bank, whatever its operand; every other gate is as it was
abbrev pub on_clock : List Wire → (bank : List Bool) → List Wire
on_clock = with_bank false (λ w b. cond (is_register w.gate) (constant b) w.gate placed w.place)

-- the values of wires on one clock
abbrev pub clock_values : List Wire → (bank shares tape : List Bool) → List Bool
clock_values ws bank shares tape = values_of (on_clock ws bank) shares tape

-- the bank's bytes behind a clock with these values: at a register what its operand showed, elsewhere what was there
abbrev pub held_bytes : List Wire → (values : List Bool) (bank : List ℕ) → List ℕ
held_bytes ws values = with_bank 0 (λ w b. cond (is_register w.gate) (byte (value w.gate (at values) [] [])) b) ws

-- the bank's bytes of registers; 0 in the place of all others
abbrev pub register_bytes : List Wire → (bank : List ℕ) → List ℕ
register_bytes = with_bank 0 (λ w b. cond (is_register w.gate) b 0)

-- one clock, from bytes: the values of the wires, and the bank's bytes of the wires behind it
module _ (ws : List Wire) (bank shares tape : List ℕ) where
  abbrev pub shown_on : List Bool
  shown_on = clock_values ws (bits bank) (bits shares) (bits tape)

  abbrev pub held_after : List ℕ
  held_after = held_bytes ws shown_on bank

-- a run of clocks, each fed with shares and a tape, from a bank on: the bank before a clock, and the values on it
module _ (ws : List Wire) (shares tapes : ℕ → List ℕ) (start : List ℕ) where
  unfoldable pub bank_on : (clock : ℕ) → List ℕ
  bank_on zero = start
  bank_on (suc clock) = overwrite (held_after ws (bank_on clock) (shares clock) (tapes clock)) (bank_on clock)

  abbrev pub values_on : (clock : ℕ) → List Bool
  values_on clock = shown_on ws (bank_on clock) (shares clock) (tapes clock)

-- the stages of the shares, or of the random bits, in their order: those of their wires. (A gadget's r stands at the stage of its wires b,
-- or of a REF's wires)
abbrev pub stages_where : (Gate → Bool) → List Wire → List ℕ
stages_where test ws = concat_map ws (λ w. cond (test w.gate) (stage_of w.place ∷ []) [])

-- the bits of a set: bit i is the one that is fed at place i on clock set + stage, the stage being the i-th of these
abbrev pub set_bits : (stages : List ℕ) (feed : ℕ → List ℕ) (set : ℕ) → List Bool
set_bits stages feed set = map (λ i. at (bits (feed (set + nth stages i))) i) (range 0 (length stages))

-- a wire shows on clock set + stage what a single evaluation of the set gives: for every feed, every set from 0 on, and whatever the bank
-- held at first
abbrev pub OnTime : Circuit → (x stage : ℕ) → Type 0
OnTime k x stage = (shares tapes : ℕ → List ℕ) (start : List ℕ) (set : ℕ)
    → at (values_on k.wires shares tapes start (set + stage)) x
    ≡ at (values_of k.wires (set_bits (stages_where is_input k.wires) shares set) (set_bits (stages_where is_random k.wires) tapes set)) x

-- the pipeline law of a table and its circuit: a set has as many bits as a single evaluation asks for, every wire is on time at its stage, and
-- so is every wire of an OUT, at the OUT's
pub record Pipelined (table : List ℕ) (k : Circuit) : Type 0 where
  pub d : ℕ
  pub fs : List Frame
  pub table_is : table ≡ 0 ∷ d ∷ words_of fs
  pub fit : AllFit (empty d) fs
  pub built : k ≡ build (empty d) fs
  pub shares_full : length (stages_where is_input k.wires) ≡ k.inputs * k.d
  pub tape_full : length (stages_where is_random k.wires) ≡ k.randoms
  pub wires : (x : ℕ) → x < size k → OnTime k x (stage_of (place k x))
  pub outputs : (before after : List Frame) (ops : List ℕ) → fs ≡ before ++ (frame OUT ops ∷ after)
      → (i : ℕ) → i < d → OnTime k (nth ops i) (new_stage (build (empty d) before) ops OUT)

-- a step, on a table with notes of these words, shares and tape, a value sheet and a bank
module _ (table notes shares tape values bank : List ℕ) where
  abbrev k : Circuit
  k = circuit_of table notes

  -- its judgement: that of an evaluation with both sheets, then 18 for a register's byte of the bank, counted on from the tape
  unfoldable pub clock_rule : Judgement
  clock_rule = call_rule table notes shares tape (values ∷ bank ∷ []) []
      then bytes_rule (length shares + length tape) (register_bytes k.wires bank)

  -- its answer, and the value sheet and the bank after it
  abbrev pub clock_answer : Answer
  clock_answer = answer k clock_rule

  abbrev pub values_after : List ℕ
  values_after = written clock_rule (bytes (shown_on k.wires bank shares tape)) values

  abbrev pub bank_after : List ℕ
  bank_after = written clock_rule (held_after k.wires bank shares tape) bank

-- only the registers' bytes of the bank are read: with any other bank of this length that has the same there, the answer, the values and the
-- registers' bytes after it are the same
abbrev pub RegistersAlone : (table notes shares tape values bank : List ℕ) → Type 0
RegistersAlone table notes shares tape values bank = let ws = (circuit_of table notes).wires in
    (other : List ℕ) → length other ≡ length bank → register_bytes ws other ≡ register_bytes ws bank
    → (clock_answer table notes shares tape values other ≡ clock_answer table notes shares tape values bank)
    × (values_after table notes shares tape values other ≡ values_after table notes shares tape values bank)
    × (register_bytes ws (bank_after table notes shares tape values other) ≡ register_bytes ws (bank_after table notes shares tape values bank))

-- behind an accepted step, the bank is as long as it was, and none of its registers' bytes is over 1: no later step is refused for it
abbrev pub BankStays : (table notes shares tape values bank : List ℕ) → Type 0
BankStays table notes shares tape values bank = let new = bank_after table notes shares tape values bank in
    clock_rule table notes shares tape values bank ≡ pass
    → (length new ≡ length bank) × ((i : ℕ) → bytes_rule i (register_bytes (circuit_of table notes).wires new) ≡ pass)

-- an accepted step is a clock of a run: with the bank before the clock and what the clock is fed, it shows the values on the clock and leaves the
-- bank before the next
abbrev pub IsClock : (table notes values : List ℕ) → Type 0
IsClock table notes values = let ws = (circuit_of table notes).wires in
    (shares tapes : ℕ → List ℕ) (start : List ℕ) (clock : ℕ) → let bank = bank_on ws shares tapes start clock in
    clock_rule table notes (shares clock) (tapes clock) values bank ≡ pass
    → (values_after table notes (shares clock) (tapes clock) values bank ≡ overwrite (bytes (values_on ws shares tapes start clock)) values)
    × (bank_after table notes (shares clock) (tapes clock) values bank ≡ bank_on ws shares tapes start (suc clock))
