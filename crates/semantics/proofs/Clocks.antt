-- Circuit A run for five clocks, worked out by hand: two sets, fed one clock after the other, come out three clocks later, one clock after the other.
use mathlib.Core.Path.{◌≡◌, refl}
use mathlib.Core.List.{List, [], ◌∷◌, ◌++◌, map}
use Prim.Native.Nat.{ℕ}
use lib.ListN.{get_or, take, drop, set, replicate}
use Rattle.circuit.specs.Limits.{wire_limit}
use Rattle.circuit.specs.Lists.{range}
use Rattle.circuit.specs.Wires.{Wire}
use Rattle.circuit.specs.Gadgets.{in_and, in_ref, index, gadget}
use Rattle.circuit.specs.Kinds.{kind_of, shape}
use Rattle.circuit.specs.Circuit.{new_stage, made}
use Rattle.circuit.specs.Rules.{words_rule, frame_rule, frames, head_rule, checked}
use Rattle.circuit.specs.Answer.{accepted, refused}
use Rattle.semantics.specs.Values.{bytes, is_random}
use Rattle.semantics.specs.Calls.{circuit_of, bytes_rule, probes_rule, sheets_rule, call_rule}
use Rattle.semantics.specs.Clock.{is_input, bank_on, values_on, stages_where, set_bits, clock_rule, clock_answer}
use Rattle.semantics.specs.Cases.{A, notes, room}

-- its wires; to unfold them is to unfold the check
wires_a : List Wire
unfolding checked head_rule frames frame_rule words_rule kind_of shape new_stage made gadget index in_and in_ref
wires_a = (circuit_of A notes).wires

-- set 0 has the shares 1 0 | 1 1 and the bit 1, set 1 has 0 1 | 1 0 and 0. The first IN stands at stage 1, the second IN and the AND's r at 0
abbrev shares : ℕ → List ℕ
shares clock = get_or ((1 ∷ 1 ∷ 1 ∷ 1 ∷ []) ∷ (1 ∷ 0 ∷ 1 ∷ 0 ∷ []) ∷ (0 ∷ 1 ∷ 0 ∷ 0 ∷ []) ∷ []) clock (0 ∷ 0 ∷ 0 ∷ 0 ∷ [])

abbrev tapes : ℕ → List ℕ
tapes clock = get_or ((1 ∷ []) ∷ []) clock (0 ∷ [])

sets_are : map (λ n. bytes (set_bits (stages_where is_input wires_a) shares n) ++ bytes (set_bits (stages_where is_random wires_a) tapes n)) (range 0 2)
    ≡ (1 ∷ 0 ∷ 1 ∷ 1 ∷ 1 ∷ []) ∷ (0 ∷ 1 ∷ 1 ∷ 0 ∷ 0 ∷ []) ∷ []
unfolding wires_a
sets_are = refl

-- the INs; r R; B m M of each share; u U v V w W of each pair; the AND's outputs, and the two REG, which show set 0 on clock 3 and set 1 on clock 4
values_are : map (λ clock. bytes (values_on wires_a shares tapes room clock)) (range 0 5)
    ≡ ((1 ∷ 1 ∷ 1 ∷ 1 ∷ []) ++ (1 ∷ 0 ∷ []) ++ (0 ∷ 0 ∷ 0 ∷ 0 ∷ 0 ∷ 0 ∷ []) ++ (0 ∷ 0 ∷ 0 ∷ 0 ∷ 0 ∷ 0 ∷ []) ++ (0 ∷ 0 ∷ 0 ∷ 0 ∷ 0 ∷ 0 ∷ []) ++ (0 ∷ 0 ∷ 0 ∷ 0 ∷ []))
    ∷ ((1 ∷ 0 ∷ 1 ∷ 0 ∷ []) ++ (0 ∷ 1 ∷ []) ++ (1 ∷ 1 ∷ 0 ∷ 1 ∷ 0 ∷ 0 ∷ []) ++ (0 ∷ 0 ∷ 0 ∷ 0 ∷ 0 ∷ 0 ∷ []) ++ (1 ∷ 0 ∷ 1 ∷ 0 ∷ 0 ∷ 0 ∷ []) ++ (0 ∷ 0 ∷ 0 ∷ 0 ∷ []))
    ∷ ((0 ∷ 1 ∷ 0 ∷ 0 ∷ []) ++ (0 ∷ 0 ∷ []) ++ (1 ∷ 0 ∷ 1 ∷ 0 ∷ 0 ∷ 0 ∷ []) ++ (0 ∷ 0 ∷ 0 ∷ 0 ∷ 0 ∷ 0 ∷ []) ++ (0 ∷ 1 ∷ 0 ∷ 1 ∷ 1 ∷ 0 ∷ []) ++ (1 ∷ 1 ∷ 0 ∷ 0 ∷ []))
    ∷ ((0 ∷ 0 ∷ 0 ∷ 0 ∷ []) ++ (0 ∷ 0 ∷ []) ++ (0 ∷ 0 ∷ 0 ∷ 0 ∷ 0 ∷ 0 ∷ []) ++ (0 ∷ 0 ∷ 0 ∷ 0 ∷ 0 ∷ 0 ∷ []) ++ (0 ∷ 0 ∷ 0 ∷ 0 ∷ 0 ∷ 1 ∷ []) ++ (0 ∷ 1 ∷ 1 ∷ 1 ∷ []))
    ∷ (replicate 27 0 ++ (1 ∷ []))
    ∷ []
unfolding bank_on wires_a
values_are = refl

-- the bank after clocks 0, 1 and 2: registers only
bank_is : map (λ clock. take 28 (bank_on wires_a shares tapes room clock)) (range 1 3)
    ≡ (replicate 4 0 ++ (0 ∷ 1 ∷ []) ++ (1 ∷ 0 ∷ 0 ∷ 1 ∷ 0 ∷ 0 ∷ []) ++ replicate 16 0)
    ∷ (replicate 4 0 ++ (0 ∷ 0 ∷ []) ++ (1 ∷ 0 ∷ 1 ∷ 0 ∷ 0 ∷ 0 ∷ []) ++ replicate 6 0 ++ (0 ∷ 1 ∷ 0 ∷ 1 ∷ 0 ∷ 0 ∷ []) ++ replicate 4 0)
    ∷ (replicate 18 0 ++ (0 ∷ 0 ∷ 0 ∷ 0 ∷ 0 ∷ 1 ∷ []) ++ (0 ∷ 0 ∷ 1 ∷ 1 ∷ []))
    ∷ []
unfolding bank_on wires_a
bank_is = refl

-- whatever the bank held at first, set 0 and set 1 come out the same; and a clock leaves the bytes of all but registers
from-ones : map (λ clock. drop 26 (bytes (values_on wires_a shares tapes (replicate wire_limit 1) clock))) (range 3 2) ≡ (1 ∷ 1 ∷ []) ∷ (0 ∷ 1 ∷ []) ∷ []
unfolding bank_on wires_a
from-ones = refl

ones_kept : take 28 (bank_on wires_a shares tapes (replicate wire_limit 1) 1) ≡ replicate 12 1 ++ (1 ∷ 0 ∷ 1 ∷ 0 ∷ 1 ∷ 1 ∷ []) ++ (1 ∷ 0 ∷ 1 ∷ 0 ∷ 1 ∷ 1 ∷ []) ++ replicate 4 1
unfolding bank_on wires_a
ones_kept = refl

-- a bank that is too short; a byte over 1 of a register, R of number 5 and the last REG; and one of r, which is no register
answers-are : map (clock_answer A notes (shares 0) (tapes 0) room) (room ∷ replicate 8191 0 ∷ set room 5 2 ∷ set room 27 3 ∷ set room 4 2 ∷ [])
    ≡ accepted 28 1 3 ∷ refused 17 0 0 ∷ refused 18 0 10 ∷ refused 18 0 32 ∷ accepted 28 1 3 ∷ []
unfolding clock_rule call_rule bytes_rule probes_rule sheets_rule wires_a
answers-are = refl
