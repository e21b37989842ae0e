-- The theorems are not empty: circuit A of document 01 is accepted and the equal counts hold of it, and where a rule is broken, or as
-- many wires are probed as there are shares, the counts differ. All computed.
use mathlib.Core.Path.{◌≡◌, refl, sym, ◌∙◌}
use mathlib.Core.Bool.{true, false}
use mathlib.Core.List.{List, [], ◌∷◌, ◌++◌}
use Prim.Native.Nat.{ℕ}
use native.Mathlib.Omega.{arith}
use lib.ListN.{replicate}
use Rattle.circuit.specs.Limits.{notes_room}
use Rattle.circuit.specs.Gadgets.{in_and, index, gadget}
use Rattle.circuit.specs.Kinds.{IN, XOR, kind_of, shape}
use Rattle.circuit.specs.Circuit.{Circuit, empty, new_stage, made, extend}
use Rattle.circuit.specs.Rules.{pass, words_rule, frame_rule, frames, head_rule, checked}
use Rattle.semantics.specs.Probes.{stops, sheet}
use Rattle.semantics.specs.Counts.{pairs_for, EqualCounts}
use Rattle.secrecy.proofs.Accepted.{equal_counts}

-- circuit A
abbrev table_a : List ℕ
table_a = 0 ∷ 2 ∷ 1 ∷ 1 ∷ 1 ∷ 0 ∷ 6 ∷ 0 ∷ 0 ∷ 1 ∷ 2 ∷ 3 ∷ 5 ∷ 0x18 ∷ 5 ∷ 0x19 ∷ 8 ∷ 0x1A ∷ 0x1B ∷ []

accepted_a : (checked table_a notes_room).judgement ≡ pass
unfolding checked head_rule frames frame_rule words_rule kind_of shape new_stage made gadget index in_and
accepted_a = refl

-- one probe on A, wherever it stands, tells nothing of the secret bits
secret_a : (probe : ℕ) → EqualCounts (checked table_a notes_room).circuit (probe ∷ [])
secret_a probe = equal_counts table_a notes_room accepted_a (probe ∷ [])

-- the reading in which wires 0 and 1 are read, and both are 1
abbrev ones : List ℕ
ones = (1 ∷ 1 ∷ []) ++ replicate 8190 2

-- two probes on the two shares of an IN: the counts are not all the same
abbrev input : Circuit
input = extend (empty 2) (0 ∷ []) IN

told_false : pairs_for input (0 ∷ 1 ∷ []) (false ∷ []) ones ≡ 1
unfolding made shape pairs_for sheet stops
told_false = refl

told_true : pairs_for input (0 ∷ 1 ∷ []) (true ∷ []) ones ≡ 0
unfolding made shape pairs_for sheet stops
told_true = refl

-- a wire that adds two shares of one IN, which the rule of labels forbids: one probe tells the secret bit
abbrev leaky : Circuit
leaky = extend input (0 ∷ 1 ∷ []) XOR

leaky_false : pairs_for leaky (2 ∷ []) (false ∷ []) ones ≡ 1
unfolding made shape pairs_for sheet stops
leaky_false = refl

leaky_true : pairs_for leaky (2 ∷ []) (true ∷ []) ones ≡ 0
unfolding made shape pairs_for sheet stops
leaky_true = refl

pub leaky_unequal : EqualCounts leaky (2 ∷ []) → ⊥
unfolding shape
leaky_unequal equal = omega (arith, sym leaky_false ∙ equal (omega arith) (false ∷ []) (true ∷ []) refl refl ones ∙ leaky_true)
