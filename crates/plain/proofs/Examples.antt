-- Small tables held against the definitions: which frames fit, at which frame 26 is named, and what the plain circuit is. All computed.
use mathlib.Core.Path.{◌≡◌, refl}
use mathlib.Core.Bool.{true, false}
use mathlib.Core.List.{List, [], ◌∷◌, map}
use Prim.Native.Nat.{ℕ}
use Rattle.circuit.specs.Gadgets.{in_ref, index, gadget}
use Rattle.circuit.specs.Kinds.{kind_of, shape}
use Rattle.circuit.specs.Circuit.{new_stage, made}
use Rattle.circuit.specs.Rules.{Judgement, pass, refuse}
use Rattle.plain.specs.Sharings.{PlainGate, secret, constant, same, inverse, sum, fits, joined, groups_from, whole_from, frames_from, whole_of}
use Rattle.plain.specs.Plain.{plain_values}

abbrev judged : List ℕ → Judgement
judged table = (whole_of table).judgement

abbrev gates : List ℕ → List PlainGate
gates table = map (λ s. s.gate) (whole_of table).plain.sharings

-- two INs with two shares, wires 0 to 3, at stage 0, and one frame or more behind them
abbrev two_inputs : List ℕ → List ℕ
two_inputs rest = 0 ∷ 2 ∷ 1 ∷ 0 ∷ 1 ∷ 0 ∷ rest

-- frames that fit: NOTs, XORs of two sharings and of one with itself, REGs, CONs, a REF and an OUT
abbrev whole_table : List ℕ
whole_table = two_inputs (4 ∷ 0 ∷ 4 ∷ 1 ∷ 3 ∷ 4 ∷ 2 ∷ 3 ∷ 5 ∷ 3 ∷ 3 ∷ 6 ∷ 6 ∷ 3 ∷ 7 ∷ 7 ∷ 5 ∷ 6 ∷ 5 ∷ 7
    ∷ 2 ∷ 0 ∷ 1 ∷ 9 ∷ 2 ∷ 1 ∷ 0 ∷ 9 ∷ 7 ∷ 0 ∷ 2 ∷ 3 ∷ 8 ∷ 10 ∷ 11 ∷ [])

whole : judged whole_table ≡ pass
unfolding whole_of whole_from groups_from frames_from fits joined kind_of shape new_stage made gadget index in_ref
whole = refl

-- and their plain gates; two NOTs leave the plain bit as it is
plain-gates : gates whole_table ≡ secret 0 ∷ secret 1 ∷ same 0 ∷ sum 2 1 ∷ sum 3 3 ∷ same 3 ∷ constant true ∷ same 1 ∷ []
unfolding whole_of whole_from groups_from frames_from fits joined kind_of shape new_stage made gadget index in_ref
plain-gates = refl

-- three NOTs flip it
three_nots : gates (0 ∷ 3 ∷ 1 ∷ 0 ∷ 4 ∷ 0 ∷ 4 ∷ 1 ∷ 4 ∷ 2 ∷ []) ≡ secret 0 ∷ inverse 0 ∷ []
unfolding whole_of whole_from groups_from frames_from fits joined kind_of shape made
three_nots = refl

three_nots_value : plain_values (whole_of (0 ∷ 3 ∷ 1 ∷ 0 ∷ 4 ∷ 0 ∷ 4 ∷ 1 ∷ 4 ∷ 2 ∷ [])).plain (true ∷ []) ≡ true ∷ false ∷ []
unfolding whole_of whole_from groups_from frames_from fits joined kind_of shape made
three_nots_value = refl

-- frames that do not, each with where 26 is named: labels out of order; wires of two sharings; a run cut short by the table's end, by another
-- kind, by an OUT; second words of two sharings; constants at two stages; a row of two sharings
misfits : map (λ rest. judged (two_inputs rest)) (
    (4 ∷ 1 ∷ 4 ∷ 0 ∷ []) ∷ (4 ∷ 0 ∷ 4 ∷ 3 ∷ []) ∷ (5 ∷ 0 ∷ 5 ∷ 1 ∷ 4 ∷ 0 ∷ []) ∷ (4 ∷ 0 ∷ 5 ∷ 1 ∷ []) ∷ (4 ∷ 0 ∷ 8 ∷ 0 ∷ 1 ∷ 4 ∷ 1 ∷ [])
    ∷ (3 ∷ 0 ∷ 0 ∷ 3 ∷ 1 ∷ 3 ∷ []) ∷ (2 ∷ 0 ∷ 0 ∷ 0 ∷ 2 ∷ 1 ∷ 0 ∷ 1 ∷ []) ∷ (8 ∷ 0 ∷ 1 ∷ 7 ∷ 0 ∷ 0 ∷ 3 ∷ []) ∷ (8 ∷ 0 ∷ 3 ∷ []) ∷ [])
    ≡ refuse 26 3 0 ∷ refuse 26 3 0 ∷ refuse 26 5 0 ∷ refuse 26 3 0 ∷ refuse 26 3 0 ∷ refuse 26 3 0 ∷ refuse 26 3 0 ∷ refuse 26 4 0 ∷ refuse 26 3 0 ∷ []
unfolding whole_of whole_from groups_from frames_from fits joined kind_of shape new_stage made
misfits = refl
