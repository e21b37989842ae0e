-- Document 01, "Calls and their sheets": the value of each wire.
use Rattle.std.specs.Prelude.{Bool, true, false, cond, not, ◌&&◌, List, [], ◌∷◌, ◌++◌, map, ℕ, get_or, drop}
use Rattle.circuit.specs.Lists.{◌⊕◌}
use Rattle.circuit.specs.Wires.{Gate, input, constant, random, reg, inverse, sum, product, and_not, Wire}
use Rattle.circuit.specs.Circuit.{is_set}

-- bytes as bits, and back
abbrev pub bits : List ℕ → List Bool
bits = map is_set

abbrev pub byte : Bool → ℕ
byte false = 0
byte true = 1

abbrev pub bytes : List Bool → List ℕ
bytes = map byte

-- the bit at a place of a list
abbrev pub at : List Bool → ℕ → Bool
at bs n = get_or bs n false

-- the sum modulo 2 of the values of wires
abbrev pub xor_sum : List ℕ → (ℕ → Bool) → Bool
xor_sum [] f = false
xor_sum (x ∷ xs) f = f x ⊕ xor_sum xs f

-- the value of a gate, from the values f of earlier wires, the shares, and the tape from here on
abbrev pub value : Gate → (f : ℕ → Bool) (shares tape : List Bool) → Bool
value (input n) f shares tape = at shares n
value (constant b) f shares tape = b
value random f shares tape = at tape 0
value (reg x) f shares tape = f x
value (inverse x) f shares tape = not (f x)
value (sum xs) f shares tape = xor_sum xs f
value (product x y) f shares tape = f x && f y
value (and_not x y) f shares tape = not (f x) && f y

abbrev pub is_random : Gate → Bool
is_random (input n) = false
is_random (constant b) = false
is_random random = true
is_random (reg x) = false
is_random (inverse x) = false
is_random (sum xs) = false
is_random (product x y) = false
is_random (and_not x y) = false

-- the values of wires, behind the values `before` of the wires before them; a random bit takes the next bit of the tape
abbrev pub values_from : (shares tape before : List Bool) → List Wire → List Bool
values_from shares tape before [] = before
values_from shares tape before (w ∷ ws) =
    values_from shares (cond (is_random w.gate) (drop 1 tape) tape) (before ++ (value w.gate (at before) shares tape ∷ [])) ws

abbrev pub values_of : List Wire → (shares tape : List Bool) → List Bool
values_of ws shares tape = values_from shares tape [] ws
