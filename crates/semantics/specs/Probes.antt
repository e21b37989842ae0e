-- Document 01, "What a probe reads".
use Rattle.std.specs.Prelude.{Bool, cond, List, [], ◌∷◌, ◌++◌, map, ℕ, length, get_or}
use Rattle.circuit.specs.Limits.{wire_limit}
use Rattle.circuit.specs.Lists.{mem, range, concat_map}
use Rattle.circuit.specs.Wires.{Gate, input, constant, random, reg, inverse, sum, product, and_not, is_stop, Wire}
use Rattle.semantics.specs.Values.{byte, at, values_of}

-- the wires that a gate takes
abbrev pub operands : Gate → List ℕ
operands (input n) = []
operands (constant b) = []
operands random = []
operands (reg x) = x ∷ []
operands (inverse x) = x ∷ []
operands (sum xs) = xs
operands (product x y) = x ∷ y ∷ []
operands (and_not x y) = x ∷ y ∷ []

-- what a probe on wire x reads, f being what probes on earlier wires read: a stop alone, or all that its operands reach
abbrev pub reads : (x : ℕ) → Gate → (f : ℕ → List ℕ) → List ℕ
reads x g f = cond (is_stop g) (x ∷ []) (concat_map (operands g) f)

abbrev pub read_by : List (List ℕ) → ℕ → List ℕ
read_by found x = get_or found x []

-- the stops that a probe on each wire reads, behind those found for the wires before them
abbrev pub stops_from : (found : List (List ℕ)) → List Wire → List (List ℕ)
stops_from found [] = found
stops_from found (w ∷ ws) = stops_from (found ++ (reads (length found) w.gate (read_by found) ∷ [])) ws

-- the stops that a list of probes reads
unfoldable pub stops : List Wire → (probes : List ℕ) → List ℕ
stops ws probes = let found = stops_from [] ws in concat_map probes (read_by found)

-- a sheet of 8,192 bytes: the wire's value where it is read, 2 elsewhere
unfoldable pub sheet : (read : List ℕ) (values : List Bool) → List ℕ
sheet read values = map (λ x. cond (mem x read) (byte (at values x)) 2) (range 0 wire_limit)

-- document 01's term: the reading of a list of probes, from bits of shares and tape
abbrev pub reading_of : List Wire → (probes : List ℕ) (shares tape : List Bool) → List ℕ
reading_of ws probes shares tape = sheet (stops ws probes) (values_of ws shares tape)
