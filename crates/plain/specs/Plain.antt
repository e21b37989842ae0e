-- Document 02, the plain circuit: its values from the secret bits, and what the added shares of a masked circuit have to do with them.
use Rattle.std.specs.Prelude.{◌≡◌, Bool, not, ◌&&◌, List, [], ◌∷◌, ◌++◌, map, ℕ, ◌<◌, length, get_or}
use Rattle.circuit.specs.Lists.{◌⊕◌, range, filter, concat_map}
use Rattle.circuit.specs.Kinds.{OUT, kinds_agree}
use Rattle.circuit.specs.Circuit.{Circuit, size, is_named, look_up}
use Rattle.circuit.specs.Composition.{Frame, Row}
use Rattle.semantics.specs.Values.{at, xor_sum, values_of}
use Rattle.semantics.specs.Counts.{secrets_of}
use Rattle.plain.specs.Sharings.{PlainGate, secret, constant, same, inverse, sum, product, Plain, frames_in}

-- the value of a plain gate, from the values f of earlier sharings and the secret bits
abbrev pub plain_value : PlainGate → (f : ℕ → Bool) (secrets : List Bool) → Bool
plain_value (secret n) f secrets = at secrets n
plain_value (constant b) f secrets = b
plain_value (same x) f secrets = f x
plain_value (inverse x) f secrets = not (f x)
plain_value (sum x y) f secrets = f x ⊕ f y
plain_value (product x y) f secrets = f x && f y

-- the values of gates, behind the values `before` of those before them; and those of a plain circuit
abbrev pub plain_from : (secrets before : List Bool) → List PlainGate → List Bool
plain_from secrets before [] = before
plain_from secrets before (g ∷ gs) = plain_from secrets (before ++ (plain_value g (at before) secrets ∷ [])) gs

abbrev pub plain_values : Plain → (secrets : List Bool) → List Bool
plain_values p secrets = plain_from secrets [] (map (λ s. s.gate) p.sharings)

-- the rows of the OUTs among frames
abbrev pub out_rows : List Frame → List (List ℕ)
out_rows fs = concat_map fs (λ f. elim (kinds_agree OUT f.kind) [ yes _ ↦ f.ops ∷ [] | no _ ↦ [] ])

-- the added shares of rows of wires, of which each is d wires
abbrev pub added_shares : List (List ℕ) → (values : List Bool) → List Bool
added_shares rows values = map (λ ws. xor_sum ws (at values)) rows

abbrev pub rows_of : Plain → List (List ℕ)
rows_of p = map (λ s. s.wires) p.sharings

-- what a plain circuit p has to do with the circuit k of a table
pub record IsPlainOf (table : List ℕ) (k : Circuit) (p : Plain) : Type 0 where
  -- the wires of the sharings, one after the other, are all wires that frames can name, each once
  pub each_once : concat_map (rows_of p) (λ ws. ws) ≡ filter (λ x. is_named (look_up k x)) (range 0 (size k))
  -- the wires of a sharing have the labels 0 to d−1 and one stage
  pub in_rows : (n : ℕ) → n < length p.sharings → (t : ℕ) × Row k (get_or (rows_of p) n []) 0 t
  -- for all shares and tapes, the added shares of every sharing are its plain value on the added inputs
  pub sharings_add : (shares tape : List Bool)
      → added_shares (rows_of p) (values_of k.wires shares tape) ≡ plain_values p (secrets_of k.d k.inputs shares)
  -- and so are those of every OUT
  pub outputs_add : (shares tape : List Bool)
      → added_shares (out_rows (frames_in table)) (values_of k.wires shares tape) ≡ map (at (plain_values p (secrets_of k.d k.inputs shares))) p.outputs
