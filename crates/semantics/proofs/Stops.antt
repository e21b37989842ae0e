-- What probes on wires read, wire by wire, where every gate takes earlier wires: from what probes on the wires before it read.
use mathlib.Core.Path.{◌≡◌, refl, sym, ap, ap₂, ◌∙◌}
use mathlib.Core.Bool.{cond}
use mathlib.Core.List.{List, [], ◌∷◌, ◌++◌}
use Prim.Native.Nat.{ℕ, suc, ◌+◌, ◌<◌}
use native.Mathlib.Omega.{arith}
use lib.ListN.{length, length-append, get_or-append}
use lib.Seq.{get_or-append_seam}
use Rattle.circuit.specs.Lists.{concat_map}
use Rattle.circuit.specs.Wires.{Gate, Wire, is_stop}
use Rattle.circuit.proofs.Base.{Every, every_imp, AllFrom}
use Rattle.semantics.specs.Probes.{operands, reads, read_by, stops_from}

-- what is found is kept
pub found_kept : (found : List (List ℕ)) (ws : List Wire) (y : ℕ) → y < length found → read_by (stops_from found ws) y ≡ read_by found y
found_kept found [] y l = refl
found_kept found (x ∷ ws) y l =
    let r = reads (length found) x.gate (read_by found) in
    found_kept (found ++ (r ∷ [])) ws y (omega (arith, length-append found (r ∷ []))) ∙ get_or-append found (r ∷ []) [] y l

pub stops-append : (found : List (List ℕ)) (ws more : List Wire) → stops_from found (ws ++ more) ≡ stops_from (stops_from found ws) more
stops-append found [] more = refl
stops-append found (x ∷ ws) more = stops-append (found ++ (reads (length found) x.gate (read_by found) ∷ [])) ws more

pub stops-length : (found : List (List ℕ)) (ws : List Wire) → length (stops_from found ws) ≡ length found + length ws
stops-length found [] = omega arith
stops-length found (x ∷ ws) =
    let r = reads (length found) x.gate (read_by found) in
    omega (arith, stops-length (found ++ (r ∷ [])) ws, length-append found (r ∷ []))

-- a gate's reading depends on the readings of its operands alone
concat_map-same : (f g : ℕ → List ℕ) (xs : List ℕ) → Every (λ y. f y ≡ g y) xs → concat_map xs f ≡ concat_map xs g
concat_map-same f g [] h = refl
concat_map-same f g (x ∷ xs) h = ap₂ (λ a b. a ++ b) h.0 (concat_map-same f g xs h.1)

reads_same : (n : ℕ) (g : Gate) (f f' : ℕ → List ℕ) → Every (λ y. f y ≡ f' y) (operands g) → reads n g f ≡ reads n g f'
reads_same n g f f' h = ap (λ l. cond (is_stop g) (n ∷ []) l) (concat_map-same f f' (operands g) h)

-- the reading of each wire, from the readings of earlier wires
pub stops_settled : (found : List (List ℕ)) (ws : List Wire) → AllFrom (λ x wire. Every (λ y. y < x) (operands wire.gate)) (length found) ws
    → AllFrom (λ x wire. read_by (stops_from found ws) x ≡ reads x wire.gate (read_by (stops_from found ws))) (length found) ws
stops_settled found [] h = tt
stops_settled found (x ∷ ws) h =
    let r = reads (length found) x.gate (read_by found) in
    let e : length (found ++ (r ∷ [])) ≡ suc (length found) = simp length-append (omega arith) in (
      found_kept (found ++ (r ∷ [])) ws (length found) (omega arith) ∙ get_or-append_seam found r [] []
          ∙ reads_same (length found) x.gate (read_by found) (read_by (stops_from found (x ∷ ws))) (every_imp (λ y. y < length found) _ (operands x.gate) (λ y l. sym (found_kept found (x ∷ ws) y l)) h.0),
      rw e at (stops_settled (found ++ (r ∷ [])) ws (rw e h.1)),
    )
