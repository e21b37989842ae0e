-- The values of wires: as many as the wires.
use mathlib.Core.Path.{◌≡◌, ◌∙◌}
use mathlib.Core.Bool.{Bool}
use mathlib.Core.List.{List, [], ◌∷◌, ◌++◌}
use Prim.Native.Nat.{◌+◌}
use native.Mathlib.Omega.{arith}
use lib.ListN.{length, length-append}
use Rattle.circuit.specs.Wires.{Wire}
use Rattle.semantics.specs.Values.{at, value, values_from}

pub values_length : (sh t before : List Bool) (ws : List Wire) → length (values_from sh t before ws) ≡ length before + length ws
values_length sh t before [] = omega arith
values_length sh t before (w ∷ ws) = values_length sh _ (before ++ (value w.gate (at before) sh t ∷ [])) ws ∙ omega (arith, length-append before (value w.gate (at before) sh t ∷ []))
