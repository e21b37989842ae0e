-- Document 02, the latency: the clocks from the first input to the last output.
use mathlib.Core.List.{List, [], ◌∷◌, foldr}
use Rattle.std.specs.Prelude.{ℕ, ◌-◌, min, max}
use Rattle.circuit.specs.Lists.{concat_map}
use Rattle.circuit.specs.Kinds.{Kind, IN, OUT, kinds_agree}
use Rattle.circuit.specs.Circuit.{Circuit, Staged}

-- the stages of the frames of one kind
abbrev pub stages_of : Kind → List Staged → List ℕ
stages_of kind frames = concat_map frames (λ f. elim (kinds_agree kind f.kind) [ yes _ ↦ f.stage ∷ [] | no _ ↦ [] ])

-- the highest OUT stage less the lowest IN stage; 0 without an IN, and, as a difference stops at 0, without an OUT or where that
-- OUT stage is below that IN stage
abbrev pub latency_of : (ins outs : List ℕ) → ℕ
latency_of [] outs = 0
latency_of (t ∷ ins) outs = foldr max 0 outs - foldr min t ins

abbrev pub latency : Circuit → ℕ
latency k = latency_of (stages_of IN k.frames) (stages_of OUT k.frames)
