-- The stages that the latency is taken from, as the code keeps them.
use mathlib.Core.List.{List, foldr}
use Rattle.std.specs.Prelude.{ℕ, suc, ◌-◌, min, max}
use Rattle.circuit.specs.Limits.{stage_limit}
use Rattle.circuit.specs.Kinds.{IN, OUT}
use Rattle.circuit.specs.Circuit.{Staged}
use Rattle.circuit.specs.Latency.{stages_of}
use Rattle.frames.specs.declared.kinds.Form.{Form}
use Rattle.frames.specs.declared.kinds.Form.TheVariants.{ShareCount, Stage, Constant, Sum, Copy, Product, Refresh, Row}
use Rattle.checker.specs.declared.span.Span.{Span}

-- the lowest stage of an IN and the highest of an OUT; of no frames; and of a circuit's frames
abbrev pub span : (lowest highest : ℕ) → Span
span a b = record { lowest = a; highest = b }

abbrev pub no_span : Span
no_span = span (suc stage_limit) 0

abbrev pub span_of : List Staged → Span
span_of frames = span (foldr min (suc stage_limit) (stages_of IN frames)) (foldr max 0 (stages_of OUT frames))

-- with an IN or an OUT at a stage more, and with any form
abbrev pub with_input : Span → ℕ → Span
with_input s t = span (min s.lowest t) s.highest

abbrev pub with_output : Span → ℕ → Span
with_output s t = span s.lowest (max s.highest t)

abbrev pub span_in : Form → Span → (stage : ℕ) → Span
span_in ShareCount s t = s
span_in Stage s t = with_input s t
span_in Constant s t = s
span_in Sum s t = s
span_in (Copy after) s t = s
span_in Product s t = s
span_in Refresh s t = s
span_in Row s t = with_output s t

-- the latency, once all frames are taken
abbrev pub latency_in : Span → ℕ
latency_in s = s.highest - s.lowest
