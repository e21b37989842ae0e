-- A frame as the walk makes it: by its form, where the table has its words.
use Rattle.std.specs.Prelude.{cond, List, ℕ, zero, suc, leb, length, Option, Some, None}
use Rattle.circuit.specs.Lists.{nth}
use Rattle.frames.specs.declared.kinds.Form.{Form}
use Rattle.frames.specs.declared.kinds.Form.TheVariants.{ShareCount, Stage, Constant, Sum, Copy, Product, Refresh, Row}
use Rattle.frames.specs.declared.walk.Gate.{Gate}
use Rattle.frames.specs.declared.walk.Gate.TheVariants as gate
use Rattle.frames.specs.declared.walk.Frame.{Frame}
use Rattle.frames.specs.declared.walk.Frame.TheVariants as frame

-- NOT, or REG, whose wire stands a stage later
abbrev pub gate_after : (after wire : ℕ) → Gate
gate_after zero wire = gate.Not wire
gate_after (suc after) wire = gate.Reg wire

-- the frame of a form with its words
abbrev pub frame_in : Form → List ℕ → Frame
frame_in ShareCount ops = frame.Gate gate.Out
frame_in Stage ops = frame.Gate (gate.In (nth ops 0))
frame_in Constant ops = frame.Gate (gate.Con (nth ops 0) (nth ops 1) (nth ops 2))
frame_in Sum ops = frame.Gate (gate.Xor (nth ops 0) (nth ops 1))
frame_in (Copy after) ops = frame.Gate (gate_after after (nth ops 0))
frame_in Product ops = frame.And
frame_in Refresh ops = frame.Ref
frame_in Row ops = frame.Gate gate.Out

-- a frame of so many words, of which the table has what is left of it
abbrev pub framed_by : Frame → (count : ℕ) (rest : List ℕ) → Option Frame
framed_by fr n rest = cond (leb n (length rest)) (Some fr) None
