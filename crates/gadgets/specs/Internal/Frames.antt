-- What a frame's code rests on: numbers that stay small, earlier wires, bits for it; and how many wires it makes.
use Rattle.std.specs.Prelude.{◌≡◌, List, ℕ, ◌+◌, ◌-◌, ◌*◌, ◌≤◌, ◌<◌, length}
use Rattle.circuit.specs.Limits.{wire_limit}
use Rattle.circuit.specs.Kinds.{pairs}
use Rattle.frames.specs.declared.walk.Gate.{Gate as GateCode}
use Rattle.frames.specs.declared.walk.Gate.TheVariants as gate
use Rattle.frames.specs.declared.walk.Frame.{Frame as FrameCode}
use Rattle.frames.specs.declared.walk.Frame.TheVariants as frame
use Rattle.gadgets.specs.Internal.Places.{word_a, word_b, cross_start}

-- numbers that stay small
abbrev pub Small : (first d : ℕ) → Type 0
Small first d = (first ≤ wire_limit) × (0 < d) × (d ≤ 8)

-- d wires before another
abbrev pub RowBefore : (first d : ℕ) → (ℕ → ℕ) → Type 0
RowBefore first d wire = (i : ℕ) → i < d → wire i < first

-- room for AND's wires
abbrev pub Roomy : (d first : ℕ) → List ℕ → Type 0
Roomy d first values = first + cross_start d d + d ≤ length values

-- how many wires a frame makes
abbrev pub gate_wires : GateCode → ℕ → ℕ
gate_wires (gate.In t) d = d
gate_wires (gate.Con l b t) d = 1
gate_wires (gate.Xor x y) d = 1
gate_wires (gate.Not x) d = 1
gate_wires (gate.Reg x) d = 1
gate_wires gate.Out d = 0

abbrev pub frame_wires : FrameCode → ℕ → ℕ
frame_wires (frame.Gate g) d = gate_wires g d
frame_wires frame.And d = 7 * (d * (d - 1)) + 4 * d
frame_wires frame.Ref d = pairs d + 2 * d

-- a frame that takes earlier wires
abbrev pub GateEarly : GateCode → (first : ℕ) → Type 0
GateEarly (gate.In t) first = Unit {0}
GateEarly (gate.Con l b t) first = Unit {0}
GateEarly (gate.Xor x y) first = (x < first) × (y < first)
GateEarly (gate.Not x) first = x < first
GateEarly (gate.Reg x) first = x < first
GateEarly gate.Out first = Unit {0}

abbrev pub FrameEarly : FrameCode → (d first : ℕ) (ops : List ℕ) → Type 0
FrameEarly (frame.Gate g) d first ops = GateEarly g first
FrameEarly frame.And d first ops = (length ops ≡ 1 + d + d) × RowBefore first d (word_a ops) × RowBefore first d (word_b d ops)
FrameEarly frame.Ref d first ops = (1 + d ≤ length ops) × RowBefore first d (word_a ops)

-- with a share for each wire of an IN, and a random bit for each pair of a gadget
abbrev pub FrameSupplied : FrameCode → (d from used shares tape : ℕ) → Type 0
FrameSupplied (frame.Gate (gate.In t)) d from used shares tape = from + d ≤ shares
FrameSupplied (frame.Gate (gate.Con l b t)) d from used shares tape = Unit {0}
FrameSupplied (frame.Gate (gate.Xor x y)) d from used shares tape = Unit {0}
FrameSupplied (frame.Gate (gate.Not x)) d from used shares tape = Unit {0}
FrameSupplied (frame.Gate (gate.Reg x)) d from used shares tape = Unit {0}
FrameSupplied (frame.Gate gate.Out) d from used shares tape = Unit {0}
FrameSupplied frame.And d from used shares tape = used + pairs d ≤ tape
FrameSupplied frame.Ref d from used shares tape = used + pairs d ≤ tape

-- what holds of the wires that a frame names, and of those inside AND, which no frame names
abbrev pub GateNames : GateCode → (ℕ → Type 0) → Type 0
GateNames (gate.In t) P = Unit {0}
GateNames (gate.Con l b t) P = Unit {0}
GateNames (gate.Xor x y) P = P x × P y
GateNames (gate.Not x) P = P x
GateNames (gate.Reg x) P = P x
GateNames gate.Out P = Unit {0}

abbrev pub FrameNames : FrameCode → (d : ℕ) (ops : List ℕ) → (ℕ → Type 0) → Type 0
FrameNames (frame.Gate g) d ops P = GateNames g P
FrameNames frame.And d ops P = ((i : ℕ) → i < d → P (word_a ops i)) × ((i : ℕ) → i < d → P (word_b d ops i))
FrameNames frame.Ref d ops P = (i : ℕ) → i < d → P (word_a ops i)

abbrev pub FrameHides : FrameCode → (d first : ℕ) → (ℕ → Type 0) → Type 0
FrameHides (frame.Gate g) d first P = Unit {0}
FrameHides frame.And d first P = (x : ℕ) → first ≤ x → x < first + cross_start d d → P x
FrameHides frame.Ref d first P = Unit {0}
