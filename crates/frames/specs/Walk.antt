-- What the walk over the frames of a table answers, by the kind table and rules 5 and 6.
use Rattle.std.specs.Prelude.{cond, ◌&&◌, ◌≡◌, List, [], ◌∷◌, ◌++◌, ℕ, ◌+◌, ◌*◌, leb, ltb, length, take, drop, Option, Some, None, Result, Ok, Err}
use Rattle.circuit.specs.Lists.{nth}
use Rattle.circuit.specs.Kinds.{Kind, HEAD, IN, CON, XOR, NOT, REG, AND, REF, OUT, kind_of, WordRule, share_count, label, value, stage, random, like, share, before, registered, row, shape, words}
use Rattle.circuit.specs.Circuit.{Circuit, stage_shown, new_stage, look_up}
use Rattle.frames.specs.declared.kinds.Kind.{Kind as KindCode}
use Rattle.frames.specs.declared.kinds.Kind.TheVariants.{Head, In, Con, Xor, Not, Reg, And, Ref, Out}
use Rattle.frames.specs.declared.kinds.Form.{Form}
use Rattle.frames.specs.declared.kinds.Form.TheVariants.{ShareCount, Stage, Constant, Sum, Copy, Product, Refresh, Row}
use Rattle.frames.specs.declared.kinds.Shape.{Shape as ShapeCode}
use Rattle.frames.specs.declared.walk.Gate.TheVariants as gate
use Rattle.frames.specs.declared.walk.Frame.{Frame}
use Rattle.frames.specs.declared.walk.Frame.TheVariants as frame
use Rattle.frames.specs.declared.walk.Walk.{Walk}
use Rattle.frames.specs.declared.walk.Next.{Next}
use Rattle.circuit.specs.declared.rules.Rule.{Rule}
use Rattle.circuit.specs.declared.rules.Rule.TheVariants as rule

-- the code's name of a kind, and the form of its words
abbrev pub kind_code : Kind → KindCode
kind_code HEAD = Head
kind_code IN = In
kind_code CON = Con
kind_code XOR = Xor
kind_code NOT = Not
kind_code REG = Reg
kind_code AND = And
kind_code REF = Ref
kind_code OUT = Out

abbrev pub form_of : Kind → Form
form_of HEAD = ShareCount
form_of IN = Stage
form_of CON = Constant
form_of XOR = Sum
form_of NOT = Copy 0
form_of REG = Copy 1
form_of AND = Product
form_of REF = Refresh
form_of OUT = Row

-- what a form asks of the words after the kind
abbrev pub rules_of : ℕ → Form → List WordRule
rules_of d ShareCount = share_count ∷ []
rules_of d Stage = stage ∷ []
rules_of d Constant = label ∷ value ∷ stage ∷ []
rules_of d Sum = like 0 ∷ like 0 ∷ []
rules_of d (Copy after) = like 0 ∷ []
rules_of d Product = random ∷ row share 1 d ++ row before 1 d
rules_of d Refresh = random ∷ row share 1 d
rules_of d Row = row registered 0 d

-- the stage of the wires that a form makes for others to name, from the stages that the wires at places of the frame show; of
-- a row that makes none, that of its wires
abbrev pub stage_made : Form → (ops : List ℕ) (shown : ℕ → ℕ) → ℕ
stage_made ShareCount ops shown = 0
stage_made Stage ops shown = nth ops 0
stage_made Constant ops shown = nth ops 2
stage_made Sum ops shown = shown 0
stage_made (Copy after) ops shown = shown 0 + after
stage_made Product ops shown = shown 1 + 1
stage_made Refresh ops shown = shown 1 + 1
stage_made Row ops shown = shown 0

-- a form that means a kind: it asks the kind's rules of the words, and makes wires at the kind's stage
pub record Means (d : ℕ) (form : Form) (kind : Kind) : Type 0 where
  pub rules : rules_of d form ≡ (shape d kind).rules
  pub stages : (k : Circuit) (ops : List ℕ) → stage_made form ops (λ i. stage_shown (look_up k (nth ops i))) ≡ new_stage k ops kind

-- what a kind decides, as the code holds it
abbrev pub kind_line : KindCode → Form → (words wires randoms inputs : ℕ) → ShapeCode
kind_line kind form n wires randoms inputs = record { kind = kind; form = form; words = n; wires = wires; randoms = randoms; inputs = inputs }

abbrev pub shape_code : ℕ → Kind → ShapeCode
shape_code d kind = kind_line (kind_code kind) (form_of kind) (words d kind) (shape d kind).wires (shape d kind).randoms (shape d kind).inputs

-- a number of AND, of REF, or of any other kind
abbrev pub by_gadget : Kind → (and ref other : ℕ) → ℕ
by_gadget HEAD a r x = x
by_gadget IN a r x = x
by_gadget CON a r x = x
by_gadget XOR a r x = x
by_gadget NOT a r x = x
by_gadget REG a r x = x
by_gadget AND a r x = a
by_gadget REF a r x = r
by_gadget OUT a r x = x

-- what a kind decides where a gadget is said to take so many random bits, each a wire of REF's
abbrev pub shape_taking : (randoms d : ℕ) → Kind → ShapeCode
shape_taking n d kind =
    let wires = (shape d kind).wires in
    kind_line (kind_code kind) (form_of kind) (words d kind) (by_gadget kind wires (n + 2 * d) wires) (by_gadget kind n n 0) (shape d kind).inputs

-- a frame, as the code holds it: a gate with its words, or a gadget
abbrev pub frame_code : KindCode → List ℕ → Frame
frame_code Head ops = frame.Gate gate.Out
frame_code In ops = frame.Gate (gate.In (nth ops 0))
frame_code Con ops = frame.Gate (gate.Con (nth ops 0) (nth ops 1) (nth ops 2))
frame_code Xor ops = frame.Gate (gate.Xor (nth ops 0) (nth ops 1))
frame_code Not ops = frame.Gate (gate.Not (nth ops 0))
frame_code Reg ops = frame.Gate (gate.Reg (nth ops 0))
frame_code And ops = frame.And
frame_code Ref ops = frame.Ref
frame_code Out ops = frame.Gate gate.Out

-- the words after the kind word at a place of the table, as far as the table goes
abbrev pub operands_at : List ℕ → (d at : ℕ) → List ℕ
operands_at table d at = take (words d (kind_of (nth table at))) (drop (at + 1) table)

-- the walk behind a frame
abbrev pub behind : (d at count : ℕ) → Walk
behind d at count = record { d = d; at = at + 1 + count }

-- a frame, what its kind decides, and the walk behind it
abbrev pub next : Frame → ShapeCode → Walk → Next
next frame shape walk = record { frame = frame; shape = shape; walk = walk }

-- what stands at a place of the table: its end; rule 5, no kind; 6, too few words; or a frame, with what its kind decides
abbrev pub step_with : (Kind → ShapeCode) → List ℕ → (d at : ℕ) → Result (Option Next) Rule
step_with shapes table d at =
    let kind = kind_of (nth table at) in
    cond (ltb at (length table))
    (cond (leb 1 (nth table at) && leb (nth table at) 8)
    (cond (leb (words d kind) (length (drop (at + 1) table)))
    (Ok (Some (next (frame_code (kind_code kind) (operands_at table d at)) (shapes kind) (behind d at (words d kind)))))
    (Err rule.WordCount))
    (Err rule.Kind))
    (Ok None)

-- with the kind table's numbers
abbrev pub step_at : List ℕ → (d at : ℕ) → Result (Option Next) Rule
step_at table d at = step_with (shape_code d) table d at
