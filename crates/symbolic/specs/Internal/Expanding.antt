-- What expanding a frame writes, and what a table that is expanded tells.
use Rattle.std.specs.Prelude.{◌≡◌, Bool, true, cond, List, map, ℕ, ◌+◌, ◌≤◌, ◌<◌, set}
use Rattle.std.specs.Int.Bits.{bit_xor}
use Rattle.circuit.specs.Limits.{wire_limit}
use Rattle.circuit.specs.Lists.{nth}
use Rattle.circuit.specs.Circuit.{is_set, size}
use Rattle.frames.specs.declared.walk.Gate.{Gate as GateCode}
use Rattle.frames.specs.declared.walk.Gate.TheVariants as gate
use Rattle.frames.specs.declared.walk.Frame.{Frame as FrameCode}
use Rattle.frames.specs.declared.walk.Frame.TheVariants as frame
use Rattle.gadgets.specs.Internal.Accepting.{circuit_in}
use Rattle.gadgets.specs.Internal.Frames.{gate_wires, GateEarly, FrameSupplied}
use Rattle.simulation.specs.Internal.Filling.{Values}
use Rattle.simulation.specs.Internal.Evaluating.{packed, Packs}
use Rattle.simulation.specs.Internal.Walked.{values_at}
use Rattle.symbolic.specs.Internal.Sums.{added, term_word, BoundedTerms}
use Rattle.symbolic.specs.Internal.Terms.{one, AndAsks, RefAsks, ReadsInside, WritesOutputs, Copies, Refreshes}

-- a gate
abbrev pub GateWrites : GateCode → (d first from : ℕ) (shares old new : List ℕ) → Type 0
GateWrites (gate.In t) d first from shares old new = Copies shares from first d old new
GateWrites (gate.Con l b t) d first from shares old new = new ≡ set old first (cond (is_set b) one 0)
GateWrites (gate.Xor x y) d first from shares old new = new ≡ set old first (bit_xor (nth old x) (nth old y))
GateWrites (gate.Not x) d first from shares old new = new ≡ set old first (bit_xor one (nth old x))
GateWrites (gate.Reg x) d first from shares old new = new ≡ set old first (nth old x)
GateWrites gate.Out d first from shares old new = new ≡ old

-- AND: the wires inside it that are read, then its outputs
pub record AndWrites (d first : ℕ) (ops tape : List ℕ) (used : ℕ) (read : List ℕ) (found outputs : ℕ) (sums terms sums' terms' : List ℕ) : Type 0 where
  pub mid_sums : List ℕ
  pub mid_terms : List ℕ
  pub reads : ReadsInside d first ops tape used read found sums terms mid_sums mid_terms
  pub outs : WritesOutputs d first ops tape used outputs mid_sums mid_terms sums' terms'

-- a frame: what it asks for, and what is written; the answer is the number of outputs so far
abbrev pub FrameAsks : FrameCode → (d first from used : ℕ) (ops : List ℕ) (room shares drawn outputs : ℕ) → Type 0
FrameAsks (frame.Gate g) d first from used ops room shares drawn outputs = GateEarly g first × (first + gate_wires g d ≤ room) × (room ≤ wire_limit) × FrameSupplied (frame.Gate g) d from 0 shares 0
FrameAsks frame.And d first from used ops room shares drawn outputs = AndAsks d first ops room drawn used × (outputs + d ≤ 32)
FrameAsks frame.Ref d first from used ops room shares drawn outputs = RefAsks d first ops room drawn used

abbrev pub FrameWrites : FrameCode → (d first from used : ℕ) (ops shares tape read : List ℕ) (found outputs : ℕ) (sums terms sums' terms' : List ℕ) (r : ℕ) → Type 0
FrameWrites (frame.Gate g) d first from used ops shares tape read found outputs sums terms sums' terms' r = GateWrites g d first from shares sums sums' × (terms' ≡ terms) × (r ≡ outputs)
FrameWrites frame.And d first from used ops shares tape read found outputs sums terms sums' terms' r = AndWrites d first ops tape used read found outputs sums terms sums' terms' × (r ≡ outputs + d)
FrameWrites frame.Ref d first from used ops shares tape read found outputs sums terms sums' terms' r = Refreshes d first ops tape used sums sums' × (terms' ≡ terms) × (r ≡ outputs)

-- words of the variables: the shares and the random bits of n evaluations are sums of them
pub record Words (shares tape : List ℕ) (n : ℕ) (sharings tapes : ℕ → List Bool) (f : Values) : Type 0 where
  pub full : f 17 ≡ packed n (λ l. true)
  pub shared : Packs n sharings (map (λ m. added m f) shares)
  pub drawn : Packs n tapes (map (λ m. added m f) tape)

-- the variables that are terms have the words of these: the outputs, and wires before one that are read
pub record Solves (terms : List ℕ) (outputs : ℕ) (read : List ℕ) (found w : ℕ) (f : Values) : Type 0 where
  pub outs : (k : ℕ) → k < outputs → f (18 + k) ≡ term_word terms k f
  pub reads : (i : ℕ) → i < found → nth read i < w → f (50 + i) ≡ term_word terms (32 + i) f

-- a table that is expanded: the wires that are read are sums
pub record Expanded (table shares tape read : List ℕ) (found : ℕ) (sums terms : List ℕ) (outputs : ℕ) : Type 0 where
  pub few : outputs ≤ 32
  pub before : BoundedTerms terms 0 outputs
  pub reads_before : BoundedTerms terms 32 (32 + found)
  pub right : (n : ℕ) (sharings tapes : ℕ → List Bool) (f : Values) → Words shares tape n sharings tapes f → Solves terms outputs read found (size (circuit_in table)) f
      → (i : ℕ) → i < found → values_at (circuit_in table).wires n sharings tapes (nth read i) ≡ added (nth sums (nth read i)) f
