-- The values of an accepted table's wires as far as the walk over its frames has come.
use Rattle.std.specs.Prelude.{◌≡◌, Bool, true, false, List, ℕ, ◌+◌, ◌*◌, ◌≤◌, length}
use Rattle.circuit.specs.Lists.{nth}
use Rattle.circuit.specs.Wires.{Wire}
use Rattle.circuit.specs.Circuit.{size}
use Rattle.semantics.specs.Values.{bits, at, values_of}
use Rattle.frames.specs.declared.walk.Gate.{Gate as GateCode}
use Rattle.frames.specs.declared.walk.Gate.TheVariants as gate
use Rattle.frames.specs.declared.walk.Frame.{Frame as FrameCode}
use Rattle.frames.specs.declared.walk.Frame.TheVariants as frame
use Rattle.gadgets.specs.Internal.Frames.{frame_wires}
use Rattle.gadgets.specs.Internal.Accepting.{Between}
use Rattle.gadgets.proofs.Walking.{whole, so_far}
use Rattle.simulation.specs.Internal.Filling.{Values, Known, Fills, FrameValues}
use Rattle.simulation.specs.Internal.Evaluating.{packed, Evaluable, Bits}

-- the values of wires, for n sharings and tapes at once
abbrev pub values_at : (ws : List Wire) (n : ℕ) (sharings tapes : ℕ → List Bool) → Values
values_at ws n sharings tapes x = packed n (λ l. at (values_of ws (sharings l) (tapes l)) x)

-- where a walk over an accepted table stands, and how many wires, shares and random bits come before it
pub record WalkedTo (table shares tape : List ℕ) (room place w from used : ℕ) : Type 0 where
  pub evaluable : Evaluable table shares tape room
  pub between : Between table evaluable.accepted.fs place
  pub wires_are : w ≡ size (so_far evaluable.accepted between)
  pub from_are : from ≡ (so_far evaluable.accepted between).inputs * evaluable.accepted.d
  pub used_are : used ≡ (so_far evaluable.accepted between).randoms

-- the values of the frames before the walk's place are filled in
pub record FilledTo (table shares tape old values : List ℕ) (place w from used : ℕ) : Type 0 where
  pub walked : WalkedTo table shares tape (length old) place w from used
  pub known : Bits shares → Bits tape → Known (values_at (whole walked.evaluable.accepted).wires 1 (λ l. bits shares) (λ l. bits tape)) 0 w values
  pub above : (x : ℕ) → w ≤ x → nth values x ≡ nth old x
  pub sized : length values ≡ length old

-- frames other than XOR, NOT and REG
abbrev pub OtherGate : GateCode → Type 0
OtherGate (gate.In t) = Unit {0}
OtherGate (gate.Con l v t) = Unit {0}
OtherGate (gate.Xor x y) = ⊥
OtherGate (gate.Not x) = ⊥
OtherGate (gate.Reg x) = ⊥
OtherGate gate.Out = Unit {0}

abbrev pub Other : FrameCode → Type 0
Other (frame.Gate g) = OtherGate g
Other frame.And = Unit {0}
Other frame.Ref = Unit {0}

-- a gate of one wire that is written, with the answer that it is one, or another frame and the values as they were
pub record GateWritten (fr : FrameCode) (first : ℕ) (old new : List ℕ) (r : Bool) : Type 0 where
  pub gate : r ≡ true → (d : ℕ) → frame_wires fr d ≡ 1
  pub fills : r ≡ true → (d from used : ℕ) (ops shares tape : List ℕ) → Fills (FrameValues fr 1 d first from used ops shares tape) first (first + frame_wires fr d) old new
  pub left : r ≡ false → new ≡ old
  pub other : r ≡ false → Other fr

-- from a place on such gates are filled in up to another place, whatever the shares and random bits are
abbrev pub GatesFilled : (table values : List ℕ) (place w : ℕ) (new : List ℕ) (place' w' : ℕ) → Type 0
GatesFilled table values place w new place' w' = (shares tape old : List ℕ) (from used : ℕ) → FilledTo table shares tape old values place w from used
    → FilledTo table shares tape old new place' w' from used
