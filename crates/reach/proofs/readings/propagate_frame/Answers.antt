-- Each arm moves the marks of its frame: a gate that is a stop keeps its mark, others hand it to the wires that they take.
use mathlib.Core.Path.{◌≡◌, refl, ap, subst, ◌∙◌}
use Prim.Native.Nat.{◌+◌, ◌≤◌}
use native.Mathlib.Omega.{arith}
use lib.ListN.{length}
use Rattle.circuit.specs.Wires.{sum, is_stop}
use Rattle.frames.specs.declared.walk.Frame.{Frame as FrameCode}
use Rattle.frames.specs.declared.walk.Frame.TheVariants as frame
use Rattle.gadgets.specs.Internal.Frames.{frame_wires, FrameEarly}
use Rattle.reach.proofs.Moved.{moves_none, moves_at, moves_stop, moves_stops, moves_gate, twice_moved}
use Rattle.reach.proofs.readings.propagate_frame.Goals as goal
use Rattle.reach.proofs.readings.propagate_frame.Goals.{Start}

-- what the contract asks of a frame
abbrev Asked : Start → FrameCode → Type 0
Asked s f = let p = s.args.place in (p.first + frame_wires f p.d ≤ length s.args.marks.now) × FrameEarly f p.d p.first s.args.ops.now

asked : (s : Start) {f : FrameCode} → s.args.frame ≡ f → Asked s f
asked s e = subst (Asked s) e s.requires

pub propagate-requires : goal.propagate-requires
propagate-requires c =
    let q = asked (goal.at.propagate-requires c).Start (c.in-Gate.is ∙ ap frame.Gate c.in-Xor.is) in
    (omega (arith, q.0), omega (arith, q.0, q.1.0), omega (arith, q.0, q.1.1))

pub propagate-requires-in-Not : goal.propagate-requires-in-Not
propagate-requires-in-Not c =
    let q = asked (goal.at.propagate-requires-in-Not c).Start (c.in-Gate.is ∙ ap frame.Gate c.in-Not.is) in
    (omega (arith, q.0), omega (arith, q.0, q.1), omega (arith, q.0, q.1))

pub propagate_and-requires : goal.propagate_and-requires
propagate_and-requires c = asked (goal.at.propagate_and-requires c).Start c.in-And.is

pub propagate_refresh-requires : goal.propagate_refresh-requires
propagate_refresh-requires c = let q = asked (goal.at.propagate_refresh-requires c).Start c.in-Ref.is in (omega (arith, q.0), q.1)

pub returns-in-In : goal.returns-in-In
returns-in-In c = rw (c.in-Gate.is, c.in-In.is) (λ from. moves_stops _ _ _ (λ g h q l. ap is_stop (h q l)))

pub returns-in-Con : goal.returns-in-Con
returns-in-Con c = rw (c.in-Gate.is, c.in-Con.is) (λ from. moves_stop _ _ (λ g h. ap is_stop h))

pub returns-in-Xor : goal.returns-in-Xor
returns-in-Xor c =
    rw (c.in-Gate.is, c.in-Xor.is, c.propagate.ensures) (λ from. moves_gate _ (sum _) _ refl (λ g h. h))

pub returns-in-Not : goal.returns-in-Not
returns-in-Not c =
    rw (c.in-Gate.is, c.in-Not.is, c.propagate-in-Not.ensures) (λ from. twice_moved _ _ _ (λ g h. h))

pub returns-in-Reg : goal.returns-in-Reg
returns-in-Reg c = rw (c.in-Gate.is, c.in-Reg.is) (λ from. moves_stop _ _ (λ g h. ap is_stop h))

pub returns-in-Out : goal.returns-in-Out
returns-in-Out c = rw (c.in-Gate.is, c.in-Out.is) (λ from. moves_at refl (omega arith) (moves_none _ _))

pub returns-in-And : goal.returns-in-And
returns-in-And c = rw c.in-And.is (λ from. c.propagate_and.ensures)

pub returns-in-Ref : goal.returns-in-Ref
returns-in-Ref c = rw c.in-Ref.is (λ from. c.propagate_refresh.ensures)
