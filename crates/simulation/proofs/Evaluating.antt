-- The values of an accepted table's wires, frame by frame: those of the frames before the walk's place are filled in.
use mathlib.Core.Path.{◌≡◌, refl, ap, subst, subst₂, ◌∙◌}
use mathlib.Core.Bool.{Bool, true, true≢false}
use mathlib.Core.List.{List, []}
use Prim.Native.Nat.{ℕ, ◌+◌, ◌*◌, ◌≤◌}
use native.Mathlib.Omega.{arith}
use lib.ListN.{length}
use Rattle.circuit.specs.Wires.{Wire}
use Rattle.semantics.specs.Values.{bits, at, values_of}
use Rattle.frames.specs.declared.walk.Frame.{Frame as FrameCode}
use Rattle.frames.specs.declared.walk.Walk.{Walk}
use Rattle.frames.specs.declared.kinds.Shape.{Shape as ShapeCode}
use Rattle.frames.specs.Walk.{operands_at}
use Rattle.gadgets.specs.Internal.Frames.{frame_wires}
use Rattle.gadgets.specs.Internal.Accepting.{AcceptedTable}
use Rattle.gadgets.proofs.Walking.{whole, whole_ordered, Met}
use Rattle.simulation.specs.Internal.Filling.{Known, Fills, FrameValues}
use Rattle.simulation.specs.Internal.Evaluating.{Evaluable, Evaluates}
use Rattle.simulation.proofs.Filled.{known-all}
use Rattle.simulation.specs.Internal.Walked.{values_at, FilledTo, GateWritten}
use Rattle.simulation.proofs.Walked.{walked_start, rank_is, frame-within, walked_next, walked_all}
use Rattle.simulation.proofs.Equations.{frame-values}
use Rattle.simulation.proofs.Single.{one, packs}

-- a gate of one wire is written
pub written : {fr : FrameCode} {first : ℕ} {old new : List ℕ} → ((d : ℕ) → frame_wires fr d ≡ 1)
    → ((d from used : ℕ) (ops shares tape : List ℕ) → Fills (FrameValues fr 1 d first from used ops shares tape) first (first + frame_wires fr d) old new) → GateWritten fr first old new true
written one fills = record { gate = λ e. one; fills = λ e. fills; left = λ e. absurd (true≢false e); other = λ e. absurd (true≢false e) }

pub filled_start : {table shares tape old : List ℕ} → Evaluable table shares tape (length old) → FilledTo table shares tape old old 2 0 0 0
filled_start e = record { walked = walked_start e; known = λ shared drawn x l u. absurd (omega arith); above = λ x l. refl; sized = refl }

module _ {table shares tape old values : List ℕ} {place w from used : ℕ} (f : FilledTo table shares tape old values place w from used) where
  abbrev a : AcceptedTable table
  a = f.walked.evaluable.accepted

  abbrev ws : List Wire
  ws = (whole a).wires

  -- behind the frame that is met, its values are filled in too
  module _ {d : ℕ} {fr : FrameCode} {sh : ShapeCode} {wk : Walk} (same : d ≡ a.d) (m : Met a f.walked.between d w from fr sh wk) where
    pub frame-filled : (new : List ℕ) → Fills (FrameValues fr 1 d w from used (operands_at table d place) shares tape) w (w + frame_wires fr d) values new
        → FilledTo table shares tape old new wk.at (w + sh.wires) (from + d * sh.inputs) (used + sh.randoms)
    frame-filled new g =
        let made : w + frame_wires fr d ≡ w + sh.wires = ap (λ n. w + n) m.as_many in
        record {
          walked = walked_next f.walked same m;
          known = λ shared drawn.
              let v = values_at ws 1 (λ l. bits shares) (λ l. bits tape) in
              let holds = frame-values ws (whole_ordered a) 1 shares tape 1 (λ l. bits shares) (λ l. bits tape) refl (packs shares shared)
              (packs tape drawn) fr d w from used (operands_at table d place) m.gates (frame-within f.walked same m) (rank_is f.walked) in
              subst (λ (k : ℕ). Known v 0 k new) made (known-all g v holds (f.known shared drawn));
          above = λ x l. g.above x (omega (arith, made)) ∙ f.above x (omega arith);
          sized = g.size ∙ f.sized;
        }

    -- one of at most one wire takes neither shares nor random bits
    pub few_kept : sh.wires ≤ 1 → {new : List ℕ} {at n : ℕ} → FilledTo table shares tape old new at n (from + d * sh.inputs) (used + sh.randoms) → FilledTo table shares tape old new at n from used
    few_kept h {new} {at} {n} g =
        let (i, r) = m.few_takes h in
        let none : from + d * sh.inputs ≡ from = ap (λ n. from + d * n) i ∙ omega arith in
        let bare : used + sh.randoms ≡ used = omega (arith, r) in
        subst₂ (λ (k l : ℕ). FilledTo table shares tape old new at n k l) none bare g

    -- a gate of one wire that is written
    pub gate-filled : {new : List ℕ} {r : Bool} → GateWritten fr w values new r → r ≡ true → FilledTo table shares tape old new wk.at (w + sh.wires) from used
    gate-filled g is = few_kept (omega (arith, m.as_many, g.gate is d)) (frame-filled _ (g.fills is d from used (operands_at table d place) shares tape))

  -- all frames are filled in
  pub all-filled : f.walked.between.after ≡ [] → Evaluates table shares tape old values
  all-filled none =
      let count = walked_all f.walked none in
      record {
        known = λ shared drawn x l. rw a.circuit_is (f.known shared drawn x (omega arith) (omega (arith, count)) ∙ one (λ l. at (values_of ws (bits shares) (bits tape)) x));
        above = λ x l. f.above x (omega (arith, count));
        sized = f.sized;
      }
