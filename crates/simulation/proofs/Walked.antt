-- A walk over an accepted table, behind so many wires, shares and random bits: the frame that it meets has its room and its bits.
use mathlib.Core.Path.{◌≡◌, refl, sym, ap, ap₂, ◌∙◌}
use mathlib.Core.List.{List, []}
use Prim.Native.Nat.{ℕ, ◌+◌, ◌*◌, ◌≤◌}
use native.Mathlib.Nat.{mul-le-mul_right}
use native.Mathlib.Omega.{arith}
use lib.ListN.{length, take}
use lib.Seq.{take_at}
use Rattle.circuit.specs.Lists.{nth}
use Rattle.circuit.specs.Circuit.{Circuit, size, empty}
use Rattle.circuit.specs.Composition.{build}
use Rattle.circuit.proofs.Building.{build-shares}
use Rattle.semantics.proofs.Randoms.{randoms_in, build-randoms}
use Rattle.frames.specs.declared.walk.Frame.{Frame as FrameCode}
use Rattle.frames.specs.declared.walk.Walk.{Walk}
use Rattle.frames.specs.declared.kinds.Shape.{Shape as ShapeCode}
use Rattle.frames.specs.declared.walk.Next.{Next}
use Rattle.circuit.specs.declared.rules.Rule.{Rule}
use Rattle.std.specs.Prelude.{Option, Some, None, Result, Ok, Err}
use Rattle.frames.specs.Walk.{shape_taking, step_with, step_at}
use Rattle.frames.proofs.KindTable.{right_step}
use Rattle.circuit.specs.Kinds.{pairs}
use Rattle.gadgets.specs.Internal.Frames.{frame_wires}
use Rattle.gadgets.specs.Internal.Accepting.{AcceptedTable, circuit_in}
use Rattle.gadgets.proofs.Walking.{whole, so_far, between_start, all-built, wires_in, wires-grow, inputs-grow, randoms-grow, Met, Answers, second_word, step_answers}
use Rattle.simulation.specs.Internal.Evaluating.{Evaluable}
use Rattle.simulation.specs.Internal.Walked.{WalkedTo}

abbrev pub walked_start : {table shares tape : List ℕ} {room : ℕ} → Evaluable table shares tape room → WalkedTo table shares tape room 2 0 0 0
walked_start e = record { evaluable = e; between = between_start e.accepted; wires_are = refl; from_are = omega arith; used_are = refl }

module _ {table shares tape : List ℕ} {room place w from used : ℕ} (f : WalkedTo table shares tape room place w from used) where
  abbrev a : AcceptedTable table
  a = f.evaluable.accepted

  shares_are : length shares ≡ (whole a).inputs * a.d
  shares_are = f.evaluable.shared ∙ ap (λ (c : Circuit). c.inputs * c.d) a.circuit_is ∙ ap (λ n. (whole a).inputs * n) (build-shares (empty a.d) a.fs)

  tape_is : length tape ≡ (whole a).randoms
  tape_is = f.evaluable.drawn ∙ ap (λ (c : Circuit). c.randoms) a.circuit_is

  -- the random bits before the place
  pub rank_is : randoms_in (take w (whole a).wires) ≡ used
  rank_is =
      let k = so_far a f.between in
      let (more, e) = wires_in a f.between in
      ap randoms_in (ap₂ take f.wires_are e ∙ take_at k.wires more (size k) refl) ∙ build-randoms (empty a.d) f.between.before refl ∙ sym f.used_are

  -- what the step says at the place
  pub walked-answers : {s : Result (Option Next) Rule} → step_at table (nth table 1) place ≡ s → Answers a f.between (nth table 1) w from s
  walked-answers = step_answers a f.between (second_word a) f.wires_are f.from_are

  -- a step without a frame: none is left
  pub walked_end : (s : Result (Option Next) Rule) → step_at table (nth table 1) place ≡ s → ((n : Next) → s ≡ Ok (Some n) → ⊥) → f.between.after ≡ []
  walked_end (Ok (Some n)) e k = absurd (k n refl)
  walked_end (Ok None) e k = walked-answers e
  walked_end (Err rule) e k = absurd (walked-answers e)

  -- the same, with the walk's number of shares and the random bits that the step is given
  pub walked-step : {s : Result (Option Next) Rule} {randoms d : ℕ} → s ≡ step_with (shape_taking randoms d) table d place → d ≡ nth table 1
      → randoms ≡ pairs (nth table 1) → Answers a f.between (nth table 1) w from s
  walked-step {s} {randoms} {d} e same given = walked-answers (sym (right_step table randoms d place e (given ∙ ap pairs (sym same)) ∙ ap (λ n. step_at table n place) same))

  -- the frame that is met
  module _ {d : ℕ} {fr : FrameCode} {sh : ShapeCode} {wk : Walk} (same : d ≡ a.d) (m : Met a f.between d w from fr sh wk) where
    pub frame-within : w + frame_wires fr d ≤ size (whole a)
    frame-within = omega (arith, m.as_many, m.wires_next, wires-grow a m.onward)

    pub room_in : w + frame_wires fr d ≤ room
    room_in = omega (arith, frame-within, ap size a.circuit_is, f.evaluable.roomy)

    pub inputs_in : from + d * sh.inputs ≤ length shares
    inputs_in = rw same (omega (arith, f.from_are, shares_are, mul-le-mul_right a.d (rw m.inputs_next at (inputs-grow a m.onward))))

    pub draws_in : used + sh.randoms ≤ length tape
    draws_in = omega (arith, f.used_are, m.randoms_next, randoms-grow a m.onward, tape_is)

    abbrev pub walked_next : WalkedTo table shares tape room wk.at (w + sh.wires) (from + d * sh.inputs) (used + sh.randoms)
    walked_next = record {
      evaluable = f.evaluable;
      between = m.onward;
      wires_are = sym m.wires_next;
      from_are = rw (m.inputs_next, same) (omega (arith, f.from_are));
      used_are = omega (arith, f.used_are, m.randoms_next);
    }

  -- behind the last frame
  pub walked_all : f.between.after ≡ [] → w ≡ size (circuit_in table)
  walked_all none = f.wires_are ∙ ap size (sym (a.circuit_is ∙ all-built a f.between ∙ ap (build (so_far a f.between)) none))
