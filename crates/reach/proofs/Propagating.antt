-- The marks of an accepted table's wires moved on, from the last listed frame to the first.
use mathlib.Core.Path.{◌≡◌, refl, sym, ap, subst, ◌∙◌}
use mathlib.Core.List.{List}
use Prim.Native.Nat.{ℕ, ◌+◌, ◌-◌, ◌*◌, ◌≤◌, ◌<◌}
use native.Mathlib.Omega.{arith}
use lib.ListN.{length, length-append}
use lib.Seq.{length-take-le, take-length}
use Rattle.circuit.specs.Lists.{nth, mem}
use Rattle.circuit.specs.Wires.{Wire}
use Rattle.circuit.specs.Circuit.{size, is_set, empty}
use Rattle.circuit.specs.Composition.{build}
use Rattle.circuit.proofs.Base.{In}
use Rattle.frames.specs.declared.walk.Next.{Next}
use Rattle.circuit.specs.declared.rules.Rule.{Rule}
use Rattle.std.specs.Prelude.{Option, Some, None, Result, Ok, Err}
use Rattle.frames.specs.Walk.{operands_at, step_at}
use Rattle.semantics.proofs.Solving.{OrderedFrom}
use Rattle.gadgets.specs.Internal.Gates.{FrameGates}
use Rattle.gadgets.specs.Internal.Frames.{frame_wires}
use Rattle.gadgets.specs.Internal.Accepting.{AcceptedTable, circuit_in, Between}
use Rattle.gadgets.proofs.Walking.{whole, whole_ordered, so_far, second_word, Met, Answers, step_answers}
use Rattle.reach.specs.Internal.Marks.{Moves, GatesOf, Unmarked}
use Rattle.reach.specs.declared.listing.Listed.{Listed}
use Rattle.reach.specs.Internal.Listing.{start_of, first_of, Lists}
use Rattle.reach.specs.Internal.Reading.{OnStops}
use Rattle.reach.proofs.Reaching.{moving_start, moving_unmarked, moving_end}
use Rattle.reach.proofs.Moved.{moves_then, moves_for, moves_at}
use Rattle.reach.proofs.Listed.{wires-before, before-grow}

module _ {table : List ℕ} {list : List Listed} {count : ℕ} (l : Lists table list count) where
  abbrev a : AcceptedTable table
  a = l.accepted

  abbrev ws : List Wire
  ws = (whole a).wires

  -- the first of the listed frames are a list too
  pub lists_first : {n : ℕ} → n ≤ count → Lists table list n
  lists_first h = record {
    accepted = a;
    most = omega (arith, l.most);
    few = omega (arith, l.few);
    starts_are = λ i k. l.starts_are i (omega arith);
    firsts_are = λ i k. l.firsts_are i (omega arith);
  }

  -- how many wires come before a frame never falls, and is none for the first
  pub none_before : first_of list 0 ≡ 0
  none_before = l.firsts_are 0 (omega arith)

  pub rising : {i j : ℕ} → i ≤ j → j ≤ count → first_of list i ≤ first_of list j
  rising {i} {j} h k = omega (arith, before-grow a i j h, l.firsts_are i (omega arith), l.firsts_are j (omega arith))

  pub within_all : {i : ℕ} → i ≤ count → first_of list i ≤ size (circuit_in table)
  within_all {i} h = omega (arith, ap size a.circuit_is, before-grow a i (length a.fs) (omega (arith, l.most)), l.firsts_are i (omega arith), ap (λ x. size (build (empty a.d) x)) (take-length a.fs))

  -- the frame before the i-th
  module _ {i : ℕ} (h : 0 < i) (k : i ≤ count) where
    abbrev pub place : Between table a.fs (start_of list (i - 1))
    place = (l.starts_are (i - 1) (omega arith)).0

    numbered : length place.before ≡ i - 1
    numbered = ap length (l.starts_are (i - 1) (omega arith)).1 ∙ length-take-le (i - 1) a.fs (omega (arith, l.most))

    first_is : first_of list (i - 1) ≡ size (so_far a place)
    first_is = l.firsts_are (i - 1) (omega arith) ∙ sym (wires-before a place numbered)

    here : {s : Result (Option Next) Rule} → step_at table (nth table 1) (start_of list (i - 1)) ≡ s → Answers a place (nth table 1) (first_of list (i - 1)) ((so_far a place).inputs * a.d) s
    here = step_answers a place (second_word a) first_is refl

    -- the step answers a frame
    pub no_end : step_at table (nth table 1) (start_of list (i - 1)) ≡ Ok None → ⊥
    no_end e = omega (arith, ap length place.split, length-append place.before place.after, ap length (here e), numbered, l.most)

    pub no_refusal : {rule : Rule} → step_at table (nth table 1) (start_of list (i - 1)) ≡ Err rule → ⊥
    no_refusal e = here e

    module _ {n : Next} (e : step_at table (nth table 1) (start_of list (i - 1)) ≡ Ok (Some n)) where
      pub found : Met a place (nth table 1) (first_of list (i - 1)) ((so_far a place).inputs * a.d) n.frame n.shape n.walk
      found = here e

      -- its wires end where the next frame's begin
      pub top : first_of list (i - 1) + frame_wires n.frame (nth table 1) ≡ first_of list i
      top = omega (arith, found.as_many, found.wires_next, wires-before a found.onward {n = i} (omega (arith, found.longer, numbered)), l.firsts_are i (omega arith))

      pub moved-next : {to : ℕ} {old marks new : List ℕ} → i ≤ to → to ≤ count → Moves (GatesOf table) (first_of list i) (first_of list to) old marks
          → ((from : ℕ) → Moves (FrameGates n.frame (nth table 1) (first_of list (i - 1)) from (operands_at table (nth table 1) (start_of list (i - 1))))
          (first_of list (i - 1)) (first_of list (i - 1) + frame_wires n.frame (nth table 1)) marks new)
          → Moves (GatesOf table) (first_of list (i - 1)) (first_of list to) old new
      moved-next p q m g = moves_then (rising p q) m (moves_at refl top (moves_for (λ z same. rw (same, a.circuit_is) found.gates) (g ((so_far a place).inputs * a.d))))

  -- marks on probed wires alone, moved on over all listed frames where none stands behind them, are on the stops that are read
  pub reached : {probes old new : List ℕ} → ((x : ℕ) → is_set (nth old x) ≡ mem x probes) → ((x : ℕ) → In x probes → x < size (circuit_in table)) → size (circuit_in table) ≤ length old
      → Unmarked old (first_of list count) (size (circuit_in table)) → Moves (GatesOf table) 0 (first_of list count) old new → OnStops (circuit_in table).wires probes new
  reached {probes} {old} {new} e made room none m =
      let all = (circuit_in table).wires in
      let ordered = subst (λ k. OrderedFrom 0 k.wires) (sym a.circuit_is) (whole_ordered a) in
      moving_end all ordered probes new (m.moved all probes ordered refl (within_all (omega arith)) room (moving_unmarked (moving_start all probes old e made) none))
