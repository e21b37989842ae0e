-- The walk over an accepted table: it stands between two of its frames, and each step meets the next.
use mathlib.Core.Path.{◌≡◌, refl, sym, ap, subst, ◌∙◌}
use mathlib.Core.Bool.{true, false, ◌&&◌}
use mathlib.Core.List.{List, [], ◌∷◌, ◌++◌, append_assoc}
use Prim.Native.Nat.{ℕ, suc, ◌+◌, ◌*◌, ◌≤◌, ◌<◌}
use native.Mathlib.Omega.{arith}
use lib.Dec.{leb}
use Rattle.std.specs.Prelude.{Option, Some, None, Result, Ok, Err}
use lib.ListN.{length, get_or, drop, length-append, length-drop}
use lib.Seq.{drop-drop, get_or-drop, take_at, drop_at}
use borrow.Author.Tests.{lt-ltb, le-ltb, le-leb}
use Rattle.circuit.specs.Limits.{wire_limit, table_limit, notes_room}
use Rattle.circuit.specs.Lists.{nth}
use Rattle.circuit.specs.Wires.{named, Wire}
use Rattle.circuit.specs.Kinds.{Kind, kind_of, pairs, shape, words}
use Rattle.circuit.specs.Circuit.{Circuit, size, empty, place, shown_by, look_up, is_named, made, extend}
use Rattle.circuit.specs.Rules.{checked}
use Rattle.circuit.specs.Composition.{Frame, Fits, fit-IN, fit-CON, fit-XOR, fit-NOT, fit-REG, fit-AND, fit-REF, fit-OUT, AllFit, next, build, kind_word, words_of}
use Rattle.circuit.proofs.Base.{and_both}
use Rattle.circuit.proofs.Building.{build_more, build-append, build-shares, build_intime, fit-split, size-extend, named-made, named-told, wire_kept}
use Rattle.circuit.proofs.Fitting.{kind-known, fit-meets}
use Rattle.circuit.proofs.Exact.{Accepted, complete, accepted-size}
use Rattle.semantics.proofs.Earlier.{accepted-early}
use Rattle.frames.specs.declared.walk.Frame.{Frame as FrameCode}
use Rattle.frames.specs.declared.walk.Walk.{Walk}
use Rattle.frames.specs.declared.walk.Next.{Next}
use Rattle.circuit.specs.declared.rules.Rule.{Rule}
use Rattle.frames.specs.declared.kinds.Shape.{Shape as ShapeCode}
use Rattle.frames.specs.Randoms.{listed_pairs}
use Rattle.frames.specs.Walk.{kind_code, shape_code, frame_code, operands_at, behind, next as next_frame, step_at}
use Rattle.frames.proofs.RandomBits.{listed-right}
use Rattle.semantics.proofs.Solving.{nothing, gate_at, OrderedFrom}
use Rattle.gadgets.specs.Internal.Gates.{FrameGates}
use Rattle.gadgets.specs.Internal.Frames.{frame_wires, Small, FrameEarly, FrameSupplied, FrameNames, FrameHides}
use Rattle.gadgets.specs.Internal.Accepting.{AcceptedTable, circuit_in, Between}
use Rattle.gadgets.proofs.Framing.{inputs_more, randoms_more, wires-same, few_takes, frame-early, frame_names, frame-supplied, frame-gates, frame_hides}

-- a table accepted with any notes is accepted with the shortest, and has the same circuit
pub least-notes : {table : List ℕ} {room : ℕ} → Accepted table room → AcceptedTable table
least-notes {table} a = record {
  d = a.d;
  fs = a.fs;
  table_is = a.table_is;
  least = a.least;
  most = a.most;
  short = a.short;
  roomy = omega arith;
  fit = a.fit;
  circuit_is = ap (λ t. (checked t notes_room).circuit) a.table_is
      ∙ ap (λ k. k.circuit) (complete a.d a.fs notes_room a.least a.most (subst (λ (t : List ℕ). length t ≤ table_limit) a.table_is a.short) (omega arith) a.fit);
}

pub same-circuit : {table : List ℕ} {room : ℕ} → Accepted table room → (checked table room).circuit ≡ circuit_in table
unfolding least-notes
same-circuit a = a.circuit_is ∙ sym (least-notes a).circuit_is

-- the second word of an accepted table is its number of shares
pub second_word : {table : List ℕ} (a : AcceptedTable table) → nth table 1 ≡ a.d
second_word a = ap (λ t. nth t 1) a.table_is

-- so the list's number of random bits is that of its gadgets
pub given_bits : {table : List ℕ} → AcceptedTable table → {randoms d : ℕ} → randoms ≡ listed_pairs (nth table 1) → d ≡ nth table 1 → randoms ≡ pairs d
given_bits {table} a e same = e ∙ listed-right (nth table 1) (omega (arith, second_word a, a.most)) ∙ ap pairs (sym same)

pub headed : {table : List ℕ} → AcceptedTable table → 2 ≤ length table
headed a = omega (arith, ap length a.table_is)

-- the circuit of all frames, and that of the frames before a place
abbrev pub whole : {table : List ℕ} → AcceptedTable table → Circuit
whole a = build (empty a.d) a.fs

abbrev pub so_far : {table : List ℕ} (a : AcceptedTable table) {at : ℕ} → Between table a.fs at → Circuit
so_far a b = build (empty a.d) b.before

pub whole-few : {table : List ℕ} (a : AcceptedTable table) → size (whole a) ≤ wire_limit
whole-few a = subst (λ (k : Circuit). size k ≤ wire_limit) a.circuit_is (accepted-size a)

pub whole_ordered : {table : List ℕ} (a : AcceptedTable table) → OrderedFrom 0 (whole a).wires
whole_ordered a = subst (λ (k : Circuit). OrderedFrom 0 k.wires) a.circuit_is (accepted-early a)

abbrev pub between_start : {table : List ℕ} (a : AcceptedTable table) → Between table a.fs 2
between_start a = record { before = []; after = a.fs; split = refl; rest = ap (drop 2) a.table_is; most = headed a }

-- a frame that the step answers: what its code rests on, its gates, and the place and the circuit behind it. w wires and the
-- shares up to `from` come before it
pub record Met {table : List ℕ} (a : AcceptedTable table) {at : ℕ} (b : Between table a.fs at) (d w from : ℕ) (fr : FrameCode) (sh : ShapeCode) (wk : Walk) : Type 0 where
  pub small : Small w d
  pub few : w + sh.wires ≤ wire_limit
  pub as_many : frame_wires fr d ≡ sh.wires
  pub early : FrameEarly fr d w (operands_at table d at)
  pub supplied : (used shares tape : ℕ) → from + d * sh.inputs ≤ shares → used + sh.randoms ≤ tape → FrameSupplied fr d from used shares tape
  pub few_takes : sh.wires ≤ 1 → (sh.inputs ≡ 0) × (sh.randoms ≡ 0)
  pub gates : FrameGates fr d w from (operands_at table d at) (gate_at (whole a).wires)
  pub names : FrameNames fr d (operands_at table d at) (λ x. is_named (look_up (whole a) x) ≡ true)
  pub hides : FrameHides fr d w (λ x. is_named (look_up (whole a) x) ≡ false)
  pub same : wk.d ≡ d
  pub place : wk.at ≡ at + 1 + words d (kind_of (nth table at))
  pub later : at + 2 ≤ wk.at
  pub onward : Between table a.fs wk.at
  pub longer : length onward.before ≡ suc (length b.before)
  pub wires_next : size (so_far a onward) ≡ w + sh.wires
  pub inputs_next : (so_far a onward).inputs ≡ (so_far a b).inputs + sh.inputs
  pub randoms_next : (so_far a onward).randoms ≡ (so_far a b).randoms + sh.randoms

module _ {table : List ℕ} (a : AcceptedTable table) {at : ℕ} (b : Between table a.fs at) where
  abbrev k : Circuit
  k = so_far a b

  pub same_d : k.d ≡ a.d
  same_d = build-shares (empty a.d) b.before

  pub fitting : AllFit (empty a.d) b.before × AllFit k b.after
  fitting = fit-split (empty a.d) b.before b.after (subst (AllFit (empty a.d)) b.split a.fit)

  pub all-built : whole a ≡ build k b.after
  all-built = ap (build (empty a.d)) b.split ∙ build-append (empty a.d) b.before b.after

  -- its numbers are at most those of all frames
  pub wires_in : (more : List Wire) × ((whole a).wires ≡ k.wires ++ more)
  wires_in = let (more, m) = build_more k b.after in (more, ap (λ (c : Circuit). c.wires) all-built ∙ m)

  pub wires-grow : size k ≤ size (whole a)
  wires-grow = let (more, e) = wires_in in omega (arith, ap length e, length-append k.wires more)

  pub inputs-grow : k.inputs ≤ (whole a).inputs
  inputs-grow = rw all-built (inputs_more k b.after)

  pub randoms-grow : k.randoms ≤ (whole a).randoms
  randoms-grow = rw all-built (randoms_more k b.after)

  -- a wire that is named there is named in the whole
  named-whole : (x l t : ℕ) → place k x ≡ named l t → is_named (look_up (whole a) x) ≡ true
  named-whole x l t h = ap (λ (c : Circuit). is_named (look_up c x)) all-built ∙ ap (λ w. is_named (shown_by w)) (wire_kept k b.after x (named-made k x l t h)) ∙ named-told k x h

  pub ended : b.after ≡ [] → step_at table a.d at ≡ Ok None
  ended e = rw (le-ltb at (length table) (omega (arith, length-drop at table, ap length (b.rest ∙ ap words_of e))))

  module _ (f : Frame) (later : List Frame) (e : b.after ≡ f ∷ later) (fits : Fits k f.kind f.ops) (few : size k + (shape k.d f.kind).wires ≤ wire_limit) where
    abbrev kind : Kind
    kind = f.kind

    abbrev tail : List ℕ
    tail = f.ops ++ words_of later

    here : drop at table ≡ kind_word kind ∷ tail
    here = b.rest ∙ ap words_of e

    inside : at < length table
    inside = omega (arith, length-drop at table, ap length here)

    word-is : nth table at ≡ kind_word kind
    word-is = let z : at + 0 ≡ at = omega arith in sym (get_or-drop at table 0 0 ∙ ap (nth table) z) ∙ ap (λ l. nth l 0) here

    tail_is : drop (at + 1) table ≡ tail
    tail_is = sym (drop-drop 1 at table) ∙ ap (drop 1) here

    meets : (1 ≤ kind_word kind) × (kind_word kind ≤ 8) × (length f.ops ≡ words a.d kind)
    meets =
        let g = fit-meets k kind f.ops (subst (λ (n : ℕ). 2 ≤ n) (sym same_d) a.least) (build_intime a.d b.before a.least fitting.0) fits in
        (g.known.0, g.known.1, g.count ∙ ap (λ n. words n kind) same_d)

    ops-are : operands_at table a.d at ≡ f.ops
    ops-are = rw (word-is, kind-known kind, tail_is, take_at f.ops (words_of later) (words a.d kind) meets.2)

    pub step_is : step_at table a.d at ≡ Ok (Some (next_frame (frame_code (kind_code kind) f.ops) (shape_code a.d kind) (behind a.d at (words a.d kind))))
    step_is =
        let n = words a.d kind in
        let known : (leb 1 (kind_word kind) && leb (kind_word kind) 8) ≡ true = and_both _ _ (le-leb 1 (kind_word kind) meets.0) (le-leb (kind_word kind) 8 meets.1) in
        rw (lt-ltb at (length table) inside, word-is, kind-known kind, known, tail_is, le-leb n (length tail) (omega (arith, length-append f.ops (words_of later), meets.2)), take_at f.ops (words_of later) n meets.2)

    -- a frame has words
    fit_wide : {kind : Kind} {ops : List ℕ} → Fits k kind ops → 1 ≤ length ops
    fit_wide (fit-IN t o) = omega arith
    fit_wide (fit-CON l x t p q o) = omega arith
    fit_wide (fit-XOR x y l t p q) = omega arith
    fit_wide (fit-NOT x l t p) = omega arith
    fit_wide (fit-REG x l t p o) = omega arith
    fit_wide (fit-AND ops t len first p q o) = omega (arith, len)
    fit_wide (fit-REF ops t len first p o) = omega (arith, len)
    fit_wide (fit-OUT ops t len p q) = omega (arith, len, same_d, a.least)

    abbrev onward : Between table a.fs (at + 1 + words a.d kind)
    onward = record {
      before = b.before ++ (f ∷ []);
      after = later;
      split = b.split ∙ ap (λ l. b.before ++ l) e ∙ sym (append_assoc b.before (f ∷ []) later);
      rest = sym (drop-drop (words a.d kind) (at + 1) table) ∙ ap (drop (words a.d kind)) tail_is ∙ drop_at f.ops (words_of later) (words a.d kind) meets.2;
      most = omega (arith, inside, length-drop (at + 1) table, ap length tail_is, length-append f.ops (words_of later), meets.2);
    }

    grown : so_far a onward ≡ extend k f.ops kind
    grown = build-append (empty a.d) b.before (f ∷ [])

    -- what is said of the circuit's number of shares holds of the table's
    at_d : (P : ℕ → Type 0) → P k.d → P a.d
    at_d P = subst P same_d

    met : Met a b a.d (size k) (k.inputs * a.d) (frame_code (kind_code kind) f.ops) (shape_code a.d kind) (behind a.d at (words a.d kind))
    met =
        let (more, m) = build_more (extend k f.ops kind) later in
        let wires_are : (whole a).wires ≡ (k.wires ++ made k f.ops kind) ++ more = ap (λ (c : Circuit). c.wires) (all-built ∙ ap (build k) e) ∙ m in
        let few = at_d (λ n. size k + (shape n kind).wires ≤ wire_limit) few in
        record {
          small = (omega arith, omega (arith, a.least), a.most);
          few = few;
          as_many = wires-same a.d f.ops kind;
          early = rw ops-are (at_d (λ n. FrameEarly (frame_code (kind_code kind) f.ops) n (size k) f.ops) (frame-early k kind f.ops fits));
          supplied = λ used shares tape. frame-supplied a.d (k.inputs * a.d) used shares tape f.ops kind;
          few_takes = few_takes a.d a.least kind;
          gates = rw (ops-are, wires_are) (at_d (λ n. FrameGates (frame_code (kind_code kind) f.ops) n (size k) (k.inputs * n) f.ops (gate_at ((k.wires ++ made k f.ops kind) ++ more))) (frame-gates k f.ops more kind));
          names = rw ops-are (at_d (λ n. FrameNames (frame_code (kind_code kind) f.ops) n f.ops (λ x. is_named (look_up (whole a) x) ≡ true)) (frame_names k (λ x. is_named (look_up (whole a) x) ≡ true) named-whole kind f.ops fits));
          hides = rw wires_are (at_d (λ n. FrameHides (frame_code (kind_code kind) f.ops) n (size k) (λ x. is_named (shown_by (get_or ((k.wires ++ made k f.ops kind) ++ more) x nothing)) ≡ false)) (frame_hides k f.ops more kind));
          same = refl;
          place = rw (word-is, kind-known kind);
          later = omega (arith, fit_wide fits, meets.2);
          onward = onward;
          longer = length-append b.before (f ∷ []) ∙ omega arith;
          wires_next = at_d (λ n. size (so_far a onward) ≡ size k + (shape n kind).wires) (ap size grown ∙ size-extend k f.ops kind);
          inputs_next = at_d (λ n. (so_far a onward).inputs ≡ k.inputs + (shape n kind).inputs) (ap (λ (c : Circuit). c.inputs) grown);
          randoms_next = at_d (λ n. (so_far a onward).randoms ≡ k.randoms + (shape n kind).randoms) (ap (λ (c : Circuit). c.randoms) grown);
        }

  -- what the step's answer says: a frame is met, or no frame is left; a refusal never comes
  abbrev pub Answers : (d w from : ℕ) → Result (Option Next) Rule → Type 0
  Answers d w from (Ok (Some n)) = Met a b d w from n.frame n.shape n.walk
  Answers d w from (Ok None) = b.after ≡ []
  Answers d w from (Err rule) = ⊥

  answers : Answers a.d (size k) (k.inputs * a.d) (step_at table a.d at)
  answers = go b.after refl fitting.1
    where
      go : (after : List Frame) → b.after ≡ after → AllFit k after → Answers a.d (size k) (k.inputs * a.d) (step_at table a.d at)
      go [] e fit = subst (Answers a.d (size k) (k.inputs * a.d)) (sym (ended e)) e
      go (f ∷ later) e (next fits few more) = subst (Answers a.d (size k) (k.inputs * a.d)) (sym (step_is f later e fits few)) (met f later e fits few)

  -- with the numbers that the code has
  pub step_answers : {d w from : ℕ} {s : Result (Option Next) Rule} → d ≡ a.d → w ≡ size k → from ≡ k.inputs * a.d → step_at table d at ≡ s → Answers d w from s
  step_answers {d} same w_is from_is e = rw (same, w_is, from_is) (subst (Answers a.d (size k) (k.inputs * a.d)) (sym (ap (λ n. step_at table n at) same) ∙ e) answers)
