-- The walk over an accepted table's frames: those before its place are in sharings, and the judgement of the table is that of the frames left.
use mathlib.Core.Path.{◌≡◌, refl, sym, ap, ap₂, subst, subst₂, ◌∙◌}
use mathlib.Core.Bool.{Bool, true, false, cond}
use mathlib.Core.List.{List, [], ◌∷◌, ◌++◌, append_assoc}
use Prim.Native.Nat.{ℕ, suc, ◌+◌, ◌-◌, ◌*◌, ◌≤◌, ◌<◌}
use native.Mathlib.Nat.{mul-le-mul_left}
use native.Mathlib.Omega.{arith}
use lib.Dec.{eqb}
use lib.ListN.{length, take, drop, length-append, length-drop, take-append-drop}
use lib.Seq.{drop-drop}
use borrow.Author.Tests.{ne_eqb}
use Rattle.circuit.specs.Limits.{fewest_shares}
use Rattle.circuit.specs.Lists.{nth}
use Rattle.circuit.specs.Kinds.{Kind, HEAD, IN, CON, XOR, NOT, REG, AND, REF, OUT, pairs, words, shape}
use Rattle.circuit.specs.Circuit.{Circuit, empty, place}
use Rattle.circuit.specs.Rules.{pass, refuse, need}
use Rattle.circuit.specs.Composition.{Frame, frame, Fits, fit-IN, fit-CON, fit-XOR, fit-NOT, fit-REG, fit-AND, fit-REF, fit-OUT, AllFit, next, build, words_of}
use Rattle.circuit.proofs.Base.{Every, and_left}
use Rattle.circuit.proofs.Building.{named-made, build-append, build_intime, fit-split, Lawful, InTime, wire_kept}
use Rattle.circuit.proofs.Sizes.{words-AND, words-REF, words-OUT}
use Rattle.frames.specs.declared.walk.Frame.{Frame as FrameCode}
use Rattle.frames.specs.declared.kinds.Shape.{Shape as ShapeCode}
use Rattle.frames.specs.declared.walk.Walk.{Walk}
use Rattle.frames.specs.declared.walk.Next.{Next}
use Rattle.circuit.specs.declared.rules.Rule.{Rule}
use Rattle.std.specs.Prelude.{Option, Some, None, Result, Ok, Err}
use Rattle.frames.specs.Walk.{kind_code, shape_code, frame_code, behind, step_at}
use Rattle.gadgets.specs.Internal.Accepting.{AcceptedTable, circuit_in, Between}
use Rattle.gadgets.proofs.Walking.{second_word, so_far, between_start, fitting, same_d, all-built, ended, step_is}
use Rattle.plain.specs.Sharings.{Plain, none, is_run, fits, joined, further, groups_from, going, whole_from, whole_of}
use Rattle.plain.specs.Internal.Tests.{frame_fits, RowsIn, Labels}
use Rattle.plain.proofs.Kept.{Kept}
use Rattle.plain.proofs.Framed.{frames_in_lem, groups_skip}
use Rattle.plain.proofs.Keeping.{kept_start, kept_next}
use Rattle.plain.proofs.Runs.{run-shown}
use Rattle.plain.proofs.Words.{Sized, fit-sized, run-words, words-behind}
use Rattle.plain.proofs.Deciding.{exact}

-- where the walk stands: at a place of the table, before the frame of a number
pub record WholeTo (table : List ℕ) (at number : ℕ) : Type 0 where
  pub accepted : AcceptedTable table
  pub between : Between table accepted.fs at
  pub plain : Plain
  pub kept : Kept (so_far accepted between) plain
  pub some : 1 ≤ number
  pub few : number ≤ at
  pub same : (whole_of table).judgement ≡ (whole_from (so_far accepted between) plain (groups_from accepted.d number 0 between.after)).judgement

pub whole_start : {table : List ℕ} → AcceptedTable table → WholeTo table 2 1
unfolding whole_of
whole_start {table} a = record {
  accepted = a;
  between = between_start a;
  plain = none;
  kept = kept_start a.d;
  some = omega arith;
  few = omega arith;
  same = ap₂ (λ d fs. (whole_from (empty d) none (groups_from d 1 0 fs)).judgement) (second_word a) (frames_in_lem a);
}

one_more : (n : ℕ) → 1 ≤ 1 + n
one_more n = omega arith

-- how many frames go with the first, by the wires that it makes
further-is : (d : ℕ) → fewest_shares ≤ d → (kind : Kind) → cond (eqb (shape d kind).wires 1) (d - 1) 0 ≡ further d kind
unfolding shape
further-is d ge HEAD = refl
further-is d ge IN = rw (ne_eqb d 1 (λ e. omega arith))
further-is d ge CON = refl
further-is d ge XOR = refl
further-is d ge NOT = refl
further-is d ge REG = refl
further-is d ge AND = rw (ne_eqb (7 * (d * (d - 1)) + 4 * d) 1 (λ e. omega arith))
further-is d ge REF = rw (ne_eqb (pairs d + 2 * d) 1 (λ e. omega arith))
further-is d ge OUT = refl

-- frames that fit together are of one kind, and as many as go together
one-kind : (k : Circuit) (p : Plain) (kind : Kind) (ops : List ℕ) (later : List Frame) → fewest_shares ≤ k.d → fits k p (frame kind ops) (take (further k.d kind) later) kind ≡ true
    → let run = frame kind ops ∷ take (further k.d kind) later in Every (λ g. g.kind ≡ kind) run × (length run ≡ 1 + further k.d kind)
unfolding fits
one-kind k p kind ops later ge = go kind
  where
    lone : (kind : Kind) → Every (λ g. g.kind ≡ kind) (frame kind ops ∷ []) × (length (frame kind ops ∷ []) ≡ 1)
    lone kind = ((refl, tt), refl)

    many : {kind : Kind} → is_run k p (frame kind ops) (take (k.d - 1) later) ≡ true
        → let run = frame kind ops ∷ take (k.d - 1) later in Every (λ g. g.kind ≡ kind) run × (length run ≡ 1 + (k.d - 1))
    many {kind} h = let r = run-shown k p (frame kind ops) (take (k.d - 1) later) h in (r.kinds, r.count ∙ omega arith)

    go : (kind : Kind) → fits k p (frame kind ops) (take (further k.d kind) later) kind ≡ true
        → let run = frame kind ops ∷ take (further k.d kind) later in Every (λ g. g.kind ≡ kind) run × (length run ≡ 1 + further k.d kind)
    go HEAD h = lone HEAD
    go IN h = lone IN
    go CON h = many (and_left _ _ h)
    go XOR h = many (and_left _ _ (and_left _ _ h))
    go NOT h = many (and_left _ _ h)
    go REG h = many (and_left _ _ h)
    go AND h = lone AND
    go REF h = lone REF
    go OUT h = lone OUT

module _ {table notes : List ℕ} {at number : ℕ} (h : WholeTo table at number) (marks : Labels notes (circuit_in table)) where
  abbrev a : AcceptedTable table
  a = h.accepted

  abbrev b : Between table a.fs at
  b = h.between

  abbrev k : Circuit
  k = so_far a b

  least : fewest_shares ≤ k.d
  least = subst (λ (n : ℕ). fewest_shares ≤ n) (sym (same_d a b)) a.least

  time : Lawful InTime k
  time = build_intime a.d b.before a.least (fitting a b).0

  marks_here : Labels notes k
  marks_here = record {
    told = λ x l t e. marks.told x l t (ap (λ c. place c x) (a.circuit_is ∙ all-built a b) ∙ ap (λ w. w.place) (wire_kept k b.after x (named-made k x l t e)) ∙ e);
  }

  -- the next frame, and those behind it
  module _ (f : Frame) (later : List Frame) (e : b.after ≡ f ∷ later) where
    fit : AllFit k (f ∷ later)
    fit = subst (AllFit k) e (fitting a b).1

    here : drop at table ≡ words_of (f ∷ later)
    here = b.rest ∙ ap words_of e

    abbrev rest : List Frame
    rest = take (further k.d f.kind) later

    abbrev is_fit : Bool
    is_fit = fits k h.plain f rest f.kind

    test_is : frame_fits table notes at k.d (frame_code (kind_code f.kind) f.ops) ≡ is_fit
    test_is = go fit
      where
        go : AllFit k (f ∷ later) → frame_fits table notes at k.d (frame_code (kind_code f.kind) f.ops) ≡ is_fit
        go (next fits few more) = exact k h.plain h.kept least time table notes marks_here at later fits here fit

    -- the judgement of the table is that of this frame, then of those that are left
    abbrev along : ℕ
    along = 1 + further k.d f.kind

    judged : (whole_of table).judgement ≡ (going (need is_fit 26 number 0) h.plain (whole_from (build k (f ∷ rest)) (joined k h.plain f rest f.kind)
        (groups_from k.d (number + along) 0 (drop (further k.d f.kind) later)))).judgement
    unfolding whole_from groups_from
    judged =
        let n = further k.d f.kind in
        let e' : suc number + n ≡ number + along = omega arith in
        h.same ∙ ap₂ (λ m fs. (whole_from k h.plain (groups_from m number 0 fs)).judgement) (sym (same_d a b)) e
        ∙ ap (λ rs. (going (need is_fit 26 number 0) h.plain (whole_from (build k (f ∷ rest)) (joined k h.plain f rest f.kind) rs)).judgement)
        (groups_skip k.d (suc number) n later ∙ ap (λ m. groups_from k.d m 0 (drop n later)) e')

    sized-one : length f.ops ≡ words k.d f.kind
    sized-one = (fit-sized k (f ∷ later) least time fit).0

    refused : is_fit ≡ false → (whole_of table).judgement ≡ refuse 26 number 0
    refused z = judged ∙ rw z

    -- the frames that go together, where they fit
    module _ (z : is_fit ≡ true) where
      abbrev n : ℕ
      n = further k.d f.kind

      abbrev step : ℕ
      step = 1 + words k.d f.kind

      abbrev run : List Frame
      run = f ∷ rest

      split_here : f ∷ later ≡ run ++ drop n later
      split_here = ap (λ fs. f ∷ fs) (sym (take-append-drop n later))

      taken : take along (f ∷ later) ≡ run
      taken = let e' : along ≡ suc n = omega arith in ap (λ m. take m (f ∷ later)) e'

      kinds : Every (λ g. g.kind ≡ f.kind) (take along (f ∷ later))
      kinds = subst (Every (λ g. g.kind ≡ f.kind)) (sym taken) (one-kind k h.plain f.kind f.ops later least z).0

      count : length (take along (f ∷ later)) ≡ along
      count = ap length taken ∙ (one-kind k h.plain f.kind f.ops later least z).1

      sized : Sized k.d (f ∷ later)
      sized = fit-sized k (f ∷ later) least time fit

      pub room : at + along * step ≤ length table
      room = omega (arith, b.most, length-drop at table, ap length here, run-words k.d f.kind along (f ∷ later) sized kinds count)

      abbrev onward : Between table a.fs (at + along * step)
      onward = record {
        before = b.before ++ run;
        after = drop n later;
        split = b.split ∙ ap (λ fs. b.before ++ fs) (e ∙ split_here) ∙ sym (append_assoc b.before run (drop n later));
        rest = sym (drop-drop (along * step) at table) ∙ ap (drop (along * step)) here ∙ words-behind k.d f.kind along (f ∷ later) sized kinds count
            ∙ (let e' : along ≡ suc n = omega arith in ap (λ m. words_of (drop m (f ∷ later))) e');
        most = room;
      }

      grown : so_far a onward ≡ build k run
      grown = build-append (empty a.d) b.before run

      pub passed : WholeTo table (at + along * step) (number + along)
      passed = record {
        accepted = a;
        between = onward;
        plain = joined k h.plain f rest f.kind;
        kept = subst (λ (c : Circuit). Kept c (joined k h.plain f rest f.kind)) (sym grown)
            (kept_next k h.plain f rest (fit-split k run (drop n later) (subst (AllFit k) split_here fit)).0 (omega (arith, ap length taken, count)) h.kept z);
        some = omega (arith, h.some);
        few = omega (arith, h.few, mul-le-mul_left along (one_more (words k.d f.kind)));
        same = judged ∙ rw z (ap₂ (λ c m. (whole_from c (joined k h.plain f rest f.kind) (groups_from m (number + along) 0 (drop n later))).judgement) (sym grown) (same_d a b));
      }

  -- the walk at the end of frames that fit, of which so many go with the first
  pub record Further (end more : ℕ) : Type 0 where
    pub room : end ≤ length table
    pub past : at < end
    pub next : WholeTo table end (number + more + 1)

  further_by : (f : Frame) (later : List Frame) (e : b.after ≡ f ∷ later) → is_fit f later e ≡ true → let n = further k.d f.kind in let m = words k.d f.kind in
      Further (at + 1 + m + n * (1 + m)) n
  further_by f later e z =
      let n = further k.d f.kind in
      let m = words k.d f.kind in
      let place : at + (1 + n) * (1 + m) ≡ at + 1 + m + n * (1 + m) = omega arith in
      let count : number + (1 + n) ≡ number + n + 1 = omega arith in
      record { room = rw (← place) (room f later e z); past = omega arith; next = subst₂ (WholeTo table) place count (passed f later e z) }

  abbrev more_by : ℕ → ShapeCode → ℕ
  more_by d sh = cond (eqb sh.wires 1) (d - 1) 0

  -- what the code finds at the place: a frame, which fits or does not; or the table's end
  pub record Turn (d : ℕ) (fr : FrameCode) (sh : ShapeCode) (wk : Walk) : Type 0 where
    pub inside : at + 1 + sh.words ≤ length table
    pub rows : RowsIn table at d fr
    pub wrong : frame_fits table notes at d fr ≡ false → (whole_of table).judgement ≡ refuse 26 number 0
    pub right : frame_fits table notes at d fr ≡ true → Further (wk.at + more_by d sh * (1 + sh.words)) (more_by d sh)

  rows_in : {kind : Kind} {ops : List ℕ} → Fits k kind ops → at + 1 + words k.d kind ≤ length table → RowsIn table at k.d (frame_code (kind_code kind) ops)
  rows_in (fit-IN t o) l = tt
  rows_in (fit-CON x b t o p q) l = tt
  rows_in (fit-XOR x y m t p q) l = tt
  rows_in (fit-NOT x m t p) l = tt
  rows_in (fit-REG x m t p o) l = tt
  rows_in (fit-AND ops t len first p q o) l = omega (arith, words-AND k.d)
  rows_in (fit-REF ops t len first p o) l = omega (arith, words-REF k.d)
  rows_in (fit-OUT ops t len p q) l = omega (arith, words-OUT k.d)

  -- the turn that meets a frame, with d shares
  abbrev MeetsFrame : Frame → ℕ → Type 0
  MeetsFrame f d = Turn d (frame_code (kind_code f.kind) f.ops) (shape_code d f.kind) (behind d at (words d f.kind))

  meeting : (f : Frame) (later : List Frame) → b.after ≡ f ∷ later → Fits k f.kind f.ops → MeetsFrame f k.d
  meeting f later e fits =
      let inside : at + 1 + words k.d f.kind ≤ length table =
      omega (arith, b.most, length-drop at table, ap length (here f later e), length-append f.ops (words_of later), sized-one f later e) in
      record {
        inside = inside;
        rows = rows_in fits inside;
        wrong = λ z. refused f later e (sym (test_is f later e) ∙ z);
        right = λ z. rw (further-is k.d least f.kind) (further_by f later e (sym (test_is f later e) ∙ z));
      }

  ending : b.after ≡ [] → (whole_of table).judgement ≡ pass
  unfolding whole_from groups_from
  ending e = h.same ∙ ap (λ fs. (whole_from k h.plain (groups_from a.d number 0 fs)).judgement) e

  abbrev pub Meets : ℕ → Result (Option Next) Rule → Type 0
  Meets d (Ok (Some n)) = Turn d n.frame n.shape n.walk
  Meets d (Ok None) = (whole_of table).judgement ≡ pass
  Meets d (Err rule) = ⊥

  pub turn : {d : ℕ} {s : Result (Option Next) Rule} → d ≡ nth table 1 → step_at table d at ≡ s → Meets d s
  turn {d} {s} same e = subst (Meets d) e (rw (same ∙ second_word a) (go b.after refl (fitting a b).1))
    where
      at_d : (P : ℕ → Type 0) → P k.d → P a.d
      at_d P = subst P (same_d a b)

      go : (after : List Frame) → b.after ≡ after → AllFit k after → Meets a.d (step_at table a.d at)
      go [] z fit = subst (Meets a.d) (sym (ended a b z)) (ending z)
      go (f ∷ later) z (next fits few more) = subst (Meets a.d) (sym (step_is a b f later z fits few)) (at_d (MeetsFrame f) (meeting f later z fits))
