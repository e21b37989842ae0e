-- The ways out of the loop over the frames, and its turn.
use mathlib.Core.Path.{◌≡◌, refl, sym, ap, ap₂, subst, ◌∙◌}
use mathlib.Core.List.{List}
use Prim.Native.Nat.{ℕ, ◌+◌, ◌*◌, ◌-◌, ◌≤◌, ◌<◌}
use native.Mathlib.Omega.{arith}
use lib.ListN.{length, take, drop, length-drop, drop_of_length-le}
use lib.Seq.{sets, drop-drop, length-take-le}
use borrow.Author.Tests.{le-leb}
use Rattle.circuit.specs.Limits.{stage_limit}
use Rattle.circuit.specs.Lists.{nth}
use Rattle.circuit.specs.Kinds.{Kind, HEAD, kind_of, pairs, words}
use Rattle.circuit.specs.Circuit.{Circuit, size, new_stage, made, extend}
use Rattle.circuit.specs.Rules.{pass, refuse, frame_rule, Checked, frames}
use Rattle.circuit.specs.Answer.{accepted, answer, notes_of, notes_after}
use Rattle.circuit.specs.Composition.{kind_word, Fits}
use Rattle.circuit.proofs.Building.{size-extend}
use Rattle.circuit.proofs.Steps.{frames-pass, frames-refuse}
use Rattle.circuit.proofs.Fitting.{known, frame-pass}
use Rattle.std.specs.Prelude.{Option, Some, None, Result, Ok, Err}
use Rattle.circuit.specs.Refusals.{number_of, refusal}
use Rattle.circuit.specs.declared.rules.Refusal.{Refusal}
use Rattle.circuit.specs.declared.rules.Rule.{Rule}
use Rattle.checker.specs.declared.Accepted.{Accepted}
use Rattle.frames.specs.declared.walk.Next.{Next}
use Rattle.frames.specs.declared.walk.Walk.{Walk}
use Rattle.checker.specs.declared.frame.Tally.{Tally}
use Rattle.checker.specs.Answers.{answer_of, InputsAre}
use Rattle.frames.specs.Randoms.{listed_pairs}
use Rattle.frames.specs.Walk.{shape_code, shape_taking, operands_at, step_with, step_at}
use Rattle.frames.proofs.KindTable.{right_step}
use Rattle.frames.proofs.RandomBits.{listed-right}
use Rattle.checker.specs.declared.forms.Spot.{Spot}
use Rattle.checker.specs.Internal.Notes.{found_of, Represents}
use Rattle.checker.specs.Internal.Adding.{accepted_by, tally_of, Bounded, FrameOf, Adds}
use Rattle.checker.proofs.MadeNotes.{counts}
use Rattle.circuit.proofs.Noted.{label_step}
use Rattle.checker.proofs.Represented.{represents, notes_more, notes-same}
use Rattle.checker.proofs.Spanning.{highest_next, latency-is}
use Rattle.checker.proofs.Placing.{judgement_in, later_rule, notes_added, Placed, judgement, next, notes-next}
use Rattle.checker.proofs.Checking.{Promised, Walking, here, AtFrame, met}

module _ {table notes₀ notes : List ℕ} {d : ℕ} {walk : Walk} {tally : Tally} (w : Walking table notes₀ notes d walk tally) where
  -- the random bits that the step is given are those of a gadget
  pub stepped : {randoms : ℕ} {r : Result (Option Next) Rule} → randoms ≡ listed_pairs d → r ≡ step_with (shape_taking randoms walk.d) table walk.d walk.at
      → r ≡ step_at table walk.d walk.at
  stepped {randoms} g e = right_step table randoms walk.d walk.at e (g ∙ listed-right d (omega (arith, w.shares, w.most)) ∙ ap pairs (sym w.walk_shares))

  -- the rest of the table judged ends the check
  ends : (c : Checked) → frames w.k tally.frames 0 (drop walk.at table) ≡ c → c.circuit ≡ w.k
      → (v : Result Accepted Refusal) → answer_of v ≡ answer c.circuit c.judgement → InputsAre v c.circuit.inputs
      → Promised table notes₀ notes v
  ends c e s v a n = rw (w.rest, e) (a, (w.notes_is ∙ ap (λ k. notes_after k notes₀) (sym s), n))

  -- the end of the table
  pub way_end : Ok None ≡ step_at table walk.d walk.at → Promised table notes₀ notes (Ok (accepted_by tally))
  unfolding frames
  way_end e = ends (record { circuit = w.k; judgement = pass }) (ap (frames w.k tally.frames 0) (drop_of_length-le table {i = walk.at} (met table walk.d walk.at e))) refl
      (Ok (accepted_by tally)) (ap (λ t. answer_of (Ok (accepted_by t))) w.tally_is ∙ ap (accepted (size w.k) w.k.randoms) (latency-is w.k w.highest)) (ap (λ t. t.inputs) w.tally_is)

  -- a frame that is refused
  refused-at : (rule : Rule) (word : ℕ) → walk.at < length table → frame_rule w.k tally.frames (nth table walk.at) (drop (walk.at + 1) table) ≡ refuse (number_of rule) tally.frames word
      → Promised table notes₀ notes (Err (refusal rule tally.frames word))
  refused-at rule word h e = ends (record { circuit = w.k; judgement = refuse (number_of rule) tally.frames word })
      (ap (frames w.k tally.frames 0) (here table d walk.at h) ∙ frames-refuse w.k tally.frames (nth table walk.at) (drop (walk.at + 1) table) (number_of rule) tally.frames word e) refl
      (Err (refusal rule tally.frames word)) refl tt

  pub way_refused : (rule : Rule) → Err rule ≡ step_at table walk.d walk.at → Promised table notes₀ notes (Err (refusal rule tally.frames 0))
  way_refused rule e = let (h, r) = met table walk.d walk.at e in
      refused-at rule 0 h (r w.k (w.shares ∙ sym w.walk_shares) tally.frames)

  -- a whole frame at the walk's place
  module _ {n : Next} (e : Ok (Some n) ≡ step_at table walk.d walk.at) (ops : List ℕ) (o : ops ≡ operands_at table walk.d walk.at) where
    frame_at : AtFrame table walk.d walk.at n.shape n.walk
    frame_at = met table walk.d walk.at e

    abbrev kind : Kind
    kind = kind_of (nth table walk.at)

    abbrev rest : List ℕ
    rest = drop (walk.at + 1) table

    later : kind ≡ HEAD → ⊥
    later h = omega (arith, frame_at.low, ap kind_word h, known (nth table walk.at) frame_at.high)

    shares : walk.d ≡ w.k.d
    shares = w.walk_shares ∙ sym w.shares

    ops-is : ops ≡ take (words w.k.d kind) rest
    ops-is = o ∙ ap (λ m. take (words m kind) rest) shares

    whole : words w.k.d kind ≤ length rest
    whole = subst (λ m. words m kind ≤ length rest) shares frame_at.whole

    placed : Placed w.k kind tally n.shape d ops notes
    placed = record {
      later = later;
      represents = rw w.notes_is (subst (λ m. Represents w.k (notes_after w.k notes₀) m) (sym (ap (λ t. t.wires) w.tally_is)) (represents w.k notes₀ w.most (omega (arith, w.least)) w.law));
      tally_is = w.tally_is;
      shares = w.shares;
      shape_is = frame_at.shape_is ∙ ap (λ m. shape_code m kind) w.walk_shares;
      whole = ap length ops-is ∙ length-take-le (words w.k.d kind) rest whole ∙ ap (λ m. words m kind) w.shares;
    }

    -- what is left to judge behind 5 and 6 is the frame's judgement
    judged-is : frame_rule w.k tally.frames (nth table walk.at) rest ≡ later_rule w.k tally.frames kind ops
    unfolding frame_rule
    judged-is = rw (le-leb 1 (nth table walk.at) frame_at.low, le-leb (nth table walk.at) 8 frame_at.high, le-leb (words w.k.d kind) (length rest) whole, ops-is)

    pub frame_of : FrameOf n.shape d ops
    frame_of = record { kind = kind; later = later; whole = placed.whole; shape_is = placed.shape_is; least = omega (arith, w.shares, w.least); most = omega (arith, w.shares, w.most) }

    module _ (new : List ℕ) (r : Result Tally Spot) (a : Adds tally n.shape d ops notes new r) where
      -- the frame is refused, and the notes stay
      broken-is : (s : Spot) → r ≡ Err s → later_rule w.k tally.frames kind ops ≡ refuse (number_of s.rule) tally.frames s.word
      broken-is s e = sym (judgement placed a) ∙ ap (judgement_in tally.frames) e

      pub broken_kept : (s : Spot) → r ≡ Err s → new ≡ notes
      broken_kept s e = notes-next placed a ∙ ap (λ j. notes_added j notes (size w.k) (made w.k ops kind)) (broken-is s e)

      pub way_broken : (s : Spot) → r ≡ Err s → Promised table notes₀ new (Err (refusal s.rule tally.frames s.word))
      way_broken s e =
          let (v, p) = refused-at s.rule s.word frame_at.inside (judged-is ∙ broken-is s e) in
          (v, (broken_kept s e ∙ p.0, p.1))

      -- the frame is added
      pub turn : (t : Tally) → r ≡ Ok t → Walking table notes₀ new d n.walk t
      turn t s =
          let told : later_rule w.k tally.frames kind ops ≡ pass = sym (judgement placed a) ∙ ap (judgement_in tally.frames) s in
          let passed = frame-pass w.k tally.frames (nth table walk.at) rest w.least (judged-is ∙ told) in
          let many = words w.k.d kind in
          let more : Circuit = extend w.k ops kind in
          let t_is : t ≡ tally_of (tally.frames + 1) more = next placed a t s in
          let f_is : t.frames ≡ tally.frames + 1 = ap (λ x. x.frames) t_is in
          let at_is : n.walk.at ≡ walk.at + 1 + many = ap (λ x. x.at) frame_at.walk_is ∙ ap (λ q. walk.at + 1 + words q kind) shares in
          record {
            k = more;
            least = w.least;
            most = w.most;
            shares = w.shares;
            walk_shares = ap (λ x. x.d) frame_at.walk_is ∙ w.walk_shares;
            tally_is = t_is ∙ ap (λ f. tally_of f more) (sym f_is);
            few = omega (arith, size-extend w.k ops kind, passed.few);
            used = omega (arith, size-extend w.k ops kind, (counts w.k.d kind (found_of w.k) ops).randoms_few, w.used);
            inputs = omega (arith, (counts w.k.d kind (found_of w.k) ops).inputs_few, w.inputs);
            highest = highest_next w.k.frames _ (subst (λ o. new_stage w.k o kind ≤ stage_limit) (sym ops-is) passed.stage) w.highest;
            counted = omega (arith, w.counted);
            inside = omega (arith, length-drop (walk.at + 1) table, frame_at.inside, whole);
            short = w.short;
            roomy = w.roomy;
            law = label_step w.k ops kind w.least (subst (Fits w.k kind) (sym ops-is) passed.fits) w.law;
            notes_is = notes-next placed a ∙ ap (λ j. notes_added j notes (size w.k) (made w.k ops kind)) told
                ∙ ap (λ l. sets l (2 * size w.k) (notes_of (made w.k ops kind))) w.notes_is
                ∙ notes_more w.k ops kind notes₀ (omega (arith, size-extend w.k ops kind, passed.few, w.roomy));
            rest = w.rest ∙ ap (frames w.k tally.frames 0) (here table d walk.at frame_at.inside)
                ∙ frames-pass w.k tally.frames (nth table walk.at) rest (judged-is ∙ told)
                ∙ ap₂ (λ o f. frames (extend w.k o kind) f 0 (drop many rest)) (sym ops-is) (omega arith)
                ∙ ap (frames more t.frames 0) (drop-drop many (walk.at + 1) table ∙ ap (λ q. drop q table) (sym at_is));
          }

    -- and less of the table is left
    pub less_left : length table - n.walk.at < length table - walk.at
    less_left = omega (arith, ap (λ x. x.at) frame_at.walk_is, frame_at.inside)

-- the notes are as long as they were
pub same_length : {table notes₀ notes : List ℕ} {d : ℕ} {walk : Walk} {tally : Tally} → Walking table notes₀ notes d walk tally → length notes ≡ length notes₀
same_length {notes₀ = notes₀} w = ap length w.notes_is ∙ notes-same w.k notes₀ (omega (arith, w.few, w.roomy))

-- the numbers that a frame is added to
pub bounded : {table notes₀ notes : List ℕ} {d : ℕ} {walk : Walk} {tally : Tally} → Walking table notes₀ notes d walk tally → Bounded tally notes
bounded w = record {
  room = record { few = omega (arith, ap (λ t. t.wires) w.tally_is, w.few); long = omega (arith, same_length w, w.roomy) };
  randoms = omega (arith, ap (λ t. t.randoms) w.tally_is, ap (λ t. t.wires) w.tally_is, w.used);
  frames = omega (arith, w.counted, w.inside, w.short);
  inputs = omega (arith, ap (λ t. t.inputs) w.tally_is, w.inputs);
}
