-- The frames of an accepted table, listed one by one, each with how many wires come before it.
use mathlib.Core.Path.{◌≡◌, refl, sym, ap, subst, ◌∙◌}
use mathlib.Core.Bool.{Bool, true, false, cond, ◌&&◌}
use mathlib.Core.List.{List, [], ◌∷◌, ◌++◌, append-nil}
use Prim.Native.Nat.{ℕ, ◌+◌, ◌-◌, ◌*◌, ◌≤◌, ◌<◌}
use native.Mathlib.Omega.{arith}
use lib.Dec.{ltb, leb, eqb}
use lib.ListN.{length, take, drop, set, length-append, length-drop}
use lib.Seq.{take_at, take-add, get_or-set_same, get_or-set_other}
use borrow.Author.Tests.{lt-ltb, ltb-true, ltb-false, eqb-true, eqb-false}
use Rattle.circuit.specs.Limits.{table_limit, wire_limit}
use Rattle.circuit.specs.Lists.{nth}
use Rattle.circuit.specs.Kinds.{kind_of, pairs, words}
use Rattle.circuit.specs.Circuit.{size, empty}
use Rattle.circuit.specs.Composition.{Frame, build, words_of}
use Rattle.circuit.proofs.Base.{cases}
use Rattle.circuit.proofs.Building.{build_more, build-append}
use Rattle.frames.specs.declared.walk.Next.{Next}
use Rattle.circuit.specs.declared.rules.Rule.TheVariants.{Kind, WordCount}
use Rattle.std.specs.Prelude.{Some, Ok, Err}
use Rattle.frames.specs.declared.kinds.Shape.{Shape as ShapeCode}
use Rattle.frames.specs.Walk.{kind_code, shape_taking, frame_code, operands_at, behind, step_with}
use Rattle.frames.proofs.KindTable.{right_step}
use Rattle.gadgets.specs.Internal.Accepting.{AcceptedTable, circuit_in, Between}
use Rattle.gadgets.proofs.Walking.{whole-few, so_far, between_start, wires-grow, second_word, Met, Answers, step_answers}
use Rattle.reach.specs.declared.listing.Listed.{Listed}
use Rattle.reach.specs.Internal.Listing.{at_place, start_of, first_of, wires_before, ListedTo, Lists}

-- the frames before a place, by their number; and how many wires they make
pub before-is : {table : List ℕ} {fs : List Frame} {at : ℕ} (b : Between table fs at) {n : ℕ} → length b.before ≡ n → b.before ≡ take n fs
before-is b {n} e = sym (ap (take n) b.split ∙ take_at b.before b.after n e)

module _ {table : List ℕ} (a : AcceptedTable table) where
  pub wires-before : {at : ℕ} (b : Between table a.fs at) {n : ℕ} → length b.before ≡ n → size (so_far a b) ≡ wires_before a n
  wires-before b e = ap (λ x. size (build (empty a.d) x)) (before-is b e)

  -- more frames make no fewer wires
  build-grow : (fs gs : List Frame) → size (build (empty a.d) fs) ≤ size (build (empty a.d) (fs ++ gs))
  build-grow fs gs =
      let k = build (empty a.d) fs in
      let (more, e) = build_more k gs in
      omega (arith, ap size (build-append (empty a.d) fs gs), ap length e, length-append k.wires more)

  pub before-grow : (i j : ℕ) → i ≤ j → wires_before a i ≤ wires_before a j
  before-grow i j h =
      let e : j ≡ i + (j - i) = omega arith in
      rw (e, take-add i (j - i) a.fs) (build-grow (take i a.fs) (take (j - i) (drop i a.fs)))

pub listed_start : {table : List ℕ} → AcceptedTable table → (list : List Listed) → ListedTo table list 2 0 0
listed_start a list = record {
  accepted = a;
  between = between_start a;
  counted = refl;
  starts_are = λ i l. absurd (omega arith);
  firsts_are = λ i l. absurd (omega arith);
  first_is = refl;
  spaced = omega arith;
}

-- an entry of a list in which one was written
listed_set : {A : Type 0} (list : List Listed) (p : ℕ) (e : Listed) (x : ℕ) → p < length list
    → (x ≡ p → at_place (set list p e) x ≡ e → A) → ((x ≡ p → ⊥) → at_place (set list p e) x ≡ at_place list x → A) → A
listed_set list p e x room f g = cases (eqb x p)
    (λ h. let q = eqb-true x p h in f q (ap (at_place (set list p e)) q ∙ get_or-set_same list p e _ room))
    (λ h. g (eqb-false x p h) (get_or-set_other list p x e _ (eqb-false x p h)))

-- a frame passed: the next begins behind it, and the numbers stay small
pub record Passes (words at next first wires count : ℕ) : Type 0 where
  pub past : at + 2 ≤ next
  pub most : next ≤ words
  pub short : words ≤ table_limit
  pub few : first + wires ≤ wire_limit
  pub room : 2 * count + 2 ≤ words

module _ {table : List ℕ} {list : List Listed} {at first count : ℕ} (l : ListedTo table list at first count) where
  abbrev a : AcceptedTable table
  a = l.accepted

  first_so_far : first ≡ size (so_far a l.between)
  first_so_far = l.first_is ∙ sym (wires-before a l.between l.counted)

  pub first-few : first ≤ wire_limit
  first-few = omega (arith, first_so_far, wires-grow a l.between, whole-few a)

  -- where not all wires come before the place, a frame follows
  pub goes_on : {limit : ℕ} → first < limit → limit ≤ size (circuit_in table) → at < length table
  goes_on h k = cases (ltb at (length table)) (ltb-true at (length table)) (λ e.
      let all : a.fs ≡ l.between.before = l.between.split ∙ ap (λ r. l.between.before ++ r) (no_words l.between.after l.between.rest (ltb-false at (length table) e)) ∙ append-nil l.between.before in
      absurd (omega (arith, first_so_far, ap size a.circuit_is, ap (λ x. size (build (empty a.d) x)) all)))
    where
      no_words : (fs : List Frame) → drop at table ≡ words_of fs → length table ≤ at → fs ≡ []
      no_words [] e h = refl
      no_words (f ∷ fs) e h = absurd (omega (arith, ap length e, length-drop at table))

  -- the frame there, by what its kind decides
  module _ (inside : at < length table) {randoms : ℕ} (given : randoms ≡ pairs (nth table 1)) {shape : ShapeCode} (decided : shape ≡ shape_taking randoms (nth table 1) (kind_of (nth table at))) where
    abbrev next : ℕ
    next = at + (1 + shape.words)

    the_frame : (k m : Bool) {d w from : ℕ} {n : Next} → Answers a l.between d w from (cond k (cond m (Ok (Some n)) (Err WordCount)) (Err Kind)) → Met a l.between d w from n.frame n.shape n.walk
    the_frame true true m = m
    the_frame true false m = absurd m
    the_frame false k m = absurd m

    met : Met a l.between (nth table 1) (size (so_far a l.between)) ((so_far a l.between).inputs * a.d)
        (frame_code (kind_code (kind_of (nth table at))) (operands_at table (nth table 1) at)) shape (behind (nth table 1) at shape.words)
    met =
        let step = right_step table randoms (nth table 1) at {s = step_with (shape_taking randoms (nth table 1)) table (nth table 1) at} refl given in
        rw decided (the_frame (leb 1 (nth table at) && leb (nth table at) 8) (leb (words (nth table 1) (kind_of (nth table at))) (length (drop (at + 1) table)))
        (rw (lt-ltb at (length table) inside) at (step_answers a l.between (second_word a) refl refl (sym step))))

    pub passes : Passes (length table) at next first shape.wires count
    passes = record {
      past = omega (arith, met.later);
      most = omega (arith, met.onward.most);
      short = a.short;
      few = omega (arith, met.few, first_so_far);
      room = omega (arith, l.spaced, l.between.most);
    }

    pub listed_next : count < length list → ListedTo table (set list count (record { start = at; first = first })) next (first + shape.wires) (count + 1)
    listed_next room = record {
      accepted = a;
      between = onward.0;
      counted = onward.1;
      starts_are = λ i h. listed_set list count (record { start = at; first = first }) i room
          (λ same z. rw (start_of, z) (l.between, before-is l.between (l.counted ∙ sym same)))
          (λ other z. rw (start_of, z) (l.starts_are i (omega arith)));
      firsts_are = λ i h. listed_set list count (record { start = at; first = first }) i room
          (λ same z. rw (first_of, z) (l.first_is ∙ ap (wires_before a) (sym same)))
          (λ other z. rw (first_of, z) (l.firsts_are i (omega arith)));
      first_is = omega (arith, first_so_far, met.wires_next, wires-before a met.onward {n = count + 1} (omega (arith, met.longer, l.counted)));
      spaced = omega (arith, l.spaced, met.later);
    }
      where
        onward : (b : Between table a.fs next) × (length b.before ≡ count + 1)
        onward = subst (λ (n : ℕ). (b : Between table a.fs n) × (length b.before ≡ count + 1)) (omega arith) (met.onward, omega (arith, met.longer, l.counted))

  -- the frames so far, and behind them how many wires come before
  pub listed_end : count < length list → (last : Listed) → last.first ≡ first → Lists table (set list count last) count × (first_of (set list count last) count ≡ first)
  listed_end room last e = (
    record {
      accepted = a;
      most = omega (arith, l.counted, ap length l.between.split, length-append l.between.before l.between.after);
      few = omega (arith, l.spaced, l.between.most);
      starts_are = λ i h. listed_set list count last i room
          (λ same z. absurd (omega arith))
          (λ other z. rw (start_of, z) (l.starts_are i h));
      firsts_are = λ i h. listed_set list count last i room
          (λ same z. rw (first_of, z) (e ∙ l.first_is ∙ ap (wires_before a) (sym same)))
          (λ other z. rw (first_of, z) (l.firsts_are i (omega arith)));
    },
    ap (λ (l : Listed). l.first) (get_or-set_same list count last _ room) ∙ e,
  )
