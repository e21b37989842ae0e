-- What is written for a frame makes its wires right.
use mathlib.Core.Path.{◌≡◌, refl, sym, ap, subst, ◌∙◌}
use mathlib.Core.Bool.{Bool, true, true≢false}
use mathlib.Core.List.{List}
use Prim.Native.Nat.{ℕ, ◌+◌, ◌*◌, ◌-◌, ◌^◌, ◌≤◌, ◌<◌}
use native.Mathlib.Nat.{mul-le-mul_right}
use native.Mathlib.Omega.{arith}
use lib.Bits.{xor_lt}
use lib.Dec.{ltb}
use lib.ListN.{length}
use lib.Pow.{pow-lt}
use borrow.Author.Tests.{ltb-true, ltb-false}
use Rattle.circuit.specs.Limits.{wire_limit}
use Rattle.circuit.specs.Lists.{nth}
use Rattle.circuit.specs.Circuit.{Circuit, look_up, is_named}
use Rattle.circuit.specs.Kinds.{pairs}
use Rattle.circuit.proofs.Base.{cases}
use Rattle.circuit.proofs.Sizes.{pairs_twice}
use Rattle.frames.specs.declared.walk.Gate.{Gate as GateCode}
use Rattle.frames.specs.declared.walk.Gate.TheVariants as gate
use Rattle.frames.specs.declared.walk.Frame.{Frame as FrameCode}
use Rattle.frames.specs.declared.walk.Frame.TheVariants as frame
use Rattle.frames.specs.declared.walk.Walk.{Walk}
use Rattle.frames.specs.declared.kinds.Shape.{Shape as ShapeCode}
use Rattle.frames.specs.Walk.{operands_at}
use Rattle.gadgets.specs.Internal.Accepting.{AcceptedTable}
use Rattle.gadgets.specs.Internal.Places.{word_a, word_b, cross_start, out_at}
use Rattle.gadgets.specs.Internal.Frames.{GateEarly, GateNames, FrameSupplied}
use Rattle.gadgets.proofs.Walking.{whole, Met}
use Rattle.simulation.specs.Internal.Filling.{Values}
use Rattle.simulation.specs.Internal.Evaluating.{packed}
use Rattle.simulation.specs.Internal.Walked.{values_at}
use Rattle.semantics.specs.Values.{at, values_of}
use Rattle.simulation.proofs.Walked.{room_in, inputs_in, draws_in}
use Rattle.symbolic.specs.declared.gadget.Term.{Term}
use Rattle.symbolic.specs.Internal.Sums.{added, Before}
use Rattle.symbolic.specs.Internal.Terms.{Inside, product, sum_with, term_at, inner_term, output_term}
use Rattle.symbolic.specs.Internal.Expanding.{AndWrites, FrameAsks, FrameWrites, Words, Solves}
use Rattle.symbolic.proofs.Standing.{term_value, product_value, term-sum, inner-right, output-right}
use Rattle.symbolic.proofs.Bounded.{more, Below, below_more, inner_below, output-below}
use Rattle.symbolic.proofs.Linear.{gate-below, gate_kept, gate-sized, gate-right, ref_below, ref_right}
use Rattle.symbolic.proofs.Expanding.{Told, by_name, by_list, ExpandedTo, earlier, before_same, before-term, holds, Made}

-- what holds of earlier wires that are named holds of those that a gate names
names_are : (g : GateCode) (w : ℕ) (P Q : ℕ → Type 0) → ((x : ℕ) → x < w → P x → Q x) → GateEarly g w → GateNames g P → GateNames g Q
names_are (gate.In t) w P Q h e p = tt
names_are (gate.Con l b t) w P Q h e p = tt
names_are (gate.Xor x y) w P Q h e p = (h x e.0 p.0, h y e.1 p.1)
names_are (gate.Not x) w P Q h e p = h x e p
names_are (gate.Reg x) w P Q h e p = h x e p
names_are gate.Out w P Q h e p = tt

-- a gate takes no random bits
any_bits : (g : GateCode) (d from used shares tape : ℕ) → FrameSupplied (frame.Gate g) d from used shares tape → FrameSupplied (frame.Gate g) d from 0 shares 0
any_bits (gate.In t) d from used shares tape h = h
any_bits (gate.Con l b t) d from used shares tape h = tt
any_bits (gate.Xor x y) d from used shares tape h = tt
any_bits (gate.Not x) d from used shares tape h = tt
any_bits (gate.Reg x) d from used shares tape h = tt
any_bits gate.Out d from used shares tape h = tt

module _ {room : ℕ} {table shares tape read : List ℕ} {found : ℕ} {sums terms : List ℕ} {place w from used outputs : ℕ}
    (t : ExpandedTo room table shares tape read found sums terms place w from used outputs)
    (shares-below : (x : ℕ) → nth shares x < 2 ^ 18) (tape-below : (x : ℕ) → nth tape x < 2 ^ 18) (few : length tape ≤ 16) (found-few : found ≤ 8) where
  abbrev a : AcceptedTable table
  a = t.walked.evaluable.accepted

  abbrev k : Circuit
  k = whole a

  abbrev Named : ℕ → Type 0
  Named x = is_named (look_up k x) ≡ true

  -- a wire that is named before the frame
  known : (n : ℕ) (sharings tapes : ℕ → List Bool) (f : Values) → Words shares tape n sharings tapes f → Solves terms outputs read found w f
      → (x : ℕ) → x < w → Named x → values_at k.wires n sharings tapes x ≡ added (nth sums x) f
  known n sharings tapes f v s x l e = t.right x l (by_name e) n sharings tapes f v s

  two-shares : {d : ℕ} → d ≡ a.d → 2 ≤ d
  two-shares same = omega (arith, a.least)

  module _ {d : ℕ} {sh : ShapeCode} {wk : Walk} (same : d ≡ a.d) where
    -- frames that add no variable
    plain : {fr : FrameCode} (m : Met a t.walked.between d w from fr sh wk) {sums' : List ℕ} → ((x : ℕ) → x < w → nth sums' x ≡ nth sums x) → length sums' ≡ length sums
        → ((x : ℕ) → w ≤ x → x < w + sh.wires → nth sums' x < 2 ^ (18 + outputs))
        → ((n : ℕ) (sharings tapes : ℕ → List Bool) (f : Values) → Words shares tape n sharings tapes f → Solves terms outputs read found w f
        → (x : ℕ) → w ≤ x → x < w + sh.wires → values_at k.wires n sharings tapes x ≡ added (nth sums' x) f)
        → Made t same m sums' terms outputs
    plain m kept sized below right = record {
      more = omega arith;
      few = omega (arith, t.few);
      kept = kept;
      sized = sized;
      terms_sized = refl;
      outs_kept = λ n l. refl;
      reads_kept = λ i l u. refl;
      below = λ x l u e. below x l u;
      right = λ x l u o n sharings tapes f v s. right n sharings tapes f v (earlier t f (omega arith) (omega arith) (λ n l. refl) (λ i l u. refl) s) x l u;
      before = λ n l u. absurd (omega arith);
      reads_before = t.reads_before;
    }

    gate-made : (g : GateCode) (m : Met a t.walked.between d w from (frame.Gate g) sh wk) {sums' terms' : List ℕ} {r : ℕ}
        → FrameWrites (frame.Gate g) d w from used (operands_at table d place) shares tape read found outputs sums terms sums' terms' r → Made t same m sums' terms' r
    gate-made g m {sums'} h =
        let here = room_in t.walked same m in
        rw (h.1, h.2) (plain m (gate_kept g d w from shares sums sums' h.0) (gate-sized g d w from shares sums sums' h.0)
        (λ x l u. gate-below {m = 18 + outputs} (omega arith) g d w from shares sums sums' h.0 (omega (arith, here, t.sums_sized))
        (λ y. more {m = 18} (omega arith) (shares-below y)) (names_are g w Named _ (λ y z e. t.below y z e) m.early m.names) x l (omega (arith, m.as_many)))
        (λ n sharings tapes f v s x l u. gate-right (values_at k.wires n sharings tapes) f (packed n (λ e. true)) v.full g d w from shares sums sums' h.0
        (omega (arith, here, t.sums_sized)) (holds t same m n sharings tapes f v)
        (names_are g w Named _ (λ y z e. known n sharings tapes f v s y z e) m.early m.names) x l (omega (arith, m.as_many))))

    ref_made : (m : Met a t.walked.between d w from frame.Ref sh wk) {sums' terms' : List ℕ} {r : ℕ}
        → FrameWrites frame.Ref d w from used (operands_at table d place) shares tape read found outputs sums terms sums' terms' r → Made t same m sums' terms' r
    ref_made m h = rw (h.1, h.2) (plain m h.0.below h.0.sized
        (λ x l u. ref_below h.0 (18 + outputs) (λ y. more {m = 18} (omega arith) (tape-below y)) (λ i z. t.below _ (m.early.1 i z) (m.names i z)) x l (omega (arith, m.as_many)))
        (λ n sharings tapes f v s x l u. ref_right h.0 (values_at k.wires n sharings tapes) f (holds t same m n sharings tapes f v)
        (λ i z. known n sharings tapes f v s _ (m.early.1 i z) (m.names i z)) x l (omega (arith, m.as_many))))

    -- a gadget has at least half as many random bits as shares, so the outputs are few
    and-bits : Met a t.walked.between d w from frame.And sh wk → (d ≤ 2 * sh.randoms) × (outputs + d ≤ 32)
    and-bits m =
        let own : used + pairs d ≤ used + sh.randoms = m.supplied used (from + d * sh.inputs) (used + sh.randoms) (omega arith) (omega arith) in
        let all = draws_in t.walked same m in
        let half : 1 * d ≤ (d - 1) * d = mul-le-mul_right d (omega (arith, two-shares same)) in
        (omega (arith, pairs_twice d), omega (arith, pairs_twice d, t.few))

    -- what a frame asks for is there
    pub frame_asks : (fr : FrameCode) → Met a t.walked.between d w from fr sh wk → length sums ≤ wire_limit
        → FrameAsks fr d w from used (operands_at table d place) (length sums) (length shares) (length tape) outputs
    frame_asks (frame.Gate g) m wide = (
      m.early,
      omega (arith, room_in t.walked same m, t.sums_sized),
      wide,
      any_bits g d from used (length shares) (length tape) (m.supplied used (length shares) (length tape) (inputs_in t.walked same m) (draws_in t.walked same m)),
    )
    frame_asks frame.And m wide = (
      record {
        two = two-shares same;
        most = m.small.2;
        words = m.early.0;
        early_a = m.early.1;
        early_b = m.early.2;
        roomy = omega (arith, room_in t.walked same m, t.sums_sized);
        few = wide;
        bits = m.supplied used (length shares) (length tape) (inputs_in t.walked same m) (draws_in t.walked same m);
        near = omega (arith, draws_in t.walked same m);
      },
      (and-bits m).1,
    )
    frame_asks frame.Ref m wide = record {
      two = two-shares same;
      most = m.small.2;
      words = m.early.0;
      early = m.early.1;
      roomy = omega (arith, room_in t.walked same m, t.sums_sized);
      few = wide;
      bits = m.supplied used (length shares) (length tape) (inputs_in t.walked same m) (draws_in t.walked same m);
      near = omega (arith, draws_in t.walked same m);
    }

    -- AND
    module _ (m : Met a t.walked.between d w from frame.And sh wk) {sums' terms' : List ℕ} {r : ℕ}
        (h : FrameWrites frame.And d w from used (operands_at table d place) shares tape read found outputs sums terms sums' terms' r) where
      abbrev ops : List ℕ
      ops = operands_at table d place

      abbrev wr : AndWrites d w ops tape used read found outputs sums terms sums' terms'
      wr = h.0

      bits : (d ≤ 2 * sh.randoms) × (outputs + d ≤ 32)
      bits = and-bits m

      outside : (x : ℕ) → x < w → Inside d w x → ⊥
      outside x l i = omega arith

      early_a : (i : ℕ) → i < d → word_a ops i < w
      early_a = m.early.1

      early_b : (i : ℕ) → i < d → word_b d ops i < w
      early_b = m.early.2

      mid-same : (x : ℕ) → x < w → nth wr.mid_sums x ≡ nth sums x
      mid-same x l = wr.reads.sum_kept x (outside x l)

      kept : (x : ℕ) → x < w → nth sums' x ≡ nth sums x
      kept x l = wr.outs.sum_kept x (omega arith) ∙ mid-same x l

      outs_kept : (n : ℕ) → n < outputs → term_at terms' n ≡ term_at terms n
      outs_kept n l = wr.outs.term_kept n (λ p q. omega arith) ∙ wr.reads.term_kept n (λ i p e q. omega (arith, bits.1))

      read_mid : (i : ℕ) → term_at terms' (32 + i) ≡ term_at wr.mid_terms (32 + i)
      read_mid i = wr.outs.term_kept (32 + i) (λ p q. omega (arith, bits.1))

      reads-out : (i : ℕ) → (Inside d w (nth read i) → ⊥) → term_at terms' (32 + i) ≡ term_at terms (32 + i)
      reads-out i o = read_mid i ∙ wr.reads.term_kept (32 + i) (λ j p e q. let z : j ≡ i = omega arith in o (subst (λ (y : ℕ). Inside d w (nth read y)) z q))

      reads_kept : (i : ℕ) → i < found → nth read i < w → term_at terms' (32 + i) ≡ term_at terms (32 + i)
      reads_kept i l u = reads-out i (outside (nth read i) u)

      clash : {A : Type 0} (x : ℕ) → Inside d w x → Named x → A
      clash x i e = absurd (true≢false (sym e ∙ m.hides x i.0 i.1))

      -- a wire is inside, or an output
      which : {A : Type 0} (x : ℕ) → w ≤ x → x < w + sh.wires → (Inside d w x → A) → ((i : ℕ) → i < d → x ≡ out_at d w i → A) → A
      which x l u inside out = cases (ltb x (w + cross_start d d))
          (λ e. inside (l, ltb-true x (w + cross_start d d) e))
          (λ e. let z = ltb-false x (w + cross_start d d) e in out (x - (w + cross_start d d)) (omega (arith, m.as_many)) (omega arith))

      -- an output is of variables before it
      output-term : (i : ℕ) → i < d → Below (18 + outputs) (output_term d ops wr.mid_sums tape used i)
      output-term = output-below (18 + outputs) (omega arith) d ops wr.mid_sums tape used
          (λ j p. subst (λ (y : ℕ). y < 2 ^ (18 + outputs)) (sym (mid-same _ (early_a j p))) (t.below _ (early_a j p) (m.names.0 j p)))
          (λ j p. subst (λ (y : ℕ). y < 2 ^ (18 + outputs)) (sym (mid-same _ (early_b j p))) (t.below _ (early_b j p) (m.names.1 j p)))
          (λ y. more {m = 18} (omega arith) (tape-below y))

      below : (x : ℕ) → w ≤ x → x < w + sh.wires → Named x → nth sums' x < 2 ^ (18 + (outputs + d))
      below x l u e = which x l u (λ i. clash x i e)
          (λ i p z. rw (z, wr.outs.sum_is i p) (xor_lt (18 + (outputs + d)) _ _ (pow-lt {i = 18 + outputs + i} {j = 18 + (outputs + d)} (omega arith))
          (more {m = 18 + outputs} (omega arith) (output-term i p).third)))

      -- words of the variables
      module _ (n : ℕ) (sharings tapes : ℕ → List Bool) (f : Values) (v : Words shares tape n sharings tapes f) (s : Solves terms' (outputs + d) read found (w + sh.wires) f) where
        abbrev value : Values
        value = values_at k.wires n sharings tapes

        old : Solves terms outputs read found w f
        old = earlier t f (omega arith) (omega arith) outs_kept reads_kept s

        abbrev bit : ℕ → ℕ → Bool
        bit l x = at (values_of k.wires (sharings l) (tapes l)) x

        inner-is : (x : ℕ) → Inside d w x → value x ≡ term_value f (inner_term d ops sums tape used (x - w))
        inner-is x i =
            let z : x ≡ w + (x - w) = omega (arith, i.0) in
            ap value z ∙ inner-right n bit f v.full d w ops sums tape used (holds t same m n sharings tapes f v)
            (λ j l. known n sharings tapes f v old _ (early_a j l) (m.names.0 j l))
            (λ j l. known n sharings tapes f v old _ (early_b j l) (m.names.1 j l)) (x - w) (two-shares same) (omega (arith, i.0, i.1))

        output-is : (i : ℕ) → i < d → value (out_at d w i) ≡ term_value f (output_term d ops wr.mid_sums tape used i)
        output-is = output-right n bit f v.full d w ops wr.mid_sums tape used (holds t same m n sharings tapes f v)
            (λ j l. known n sharings tapes f v old _ (early_a j l) (m.names.0 j l) ∙ ap (λ y. added y f) (sym (mid-same _ (early_a j l))))
            (λ j l. known n sharings tapes f v old _ (early_b j l) (m.names.1 j l) ∙ ap (λ y. added y f) (sym (mid-same _ (early_b j l))))

        -- a wire inside that is read
        listed : (x i : ℕ) → i < found → nth read i ≡ x → Inside d w x → x < w + sh.wires → value x ≡ added (nth sums' x) f
        listed x i l e here u =
            let (j, p, q, sum) = wr.reads.sum_is i l (subst (Inside d w) (sym e) here) in
            let same-wire : nth read j ≡ x = q ∙ e in
            let inner : ℕ → Term = λ y. inner_term d ops sums tape used (y - w) in
            let term = read_mid j ∙ wr.reads.term_is j p (subst (Inside d w) (sym same-wire) here) ∙ ap (λ y. product (inner y)) same-wire in
            inner-is x here ∙ term-sum f (50 + j) (inner x) (omega (arith, found-few)) (s.reads j p (omega (arith, same-wire)) ∙ ap (product_value f) term)
            ∙ ap (λ y. added y f) (sym (wr.outs.sum_kept x (omega (arith, here.1)) ∙ ap (nth wr.mid_sums) (sym e) ∙ sum ∙ ap (λ y. sum_with (50 + j) (inner y)) e))

        out : (x i : ℕ) → i < d → x ≡ out_at d w i → value x ≡ added (nth sums' x) f
        out x i p z =
            let place : 18 + (outputs + i) ≡ 18 + outputs + i = omega arith in
            ap value z ∙ output-is i p
            ∙ term-sum f (18 + outputs + i) (output_term d ops wr.mid_sums tape used i) (omega (arith, bits.1)) (ap f (sym place)
            ∙ s.outs (outputs + i) (omega arith) ∙ ap (product_value f) (wr.outs.term_is i p))
            ∙ ap (λ y. added y f) (sym (ap (nth sums') z ∙ wr.outs.sum_is i p))

        right : (x : ℕ) → w ≤ x → x < w + sh.wires → Told k read found x → value x ≡ added (nth sums' x) f
        right x l u (by_name e) = which x l u (λ i. clash x i e) (out x)
        right x l u (by_list i p e) = which x l u (λ here. listed x i p e here u) (out x)

      before : (n : ℕ) → outputs ≤ n → n < outputs + d → Before terms' n
      before n l u =
          let i = n - outputs in
          let z : outputs + i ≡ n = omega arith in
          subst (Before terms') z (before-term t (output_term d ops wr.mid_sums tape used i) (wr.outs.term_is i (omega arith)) (below_more (omega arith) (output-term i (omega arith))))

      reads-inside : (i : ℕ) → i < found → Inside d w (nth read i) → Before terms' (32 + i)
      reads-inside i l here = before-term t (inner_term d ops sums tape used (nth read i - w)) (read_mid i ∙ wr.reads.term_is i l here) (below_more (omega (arith, bits.1))
          (inner_below (18 + outputs) (omega arith) d ops sums tape used (λ j p. t.below _ (early_a j p) (m.names.0 j p)) (λ j p. t.below _ (early_b j p) (m.names.1 j p))
          (λ y. more {m = 18} (omega arith) (tape-below y)) (nth read i - w) (two-shares same) (omega (arith, here.0, here.1))))

      reads_before : (i : ℕ) → i < found → Before terms' (32 + i)
      reads_before i l = cases (ltb (nth read i) w)
          (λ e. before_same t (reads-out i (outside (nth read i) (ltb-true (nth read i) w e))) (t.reads_before i l))
          (λ e. cases (ltb (nth read i) (w + cross_start d d))
          (λ e'. reads-inside i l (ltb-false (nth read i) w e, ltb-true (nth read i) (w + cross_start d d) e'))
          (λ e'. before_same t (reads-out i (λ here. omega (arith, here.1, ltb-false (nth read i) (w + cross_start d d) e'))) (t.reads_before i l)))

      and-made : Made t same m sums' terms' r
      and-made = rw h.1 (record {
        more = omega arith;
        few = omega (arith, t.few, bits.0);
        kept = kept;
        sized = wr.outs.sums_sized ∙ wr.reads.sums_sized;
        terms_sized = wr.outs.terms_sized ∙ wr.reads.terms_sized;
        outs_kept = outs_kept;
        reads_kept = reads_kept;
        below = below;
        right = λ x l u o n sharings tapes f v s. right n sharings tapes f v s x l u o;
        before = before;
        reads_before = reads_before;
      })

    pub frame_made : (fr : FrameCode) (m : Met a t.walked.between d w from fr sh wk) {sums' terms' : List ℕ} {r : ℕ}
        → FrameWrites fr d w from used (operands_at table d place) shares tape read found outputs sums terms sums' terms' r → Made t same m sums' terms' r
    frame_made (frame.Gate g) m h = gate-made g m h
    frame_made frame.And m h = and-made m h
    frame_made frame.Ref m h = ref_made m h
