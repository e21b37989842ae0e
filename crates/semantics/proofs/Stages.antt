-- In a circuit of frames that fit, a register stands one stage after its operand, and every other gate at each of its operands' stage.
use mathlib.Core.Path.{◌≡◌, refl, sym, ap, ◌∙◌}
use mathlib.Core.Bool.{false}
use mathlib.Core.List.{List, [], ◌∷◌}
use Prim.Native.Nat.{ℕ, suc, ◌+◌, ◌≤◌, ◌<◌}
use native.Mathlib.Omega.{arith}
use Rattle.circuit.specs.Limits.{fewest_shares}
use Rattle.circuit.specs.Lists.{nth}
use Rattle.circuit.specs.Wires.{Gate, input, constant, random, reg, inverse, sum, product, and_not, named, inner, Wire, ◌placed◌}
use Rattle.circuit.specs.Gadgets.{Part, r, R, c, S, others, sorted, gate, delay, in_and, in_ref, index}
use Rattle.circuit.specs.Kinds.{Kind, AND, REF}
use Rattle.circuit.specs.Circuit.{Circuit, size, empty, place, stage_shown, stage_of, new_stage, made, extend, wire_at, look_up}
use Rattle.circuit.specs.Rules.{checked}
use Rattle.circuit.proofs.Base.{Every, every_map, every_imp, AllFrom, all_of, all_imp, all_zip}
use Rattle.circuit.proofs.Numbered.{all_get, at_all}
use Rattle.circuit.proofs.Parts.{others_pair, output_every, InAND, is_r, is_R, is_B, is_m, is_M, is_u, is_U, is_v, is_V, is_w, is_W, and_parts, and_has, InREF, fresh, added, ref_parts, ref_has, sorted-at}
use Rattle.circuit.specs.Composition.{Frame, Fits, fit-IN, fit-CON, fit-XOR, fit-NOT, fit-REG, fit-AND, fit-REF, fit-OUT, AllFit, build}
use Rattle.circuit.proofs.Building.{named-made, stage-told, gadget-all, part_at, place_old, row_first, Lawful, build-all}
use Rattle.circuit.proofs.Exact.{Accepted}
use Rattle.semantics.specs.Probes.{operands}
use Rattle.semantics.proofs.Earlier.{OperandsBefore, early_new}

-- how many clocks a gate stands after its operands
abbrev pub clocks : Gate → ℕ
clocks (input n) = 0
clocks (constant b) = 0
clocks random = 0
clocks (reg x) = 1
clocks (inverse x) = 0
clocks (sum xs) = 0
clocks (product x y) = 0
clocks (and_not x y) = 0

-- a gate at the stage t follows its operands, which stand at the stages given
abbrev pub Follows : (stage : ℕ → ℕ) (t : ℕ) → Gate → Type 0
Follows stage t g = Every (λ y. t ≡ clocks g + stage y) (operands g)

-- so a register stands one stage after its operand, and every other gate at the stage of its operands
pub reg_follows : (stage : ℕ → ℕ) (t x : ℕ) → Follows stage t (reg x) → t ≡ suc (stage x)
reg_follows stage t x h = omega (arith, h.0)

pub others_follow : (stage : ℕ → ℕ) (t : ℕ) (g : Gate) → clocks g ≡ 0 → Follows stage t g → Every (λ y. t ≡ stage y) (operands g)
others_follow stage t g e = every_imp _ _ (operands g) (λ y h. omega arith)

-- AND: its wires a stand one stage after `start`, its wires b at `start`, its parts where their delay says
module _ (d : ℕ) (a b : ℕ → ℕ) (wire : Part → ℕ) (stage : ℕ → ℕ) (start : ℕ) where
  module _ (sa : (i : ℕ) → i < d → stage (a i) ≡ suc start) (sb : (i : ℕ) → i < d → stage (b i) ≡ start)
      (known : (p : Part) → InAND d p → stage (wire p) ≡ start + delay p) where
    and-inner : {p : Part} → InAND d p → Follows stage (start + delay p) (gate d a b wire p)
    and-inner (is_r i j o l) = tt
    and-inner (is_R i j o l) = (omega (arith, known _ (is_r i j o l)), tt)
    and-inner (is_B i l) = (omega (arith, sb i l), tt)
    and-inner (is_m i l) = (omega (arith, sa i l), (omega (arith, known _ (is_B i l)), tt))
    and-inner (is_M i l) = (omega (arith, known _ (is_m i l)), tt)
    and-inner (is_u i j o) = (omega (arith, sa i o.fst), (omega (arith, sorted-at (λ i j p. stage (wire p) ≡ start + 1) R d i j o (λ i j o l. known _ (is_R i j o l)) (λ x h. h)), tt))
    and-inner (is_U i j o) = (omega (arith, known _ (is_u i j o)), tt)
    and-inner (is_v i j o) = (omega (arith, sb j o.snd), (omega (arith, sorted-at (λ i j p. stage (wire p) ≡ start + 0) r d i j o (λ i j o l. known _ (is_r i j o l)) (λ x h. h)), tt))
    and-inner (is_V i j o) = (omega (arith, known _ (is_v i j o)), tt)
    and-inner (is_w i j o) = (omega (arith, sa i o.fst), (omega (arith, known _ (is_V i j o)), tt))
    and-inner (is_W i j o) = (omega (arith, known _ (is_w i j o)), tt)

    and-output : (end i : ℕ) → end ≡ start + 2 → i < d → Follows stage end (gate d a b wire (c i))
    and-output end i e l = output_every (λ y. end ≡ 0 + stage y) wire l (omega (arith, known _ (is_M i l)))
        (λ j o. omega (arith, known _ (is_U i j o))) (λ j o. omega (arith, known _ (is_W i j o)))

  -- REF: its wires stand at `start`
  module _ (sa : (i : ℕ) → i < d → stage (a i) ≡ start) (known : (p : Part) → InREF d p → stage (wire p) ≡ start + delay p) where
    ref_inner : {p : Part} → InREF d p → Follows stage (start + delay p) (gate d a b wire p)
    ref_inner (fresh i j o l) = tt
    ref_inner (added i l) = (
      omega (arith, sa i l),
      every_map (λ y. start + 0 ≡ 0 + stage y) (λ j. wire (sorted r i j)) (others d i)
          (λ j z. omega (arith, sorted-at (λ i j p. stage (wire p) ≡ start + 0) r d i j (others_pair d i j l z) (λ i j o l. known _ (fresh i j o l)) (λ x h. h))),
    )

    ref_output : (end i : ℕ) → end ≡ suc start → i < d → Follows stage end (gate d a b wire (S i))
    ref_output end i e l = (omega (arith, known _ (added i l)), tt)

-- the wires of a circuit: each follows its operands
abbrev pub stage_in : Circuit → ℕ → ℕ
stage_in k x = stage_of (place k x)

abbrev pub FollowsIn : Circuit → ℕ → Wire → Type 0
FollowsIn k x wire = Follows (stage_in k) (stage_of wire.place) wire.gate

-- a wire named by a frame, seen behind the frame
old_stage : (k : Circuit) (ops : List ℕ) (kind : Kind) (x l t : ℕ) → place k x ≡ named l t → stage_in (extend k ops kind) x ≡ t
old_stage k ops kind x l t h = ap stage_of (place_old k ops kind x (named-made k x l t h) ∙ h)

follows_new : (k : Circuit) (ops : List ℕ) (kind : Kind) → fewest_shares ≤ k.d → Fits k kind ops → AllFrom (FollowsIn (extend k ops kind)) (size k) (made k ops kind)
unfolding made new_stage
follows_new k ops kind ge (fit-IN t o) = at_all (FollowsIn (extend k ops kind)) _ (size k) 0 k.d (λ i l. tt)
follows_new k ops kind ge (fit-CON l b t o p q) = (tt, tt)
follows_new k ops kind ge (fit-XOR x y l t p q) =
    let s = stage-told k x p in ((omega (arith, old_stage k ops kind x l t p), (omega (arith, old_stage k ops kind y l t q), tt)), tt)
follows_new k ops kind ge (fit-NOT x l t p) = let s = stage-told k x p in ((omega (arith, old_stage k ops kind x l t p), tt), tt)
follows_new k ops kind ge (fit-REG x l t p o) = let s = stage-told k x p in ((omega (arith, old_stage k ops kind x l t p), tt), tt)
follows_new k _ _ ge (fit-AND ops t len first p q o) =
    let a : ℕ → ℕ = λ i. nth ops (1 + i) in
    let b : ℕ → ℕ = λ i. nth ops (1 + k.d + i) in
    let start = stage_shown (look_up k (nth ops (1 + k.d))) in
    let end = suc (stage_shown (look_up k (nth ops 1))) in
    let wire : Part → ℕ = λ z. size k + index z (in_and k.d) in
    let at = row_first k ops (1 + k.d) t ge q in
    let stage = stage_in (extend k ops AND) in
    let sa : (i : ℕ) → i < k.d → stage (a i) ≡ suc start = λ i l. omega (arith, old_stage k ops AND (a i) i (suc t) (p i l)) in
    let sb : (i : ℕ) → i < k.d → stage (b i) ≡ start = λ i l. omega (arith, old_stage k ops AND (b i) i t (q i l)) in
    let known : (z : Part) → InAND k.d z → stage (wire z) ≡ start + delay z = λ z i.
    ap (λ x. stage_of x.place) (part_at k.wires k.d a b (in_and k.d) c start end (constant false placed inner 0) z (and_has k.d i)) in
    gadget-all k.d (size k) a b (in_and k.d) c start end (FollowsIn (extend k ops AND))
    (all_of _ (InAND k.d) (size k) (in_and k.d) (λ x z l i. and-inner k.d a b wire stage start sa sb known i) (and_parts k.d))
    (λ x i n l. and-output k.d a b wire stage start sa sb known end i (omega (arith, row_first k ops 1 (suc t) ge p)) l)
follows_new k _ _ ge (fit-REF ops t len first p o) =
    let a : ℕ → ℕ = λ i. nth ops (1 + i) in
    let start = stage_shown (look_up k (nth ops 1)) in
    let wire : Part → ℕ = λ z. size k + index z (in_ref k.d) in
    let at = row_first k ops 1 t ge p in
    let stage = stage_in (extend k ops REF) in
    let sa : (i : ℕ) → i < k.d → stage (a i) ≡ start = λ i l. omega (arith, old_stage k ops REF (a i) i t (p i l)) in
    let known : (z : Part) → InREF k.d z → stage (wire z) ≡ start + delay z = λ z i.
    ap (λ x. stage_of x.place) (part_at k.wires k.d a a (in_ref k.d) S start (suc start) (constant false placed inner 0) z (ref_has k.d i)) in
    gadget-all k.d (size k) a a (in_ref k.d) S start (suc start) (FollowsIn (extend k ops REF))
    (all_of _ (InREF k.d) (size k) (in_ref k.d) (λ x z l i. ref_inner k.d a a wire stage start sa known i) (ref_parts k.d))
    (λ x i n l. ref_output k.d a a wire stage start sa known (suc start) i refl l)
follows_new k _ _ ge (fit-OUT ops t len p q) = tt

-- with its operands earlier, a wire keeps following them when frames are added
abbrev Settled : Circuit → ℕ → Wire → Type 0
Settled k x wire = Every (λ y. (y < x) × (stage_of wire.place ≡ clocks wire.gate + stage_in k y)) (operands wire.gate)

every_both : {A : Type 0} (P Q : A → Type 0) (xs : List A) → Every P xs → Every Q xs → Every (λ x. P x × Q x) xs
every_both P Q [] p q = tt
every_both P Q (x ∷ xs) p q = ((p.0, q.0), every_both P Q xs p.1 q.1)

pub build_follows : (d : ℕ) (fs : List Frame) → fewest_shares ≤ d → AllFit (empty d) fs → Lawful FollowsIn (build (empty d) fs)
build_follows d fs ge fit = all_imp (Settled k) (FollowsIn k) (λ x wire. every_imp _ _ (operands wire.gate) (λ y h. h.1)) 0 k.wires
    (build-all Settled old new fs ge fit tt)
  where
    k : Circuit
    k = build (empty d) fs

    old : (k : Circuit) (ops : List ℕ) (kind : Kind) (x : ℕ) (wire : Wire) → x < size k → Settled k x wire → Settled (extend k ops kind) x wire
    old k ops kind x wire l = every_imp _ _ (operands wire.gate) (λ y h. (h.0, h.1 ∙ ap (λ z. clocks wire.gate + stage_of z) (sym (place_old k ops kind y (omega (arith, h.0))))))

    new : (k : Circuit) (ops : List ℕ) (kind : Kind) → fewest_shares ≤ k.d → Lawful Settled k → Fits k kind ops → AllFrom (Settled (extend k ops kind)) (size k) (made k ops kind)
    new k ops kind ge h fits = all_zip (λ x wire. OperandsBefore x wire.gate) (FollowsIn (extend k ops kind)) (Settled (extend k ops kind))
        (λ x wire p q. every_both _ _ (operands wire.gate) p q) (size k) (made k ops kind) (early_new k ops kind fits) (follows_new k ops kind ge fits)

-- the law, for the wire of every number
pub follows : (d : ℕ) (fs : List Frame) → fewest_shares ≤ d → AllFit (empty d) fs → (n : ℕ) → n < size (build (empty d) fs)
    → Follows (stage_in (build (empty d) fs)) (stage_in (build (empty d) fs) n) (wire_at (build (empty d) fs) n).gate
follows d fs ge fit n l = let k = build (empty d) fs in all_get (FollowsIn k) 0 k.wires _ (build_follows d fs ge fit) n l

pub accepted_follows : {table : List ℕ} {room : ℕ} → Accepted table room → (n : ℕ) → n < size (checked table room).circuit
    → Follows (stage_in (checked table room).circuit) (stage_in (checked table room).circuit n) (wire_at (checked table room).circuit n).gate
accepted_follows a = rw a.circuit_is (follows a.d a.fs a.least a.fit)
