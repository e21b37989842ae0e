-- In a circuit of frames that fit, every gate takes earlier wires only.
use mathlib.Core.Path.{refl, subst}
use mathlib.Core.List.{List, [], ◌∷◌, ◌++◌, map}
use mathlib.Core.Logic.{inl, inr}
use Prim.Native.Nat.{ℕ, ◌+◌, ◌≤◌, ◌<◌}
use native.Mathlib.Omega.{arith}
use lib.ListN.{length}
use Rattle.circuit.specs.Limits.{fewest_shares}
use Rattle.circuit.specs.Lists.{nth, concat_map}
use Rattle.circuit.specs.Wires.{Gate, Wire}
use Rattle.circuit.specs.Gadgets.{Part, r, R, B, m, u, v, V', w, c, s, S, labels, above, others, sorted, gate, in_and, in_ref, index, gadget}
use Rattle.circuit.specs.Kinds.{Kind}
use Rattle.circuit.specs.Circuit.{Circuit, size, empty, made, wire_at}
use Rattle.circuit.specs.Rules.{checked}
use Rattle.circuit.proofs.Base.{In, in_head, in_tail, Has, has_left, Every, every_map, AllFrom}
use Rattle.circuit.proofs.Numbered.{all_get, at_all}
use Rattle.circuit.proofs.Parts.{index_lt, Before, before-append, before-each, More, Ready, ordered, label_lt, others_pair, output_every, InAND, is_M, is_U, is_W, and_has, cell1, cell2, cell3, sec1, sec2, sec3, has1, added, fresh1, fresh_has, ref_has, sorted-at}
use Rattle.circuit.specs.Composition.{Frame, Fits, fit-IN, fit-CON, fit-XOR, fit-NOT, fit-REG, fit-AND, fit-REF, fit-OUT, AllFit, build}
use Rattle.circuit.proofs.Building.{named-made, gadget-all, Lawful, build-all}
use Rattle.circuit.proofs.Exact.{Accepted}
use Rattle.semantics.specs.Probes.{operands}

-- the gate of wire x takes wires before x
abbrev pub OperandsBefore : ℕ → Gate → Type 0
OperandsBefore x g = Every (λ y. y < x) (operands g)

-- a gadget from wires before it
module _ (d first : ℕ) (a b : ℕ → ℕ) (la : (i : ℕ) → i < d → a i < first) (lb : (i : ℕ) → i < d → b i < first) (start end : ℕ) where
  -- AND
  abbrev wire_a : Part → ℕ
  wire_a p = first + index p (in_and d)

  abbrev QA : List Part → Part → Type 0
  QA = Ready (λ x p. OperandsBefore x (gate d a b wire_a p)) first (in_and d)

  made1 : Before QA [] (sec1 d)
  made1 = before-each QA [] (labels d) (λ i. concat_map (above d i) (cell1 i)) (λ i h pre k. before-each QA pre (above d i) (cell1 i) (λ j h' more k'.
      ((λ x n g. tt), ((λ x n g. (g (r i j) (inl refl), tt)), tt))))

  made2 : (pre : List Part) → Before QA pre (sec2 d)
  made2 pre = before-each QA pre (labels d) cell2 (λ i h more k.
      let l = label_lt d i h in (
        (λ x n g. (omega (arith, lb i l), tt)),
        ((λ x n g. (omega (arith, la i l), (g (B i) (inl refl), tt))), ((λ x n g. (g (m i) (inl refl), tt)), tt)),
      ))

  made3 : (pre : List Part) → More QA (sec1 d) pre → Before QA pre (sec3 d)
  made3 pre up = before-each QA pre (labels d) (λ i. concat_map (others d i) (cell3 i)) (λ i h more k. before-each QA more (others d i) (cell3 i) (λ j h' most k'.
      let o = others_pair d i j (label_lt d i h) h' in
      let hr : Has (sorted r i j) most = k' (sorted r i j) (k (sorted r i j) (up (sorted r i j) (sorted-at (λ i j p. Has p (sec1 d)) r d i j o (λ i j o l. has1 d (r i j) i j o l (inl refl)) (λ x z. z)))) in
      let h_r : Has (sorted R i j) most = k' (sorted R i j) (k (sorted R i j) (up (sorted R i j) (sorted-at (λ i j p. Has p (sec1 d)) R d i j o (λ i j o l. has1 d (R i j) i j o l (inr (inl refl))) (λ x z. z)))) in (
        (λ x n g. (omega (arith, la i o.fst), (g (sorted R i j) h_r, tt))),
        (
          (λ x n g. (g (u i j) (inl refl), tt)),
          (
            (λ x n g. (omega (arith, lb j o.snd), (g (sorted r i j) (inr (inr hr)), tt))),
            (
              (λ x n g. (g (v i j) (inl refl), tt)),
              ((λ x n g. (omega (arith, la i o.fst), (g (V' i j) (inl refl), tt))), ((λ x n g. (g (w i j) (inl refl), tt)), tt)),
            ),
          ),
        ),
      )))

  and-inner : Before QA [] (in_and d)
  unfolding in_and
  and-inner = before-append QA [] (sec1 d ++ sec2 d) (sec3 d)
      (before-append QA [] (sec1 d) (sec2 d) made1 (λ more f g. made2 more))
      (λ more f g. made3 more (λ q z. g q (has_left q (sec1 d) (sec2 d) z)))

  low : {p : Part} (x : ℕ) → first + length (in_and d) ≤ x → InAND d p → wire_a p < x
  low {p} x n o = omega (arith, index_lt (in_and d) p (and_has d o))

  and-output : (x i : ℕ) → first + length (in_and d) ≤ x → i < d → OperandsBefore x (gate d a b wire_a (c i))
  and-output x i n l = output_every (λ y. y < x) wire_a l (low x n (is_M i l)) (λ j o. low x n (is_U i j o)) (λ j o. low x n (is_W i j o))

  pub and-early : AllFrom (λ x wire. OperandsBefore x wire.gate) first (gadget d first a b (in_and d) c start end)
  and-early = gadget-all d first a b (in_and d) c start end (λ x wire. OperandsBefore x wire.gate)
      (ordered (λ x p. OperandsBefore x (gate d a b wire_a p)) first (in_and d) and-inner) and-output

  -- REF
  abbrev wire_r : Part → ℕ
  wire_r p = first + index p (in_ref d)

  abbrev QR : List Part → Part → Type 0
  QR = Ready (λ x p. OperandsBefore x (gate d a b wire_r p)) first (in_ref d)

  drawn : Before QR [] (fresh1 d)
  drawn = before-each QR [] (labels d) (λ i. concat_map (above d i) (λ j. r i j ∷ [])) (λ i h pre k. before-each QR pre (above d i) (λ j. r i j ∷ []) (λ j h' more k'.
      ((λ x n g. tt), tt)))

  sums : (is : List ℕ) (pre : List Part) → ((i : ℕ) → In i is → i < d) → More QR (fresh1 d) pre → Before QR pre (map s is)
  sums [] pre k up = tt
  sums (i ∷ is) pre k up =
      let l = k i (in_head i is) in (
        (λ x n g. (
          omega (arith, la i l),
          every_map (λ y. y < x) (λ j. wire_r (sorted r i j)) (others d i)
              (λ j z. g (sorted r i j) (up (sorted r i j) (sorted-at (λ i j p. Has p (fresh1 d)) r d i j (others_pair d i j l z) (λ i j o l. fresh_has d i j o l) (λ x h. h)))),
        )),
        sums is (s i ∷ pre) (λ j z. k j (in_tail j i is z)) (λ q z. inr (up q z)),
      )

  ref_inner : Before QR [] (in_ref d)
  unfolding in_ref
  ref_inner = before-append QR [] (fresh1 d) (map s (labels d)) drawn (λ more f g. sums (labels d) more (label_lt d) g)

  pub ref_early : AllFrom (λ x wire. OperandsBefore x wire.gate) first (gadget d first a b (in_ref d) S start end)
  ref_early = gadget-all d first a b (in_ref d) S start end (λ x wire. OperandsBefore x wire.gate)
      (ordered (λ x p. OperandsBefore x (gate d a b wire_r p)) first (in_ref d) ref_inner)
      (λ x i n l. (omega (arith, index_lt (in_ref d) (s i) (ref_has d (added i l))), tt))

-- every frame that fits
abbrev pub EarlyIn : Circuit → ℕ → Wire → Type 0
EarlyIn k x wire = OperandsBefore x wire.gate

pub early_new : (k : Circuit) (ops : List ℕ) (kind : Kind) → Fits k kind ops → AllFrom (λ x wire. OperandsBefore x wire.gate) (size k) (made k ops kind)
unfolding made
early_new k _ _ (fit-IN t o) = at_all (EarlyIn k) _ (size k) 0 k.d (λ i l. tt)
early_new k _ _ (fit-CON l b t o p q) = (tt, tt)
early_new k _ _ (fit-XOR x y l t p q) = ((named-made k x l t p, (named-made k y l t q, tt)), tt)
early_new k _ _ (fit-NOT x l t p) = ((named-made k x l t p, tt), tt)
early_new k _ _ (fit-REG x l t p o) = ((named-made k x l t p, tt), tt)
early_new k _ _ (fit-AND ops t len first p q o) = and-early k.d (size k) (λ i. nth ops (1 + i)) (λ i. nth ops (1 + k.d + i))
    (λ i l. named-made k (nth ops (1 + i)) i _ (p i l)) (λ i l. named-made k (nth ops (1 + k.d + i)) i _ (q i l)) _ _
early_new k _ _ (fit-REF ops t len first p o) = ref_early k.d (size k) (λ i. nth ops (1 + i)) (λ i. nth ops (1 + i))
    (λ i l. named-made k (nth ops (1 + i)) i _ (p i l)) (λ i l. named-made k (nth ops (1 + i)) i _ (p i l)) _ _
early_new k _ _ (fit-OUT ops t len p q) = tt

pub build-early : (d : ℕ) (fs : List Frame) → fewest_shares ≤ d → AllFit (empty d) fs → Lawful EarlyIn (build (empty d) fs)
build-early d fs ge fit = build-all EarlyIn (λ k ops kind x wire l h. h) (λ k ops kind g h. early_new k ops kind) fs ge fit tt

-- the law: every operand of the gate of wire n is before n
pub earlier : (d : ℕ) (fs : List Frame) → fewest_shares ≤ d → AllFit (empty d) fs
    → (n : ℕ) → n < size (build (empty d) fs) → OperandsBefore n (wire_at (build (empty d) fs) n).gate
earlier d fs ge fit n l =
    let k = build (empty d) fs in
    subst (λ (m : ℕ). OperandsBefore m (wire_at k n).gate) (omega arith) (all_get (EarlyIn k) 0 k.wires _ (build-early d fs ge fit) n l)

pub accepted-early : {table : List ℕ} {room : ℕ} → Accepted table room → Lawful EarlyIn (checked table room).circuit
accepted-early a = rw a.circuit_is (build-early a.d a.fs a.least a.fit)

pub accepted_earlier : {table : List ℕ} {room : ℕ} → Accepted table room
    → (n : ℕ) → n < size (checked table room).circuit → OperandsBefore n (wire_at (checked table room).circuit n).gate
accepted_earlier a = rw a.circuit_is (earlier a.d a.fs a.least a.fit)
