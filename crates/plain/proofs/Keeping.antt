-- The frames of a run that fits leave sharings kept: each sharing a row of wires, each named wire in one of them.
use mathlib.Core.Path.{◌≡◌, refl, ap, ◌∙◌}
use mathlib.Core.Bool.{true, ◌&&◌, false≢true}
use mathlib.Core.List.{List, [], ◌∷◌, map, append-nil}
use Prim.Native.Nat.{ℕ, suc, ◌+◌, ◌*◌, ◌≤◌}
use native.Mathlib.Omega.{arith}
use lib.Dec.{eqb}
use lib.ListN.{length}
use Rattle.circuit.specs.Lists.{nth}
use Rattle.circuit.specs.Wires.{Gate, input, named, inner, ◌placed◌}
use Rattle.circuit.specs.Gadgets.{Part, labels, gate, delay, in_and, in_ref, index, gadget}
use Rattle.circuit.specs.Kinds.{Kind, HEAD, IN, CON, XOR, NOT, REG, AND, REF, OUT}
use Rattle.circuit.specs.Circuit.{Circuit, size, empty, look_up, stage_shown, new_stage, made}
use Rattle.circuit.specs.Composition.{Frame, frame, AllFit, build}
use Rattle.circuit.proofs.Base.{and_left, and_right}
use Rattle.circuit.proofs.Building.{named-made}
use Rattle.semantics.specs.Counts.{alike}
use Rattle.semantics.proofs.Solving.{nothing}
use Rattle.plain.specs.Sharings.{Plain, none, is_sharing, is_run, fits, joined, further}
use Rattle.plain.proofs.Kept.{InRow, Kept}
use Rattle.plain.proofs.Found.{one_number, every_at, every_found}
use Rattle.plain.proofs.Growing.{Grown, kept_more, kept_same, grown_by}
use Rattle.plain.proofs.Runs.{Single, one-CON, one-XOR, one-NOT, one-REG, run-shown, run_grown, column-stage}

pub kept_start : (d : ℕ) → Kept (empty d) none
kept_start d = record { rows = tt; firsts = λ x t h. absurd (omega (arith, named-made (empty d) x 0 t h)); each_once = refl }

-- a gadget adds its inner parts and its outputs
grown_gadget : (k : Circuit) (kind : Kind) (ops : List ℕ) (a b : ℕ → ℕ) (inside : List Part) (out : ℕ → Part) (start end : ℕ)
    → made k ops kind ≡ gadget k.d (size k) a b inside out start end → Grown k (frame kind ops ∷ [])
unfolding gadget
grown_gadget k kind ops a b inside out start end e =
    let g : Part → Gate = gate k.d a b (λ p. size k + index p inside) in
    grown_by k kind ops inside (λ p. g p placed inner (start + delay p)) (λ i. g (out i) placed named i end) end e (λ p. refl) (λ i. refl)

-- a frame that goes with no other
pub alone : (fs : List Frame) → length fs ≤ 0 → fs ≡ []
alone [] h = refl
alone (f ∷ fs) h = absurd (omega arith)

module _ (k : Circuit) (p : Plain) (ops : List ℕ) (rest : List Frame) (h : Kept k p) where
  abbrev run_of : Kind → List Frame
  run_of kind = frame kind ops ∷ rest

  lone : (kind : Kind) → length rest ≤ 0 → Grown k (frame kind ops ∷ []) → Grown k (run_of kind)
  lone kind l g = rw (alone rest l) g

  -- a run of a kind whose stage goes by that of its first wire, over a sharing
  grown_over : {kind : Kind} (s : Single kind) (up : ℕ → ℕ) → ((c : Circuit) (os : List ℕ) → new_stage c os kind ≡ up (stage_shown (look_up c (nth os 0))))
      → AllFit k (run_of kind) → (is_run k p (frame kind ops) rest && is_sharing (map (λ f. nth f.ops 0) (run_of kind)) p.sharings) ≡ true → Grown k (run_of kind)
  grown_over {kind} s up by fit e =
      let first = frame kind ops in
      let r = run-shown k p first rest (and_left _ _ e) in
      let row = every_found (InRow k) _ p.sharings (and_right (is_run k p first rest) _ e) h.rows in
      run_grown k first rest s r fit (up row.stage) (λ i l. by _ _ ∙ ap up (column-stage k first rest s r fit row i l))

  -- constants at one stage; and an IN
  grown_constants : AllFit k (run_of CON) → (is_run k p (frame CON ops) rest && alike eqb (map (λ f. nth f.ops 2) (run_of CON)) (map (λ i. nth ops 2) (labels k.d))) ≡ true
      → Grown k (run_of CON)
  unfolding new_stage
  grown_constants fit e =
      let first = frame CON ops in
      let r = run-shown k p first rest (and_left _ _ e) in
      let each = (one_number (λ f. nth f.ops 2) (nth ops 2) (run_of CON) (labels k.d) (and_right (is_run k p first rest) _ e)).0 in
      run_grown k first rest one-CON r fit (nth ops 2) (λ i l. every_at (λ f. nth f.ops 2 ≡ nth ops 2) (run_of CON) each i first (omega (arith, r.count)))

  grown_input : Grown k (frame IN ops ∷ [])
  unfolding made new_stage
  grown_input = grown_by {A = ℕ} k IN ops [] (λ a. nothing) (λ i. input (k.inputs * k.d + i) placed named i (nth ops 0)) (nth ops 0) refl (λ a. refl) (λ i. refl)

  kept_by : (kind : Kind) → AllFit k (run_of kind) → length rest ≤ further k.d kind → fits k p (frame kind ops) rest kind ≡ true
      → Kept (build k (run_of kind)) (joined k p (frame kind ops) rest kind)
  unfolding fits joined made new_stage
  kept_by HEAD fit l e = absurd (false≢true e)
  kept_by IN fit l e = kept_more k _ (lone IN l grown_input) p h _
  kept_by CON fit l e = kept_more k _ (grown_constants fit e) p h _
  kept_by XOR fit l e = kept_more k _ (grown_over one-XOR (λ t. t) (λ c os. refl) fit (and_left _ _ e)) p h _
  kept_by NOT fit l e = kept_more k _ (grown_over one-NOT (λ t. t) (λ c os. refl) fit e) p h _
  kept_by REG fit l e = kept_more k _ (grown_over one-REG suc (λ c os. refl) fit e) p h _
  kept_by AND fit l e = kept_more k _ (lone AND l (grown_gadget k AND ops _ _ (in_and k.d) Part.c _ _ refl)) p h _
  kept_by REF fit l e = kept_more k _ (lone REF l (grown_gadget k REF ops _ _ (in_ref k.d) Part.S _ _ refl)) p h _
  kept_by OUT fit l e = kept_same k (run_of OUT) p _ (rw (alone rest l) (append-nil k.wires)) h

-- the theorem
pub kept_next : (k : Circuit) (p : Plain) (first : Frame) (rest : List Frame) → AllFit k (first ∷ rest) → length rest ≤ further k.d first.kind
    → Kept k p → fits k p first rest first.kind ≡ true → Kept (build k (first ∷ rest)) (joined k p first rest first.kind)
kept_next k p first rest fit l h e = kept_by k p first.ops rest h first.kind fit l e
