-- Frames whose wires are sums: gates and REF.
use mathlib.Core.Path.{◌≡◌, sym, ap, ap₂, subst, ◌∙◌}
use mathlib.Core.Bool.{Bool, true, false, cond}
use mathlib.Core.List.{List, map}
use Prim.Native.Nat.{ℕ, ◌+◌, ◌*◌, ◌-◌, ◌^◌, ◌≤◌, ◌<◌}
use native.Mathlib.Omega.{arith}
use lib.Bits.{bit_xor, xor_lt}
use lib.Dec.{ltb}
use lib.ListN.{length, set, length-set}
use lib.Seq.{get_or-set_same, get_or-set_other}
use borrow.Author.Tests.{ltb-true, ltb-false}
use Rattle.circuit.specs.Lists.{nth}
use Rattle.circuit.specs.Circuit.{is_set}
use Rattle.circuit.specs.Gadgets.{others}
use Rattle.circuit.specs.Kinds.{pairs}
use Rattle.circuit.proofs.Base.{cases}
use Rattle.frames.specs.declared.walk.Gate.{Gate as GateCode}
use Rattle.frames.specs.declared.walk.Gate.TheVariants as gate
use Rattle.gadgets.specs.Internal.Places.{word_a, pair_site, mask_at, sum_at, held_at}
use Rattle.gadgets.specs.Internal.Frames.{gate_wires, GateNames}
use Rattle.gadgets.proofs.Sites.{pair_lt}
use Rattle.simulation.specs.Internal.Filling.{Values, word_sum, GateValues, RefValues}
use Rattle.simulation.proofs.Adding.{word_sum_ext}
use Rattle.simulation.proofs.Equations.{apart}
use Rattle.symbolic.specs.Internal.Sums.{added}
use Rattle.symbolic.specs.Internal.Terms.{one, Refreshes}
use Rattle.symbolic.specs.Internal.Expanding.{GateWrites}
use Rattle.symbolic.proofs.Masks.{added_none, added-xor, added-sum}
use Rattle.symbolic.proofs.Standing.{words-at, one-is}
use Rattle.symbolic.proofs.Bounded.{some, more, sum_below}

-- one sum written
set-right : (P : ℕ → Type 0) (sums : List ℕ) (w s x : ℕ) → w < length sums → w ≤ x → x < w + 1 → P s → P (nth (set sums w s) x)
set-right P sums w s x room l u p = let e : x ≡ w = omega arith in subst P (sym (ap (nth (set sums w s)) e ∙ get_or-set_same sums w s 0 room)) p

-- a gate's sums are of variables before a place, where those of the wires that it names are
module _ {m : ℕ} (least : 18 ≤ m) where
  one_below : one < 2 ^ m
  one_below = more {x = one} {m = 18} {k = m} least (omega arith)

  constant-below : (b : Bool) → cond b one 0 < 2 ^ m
  constant-below true = one_below
  constant-below false = some m

  pub gate-below : (g : GateCode) (d w from : ℕ) (shares old new : List ℕ) → GateWrites g d w from shares old new → w + gate_wires g d ≤ length old
      → ((x : ℕ) → nth shares x < 2 ^ m) → GateNames g (λ x. nth old x < 2 ^ m)
      → (x : ℕ) → w ≤ x → x < w + gate_wires g d → nth new x < 2 ^ m
  gate-below (gate.In t) d w from shares old new h room s p x l u =
      let e : x ≡ w + (x - w) = omega arith in
      subst (λ (y : ℕ). nth new y < 2 ^ m) (sym e) (subst (λ (y : ℕ). y < 2 ^ m) (sym (h.are (x - w) (omega arith))) (s (from + (x - w))))
  gate-below (gate.Con k b t) d w from shares old new h room s p x l u = rw h (set-right (λ y. y < 2 ^ m) old w _ x (omega arith) l u (constant-below (is_set b)))
  gate-below (gate.Xor y z) d w from shares old new h room s p x l u = rw h (set-right (λ y. y < 2 ^ m) old w _ x (omega arith) l u (xor_lt m _ _ p.0 p.1))
  gate-below (gate.Not y) d w from shares old new h room s p x l u = rw h (set-right (λ y. y < 2 ^ m) old w _ x (omega arith) l u (xor_lt m one _ one_below p))
  gate-below (gate.Reg y) d w from shares old new h room s p x l u = rw h (set-right (λ y. y < 2 ^ m) old w _ x (omega arith) l u p)
  gate-below gate.Out d w from shares old new h room s p x l u = absurd (omega arith)

-- the wires before a gate's keep their sums
pub gate_kept : (g : GateCode) (d w from : ℕ) (shares old new : List ℕ) → GateWrites g d w from shares old new → (x : ℕ) → x < w → nth new x ≡ nth old x
gate_kept (gate.In t) d w from shares old new h x l = h.below x l
gate_kept (gate.Con k b t) d w from shares old new h x l = rw h (get_or-set_other old w x _ 0 (λ e. omega arith))
gate_kept (gate.Xor y z) d w from shares old new h x l = rw h (get_or-set_other old w x _ 0 (λ e. omega arith))
gate_kept (gate.Not y) d w from shares old new h x l = rw h (get_or-set_other old w x _ 0 (λ e. omega arith))
gate_kept (gate.Reg y) d w from shares old new h x l = rw h (get_or-set_other old w x _ 0 (λ e. omega arith))
gate_kept gate.Out d w from shares old new h x l = ap (λ s. nth s x) h

pub gate-sized : (g : GateCode) (d w from : ℕ) (shares old new : List ℕ) → GateWrites g d w from shares old new → length new ≡ length old
gate-sized (gate.In t) d w from shares old new h = h.sized
gate-sized (gate.Con k b t) d w from shares old new h = rw h (length-set old w _)
gate-sized (gate.Xor y z) d w from shares old new h = rw h (length-set old w _)
gate-sized (gate.Not y) d w from shares old new h = rw h (length-set old w _)
gate-sized (gate.Reg y) d w from shares old new h = rw h (length-set old w _)
gate-sized gate.Out d w from shares old new h = ap length h

-- words v of wires, and f of variables
module _ (v f : Values) (ones : ℕ) (full : f 17 ≡ ones) where
  abbrev Is : (x s : ℕ) → Type 0
  Is x s = v x ≡ added s f

  constant-is : (b : Bool) → cond b ones 0 ≡ added (cond b one 0) f
  constant-is true = sym full ∙ sym (one-is f)
  constant-is false = sym (added_none 64 f)

  at_one : (sums : List ℕ) (w s x : ℕ) → w < length sums → w ≤ x → x < w + 1 → Is w s → Is x (nth (set sums w s) x)
  at_one sums w s x room l u h = let e : x ≡ w = omega arith in set-right (λ y. Is x y) sums w s x room l u (ap v e ∙ h)

  pub gate-right : (g : GateCode) (d w from : ℕ) (shares old new : List ℕ) → GateWrites g d w from shares old new → w + gate_wires g d ≤ length old
      → GateValues g ones d w from (map (λ m. added m f) shares) v
      → GateNames g (λ x. Is x (nth old x)) → (x : ℕ) → w ≤ x → x < w + gate_wires g d → Is x (nth new x)
  gate-right (gate.In t) d w from shares old new h room vs p x l u =
      let e : x ≡ w + (x - w) = omega arith in
      ap v e ∙ vs (x - w) (omega arith) ∙ words-at f shares (from + (x - w)) ∙ ap (λ s. added s f) (sym (ap (nth new) e ∙ h.are (x - w) (omega arith)))
  gate-right (gate.Con k b t) d w from shares old new h room vs p x l u = rw h (at_one old w _ x (omega arith) l u (vs ∙ constant-is (is_set b)))
  gate-right (gate.Xor y z) d w from shares old new h room vs p x l u = rw h (at_one old w _ x (omega arith) l u (vs ∙ ap₂ bit_xor p.0 p.1 ∙ sym (added-xor 64 _ _ f)))
  gate-right (gate.Not y) d w from shares old new h room vs p x l u = rw h (at_one old w _ x (omega arith) l u (vs ∙ ap₂ bit_xor (sym full ∙ sym (one-is f)) p ∙ sym (added-xor 64 one _ f)))
  gate-right (gate.Reg y) d w from shares old new h room vs p x l u = rw h (at_one old w _ x (omega arith) l u (vs ∙ p))
  gate-right gate.Out d w from shares old new h room vs p x l u = absurd (omega arith)

-- a wire of REF is a random bit, a sum or a register
ref_wire_lem : (P : ℕ → Type 0) (d w : ℕ) → ((q : ℕ) → q < pairs d → P (w + q)) → ((i : ℕ) → i < d → P (sum_at d w i)) → ((i : ℕ) → i < d → P (held_at d w i))
    → (x : ℕ) → w ≤ x → x < w + (pairs d + 2 * d) → P x
ref_wire_lem P d w draws sums holds x l u = cases (ltb x (w + pairs d))
    (λ e. let h = ltb-true x (w + pairs d) e in let z : w + (x - w) ≡ x = omega arith in subst P z (draws (x - w) (omega arith)))
    (λ e. let h = ltb-false x (w + pairs d) e in cases (ltb x (w + pairs d + d))
    (λ e'. let k = ltb-true x (w + pairs d + d) e' in let z : sum_at d w (x - (w + pairs d)) ≡ x = omega arith in subst P z (sums (x - (w + pairs d)) (omega arith)))
    (λ e'. let k = ltb-false x (w + pairs d + d) e' in let z : held_at d w (x - (w + pairs d + d)) ≡ x = omega arith in subst P z (holds (x - (w + pairs d + d)) (omega arith))))

module _ {d w : ℕ} {ops tape : List ℕ} {used : ℕ} {old new : List ℕ} (h : Refreshes d w ops tape used old new) where
  pub ref_below : (m : ℕ) → ((x : ℕ) → nth tape x < 2 ^ m) → ((i : ℕ) → i < d → nth old (word_a ops i) < 2 ^ m) → (x : ℕ) → w ≤ x → x < w + (pairs d + 2 * d) → nth new x < 2 ^ m
  ref_below m r a = ref_wire_lem (λ x. nth new x < 2 ^ m) d w
      (λ q l. subst (λ (y : ℕ). y < 2 ^ m) (sym (h.drawn q l)) (r _))
      (λ i l. subst (λ (y : ℕ). y < 2 ^ m) (sym (h.summed i l)) (masked i l))
      (λ i l. subst (λ (y : ℕ). y < 2 ^ m) (sym (h.held i l)) (masked i l))
    where
      masked : (i : ℕ) → i < d → bit_xor (nth old (word_a ops i)) (word_sum (others d i) (λ j. nth tape (mask_at d used i j))) < 2 ^ m
      masked i l = xor_lt m _ _ (a i l) (sum_below m _ (others d i) (λ j k. r _))

  pub ref_right : (v f : Values) → RefValues d w (word_a ops) (map (λ m. added m f) tape) used v → ((i : ℕ) → i < d → v (word_a ops i) ≡ added (nth old (word_a ops i)) f)
      → (x : ℕ) → w ≤ x → x < w + (pairs d + 2 * d) → v x ≡ added (nth new x) f
  ref_right v f vs a = ref_wire_lem (λ x. v x ≡ added (nth new x) f) d w
      (λ q l. drawn q l ∙ ap (λ s. added s f) (sym (h.drawn q l)))
      (λ i l. summed i l ∙ ap (λ s. added s f) (sym (h.summed i l)))
      (λ i l. vs.held i l ∙ summed i l ∙ ap (λ s. added s f) (sym (h.held i l)))
    where
      drawn : (q : ℕ) → q < pairs d → v (w + q) ≡ added (nth tape (used + q)) f
      drawn q l = vs.drawn q l ∙ words-at f tape (used + q)

      summed : (i : ℕ) → i < d → v (sum_at d w i) ≡ added (bit_xor (nth old (word_a ops i)) (word_sum (others d i) (λ j. nth tape (mask_at d used i j)))) f
      summed i l = vs.masked i l
          ∙ ap₂ bit_xor (a i l) (word_sum_ext _ _ (others d i) (λ j k. let (o, ne) = apart d i j l k in drawn (pair_site d i j) (pair_lt d i j l o ne))
          ∙ sym (added-sum 64 (λ j. nth tape (mask_at d used i j)) f (others d i)))
          ∙ sym (added-xor 64 (nth old (word_a ops i)) (word_sum (others d i) (λ j. nth tape (mask_at d used i j))) f)
