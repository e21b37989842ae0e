-- AND on a clock: B, m and M of a share; u, U, v, V, w and W of two shares.
use mathlib.Core.Path.{◌≡◌, refl, sym, ap, ap₂, ◌∙◌}
use mathlib.Core.List.{List}
use Prim.Native.Nat.{ℕ, ◌+◌, ◌≤◌, ◌<◌}
use native.Mathlib.Omega.{arith}
use lib.Bits.{bit_and, bit_xor, xor_zero_r}
use lib.ListN.{length, set, length-set}
use lib.Seq.{get_or-set_other}
use Rattle.circuit.specs.Lists.{nth}
use Rattle.circuit.specs.Wires.{Gate}
use Rattle.semantics.specs.Clock.{is_register}
use Rattle.gadgets.specs.Internal.Gates.{ProductGates, CrossGates}
use Rattle.clock.specs.Internal.Running.{Clock, Upto}
use Rattle.clock.specs.Internal.Parts.{Crosses}
use Rattle.clock.proofs.Wires.{met, keep, wrote, upto_at}

-- room for so many wires from one on
abbrev Room : Clock → (at n : ℕ) (values bank : List ℕ) → Type 0
Room k at n values bank = (at + n ≤ k.size) × (at + n ≤ length values) × (at + n ≤ length bank)

-- the gates of the same places
pub product-gates : {at at' x x' y y' : ℕ} (g : ℕ → Gate) → at ≡ at' → x ≡ x' → y ≡ y' → ProductGates at' x' y' g → ProductGates at x y g
product-gates g at_is x_is y_is h = rw (at_is, x_is, y_is) h

-- B, m and M over the wires x of a(i) and y of b(i)
module _ {k : Clock} {values bank : List ℕ} (at x y : ℕ) (room : Room k at 3 values bank) (g : ProductGates at x y k.gate) (u : Upto k at values bank) (lx : x < at) (ly : y < at)
    (m : ℕ) (is : m ≡ bit_and (nth values x) (nth values at)) where
  abbrev β : ℕ
  β = nth values y

  pub product-on : Upto k (at + 3) (set values (at + 1) m) (set (set bank at β) (at + 2) m)
  product-on =
      let B : Upto k (at + 1) values (set bank at β) = keep u β (omega (arith, room)) g.0 (u.below y ly) in
      let m_is : m ≡ k.shows (at + 1) = is ∙ ap₂ bit_and (u.below x lx) (B.below at (omega arith)) ∙ sym (met k (at + 1) (omega (arith, room)) g.1 refl) in
      let M : Upto k (at + 2) (set values (at + 1) m) (set bank at β) = upto_at (omega arith) (wrote B m (omega (arith, room)) (ap is_register g.1) m_is) in
      upto_at (omega arith) (keep M m (rw length-set (omega (arith, room))) g.2 m_is)

-- u to W over the wires x of a(i), y of b(j) and z of r, whose words are given
module _ (values bank : List ℕ) (at a b r held u v w : ℕ) (u-gate : u ≡ bit_and (bit_xor 1 a) held) (v-gate : v ≡ bit_xor b r) (w-gate : w ≡ bit_and a (nth values (at + 3)))
    (long : at + 6 ≤ length values) (deep : at + 6 ≤ length bank) where
  abbrev shown : List ℕ
  shown = set (set (set values at u) (at + 2) v) (at + 4) w

  abbrev kept : List ℕ
  kept = set (set (set bank (at + 1) u) (at + 3) v) (at + 5) w

  pub crosses : Crosses at a b r held values bank shown kept (bit_xor (nth shown (at + 1)) (nth shown (at + 5)))
  crosses = record {
    on = λ k x y z few g a_is b_is r_is held-is c. let all = six k x y z few g a_is b_is r_is held-is c in (all, ap₂ bit_xor (all.below (at + 1) (omega arith)) (all.below (at + 5) (omega arith)));
    above = λ x l. get_or-set_other (set (set values at u) (at + 2) v) (at + 4) x w 0 (omega arith)
        ∙ get_or-set_other (set values at u) (at + 2) x v 0 (omega arith) ∙ get_or-set_other values at x u 0 (omega arith);
  }
    where
      six : (k : Clock) (x y z : ℕ) → at + 6 ≤ k.size → CrossGates at x y z k.gate
          → a ≡ k.shows x → b ≡ k.shows y → r ≡ k.shows z → held ≡ k.shows (z + 1) → Upto k at values bank → Upto k (at + 6) shown kept
      six k x y z few g a_is b_is r_is held-is c =
          let u_is : u ≡ k.shows at = u-gate ∙ ap₂ (λ p q. bit_and (bit_xor 1 p) q) a_is held-is ∙ sym (met k at (omega arith) g.0 refl) in
          let v_is : v ≡ k.shows (at + 2) = v-gate ∙ ap₂ bit_xor b_is (r_is ∙ sym (xor_zero_r (k.shows z))) ∙ sym (met k (at + 2) (omega arith) g.2 refl) in
          let w_is : w ≡ k.shows (at + 4) = w-gate ∙ ap₂ bit_and a_is (c.registers (at + 3) (omega arith) (ap is_register g.3)) ∙ sym (met k (at + 4) (omega arith) g.4 refl) in
          let at1 = wrote c u (omega arith) (ap is_register g.0) u_is in
          let at2 : Upto k (at + 2) _ _ = upto_at (omega arith) (keep at1 u (omega arith) g.1 u_is) in
          let at3 : Upto k (at + 3) _ _ = upto_at (omega arith) (wrote at2 v (rw length-set (omega arith)) (ap is_register g.2) v_is) in
          let at4 : Upto k (at + 4) _ _ = upto_at (omega arith) (keep at3 v (rw length-set (omega arith)) g.3 v_is) in
          let at5 : Upto k (at + 5) _ _ = upto_at (omega arith) (wrote at4 w (rw (length-set, length-set) (omega arith)) (ap is_register g.4) w_is) in
          upto_at (omega arith) (keep at5 w (rw (length-set, length-set) (omega arith)) g.5 w_is)
