-- The wires u to W of a share and each other on a clock, share by share.
use mathlib.Core.Path.{◌≡◌, refl, subst, ◌∙◌}
use mathlib.Core.List.{List}
use Prim.Native.Nat.{ℕ, ◌+◌, ◌-◌, ◌≤◌, ◌<◌}
use native.Mathlib.Omega.{arith}
use lib.Bits.{bit_xor}
use lib.ListN.{length}
use Rattle.circuit.specs.Lists.{nth, range}
use Rattle.gadgets.specs.Internal.Places.{pair_at, cross_at, out_at}
use Rattle.gadgets.specs.Internal.Gates.{CrossRowGates}
use Rattle.gadgets.specs.Internal.Frames.{RowBefore}
use Rattle.gadgets.proofs.Slots.{slot_next, Sites, sites}
use Rattle.simulation.specs.Internal.Filling.{word_sum}
use Rattle.simulation.proofs.Adding.{adds_turn, adds_end}
use Rattle.clock.specs.Internal.Running.{Clock, Upto}
use Rattle.clock.specs.Internal.Parts.{crossing, Crosses, CrossesRow}
use Rattle.clock.proofs.Wires.{upto_at}

-- what the row adds, share by share
abbrev pub added : (d first i : ℕ) → Clock → ℕ → ℕ
added d first i k j = crossing k.shows (cross_at d first i j)

-- the row as far as j
pub record RowOn (d first i : ℕ) (b : ℕ → ℕ) (a word from to : ℕ) (values₀ bank₀ values bank : List ℕ) (sum j : ℕ) : Type 0 where
  pub low : from ≤ j
  pub high : j ≤ to
  pub on : (k : Clock) (x : ℕ → ℕ) → out_at d first d ≤ k.size → CrossRowGates d first x b i k.gate → a ≡ k.shows (x i) → Upto k (cross_at d first i from) values₀ bank₀
      → Upto k (cross_at d first i j) values bank
      × (bit_xor word (word_sum (range from (to - from)) (added d first i k)) ≡ bit_xor sum (word_sum (range j (to - j)) (added d first i k)))
  pub above : (x : ℕ) → cross_at d first i j ≤ x → nth values x ≡ nth values₀ x
  pub sized : length values ≡ length values₀
  pub held_sized : length bank ≡ length bank₀

pub row_start_lem : {d first i : ℕ} {b : ℕ → ℕ} {a word from to : ℕ} {values bank : List ℕ} → from ≤ to → RowOn d first i b a word from to values bank values bank word from
row_start_lem h = record { low = omega arith; high = h; on = λ k x few g e u. (u, refl); above = λ x l. refl; sized = refl; held_sized = refl }

module _ {d first i : ℕ} {b : ℕ → ℕ} {a word from to : ℕ} {values₀ bank₀ values bank : List ℕ} {sum j : ℕ} (row : RowOn d first i b a word from to values₀ bank₀ values bank sum j) where
  pub row_end : to ≤ j → CrossesRow d first i b a word from to values₀ bank₀ values bank sum
  row_end h =
      let end : j ≡ to = omega (arith, row.high) in
      record {
        on = λ k x few g e u. let (now, adds) = row.on k x few g e u in (subst (λ (n : ℕ). Upto k (cross_at d first i n) values bank) end now, adds_end sum (added d first i k) to j adds h);
        above = λ x l. row.above x (rw end l);
      }

  -- one share more: where the code finds b, r, R and u
  pub row_turn : d ≤ 8 → i < d → to ≤ d → ((j : ℕ) → from ≤ j → j < to → j ≡ i → ⊥) → RowBefore first d b → j < to
      → (p q o : ℕ) → q ≡ cross_at d first i j → p ≡ pair_at d first i j → o ≡ b j → {new new_bank : List ℕ} {s : ℕ}
      → Crosses q a (nth values o) (nth values p) (nth values (p + 1)) values bank new new_bank s → length new ≡ length values → length new_bank ≡ length bank
      → RowOn d first i b a word from to values₀ bank₀ new new_bank (bit_xor sum s) (j + 1)
  row_turn most l few apart early h p q o q-is p-is o_is {new} {new_bank} {s} crossed same held_same =
      let ne = apart j row.low h in
      let site : Sites d first i j = sites d first i j most l (omega arith) ne in
      let c : Crosses (cross_at d first i j) a (nth values (b j)) (nth values (pair_at d first i j))
      (nth values (pair_at d first i j + 1)) values bank new new_bank s = rw (q-is, p-is, o_is) at crossed in
      record {
        low = omega (arith, row.low);
        high = omega arith;
        on = λ k x room g e u.
            let (now, adds) = row.on k x room g e u in
            let (next, s-is) = c.on k (x i) (b j) (pair_at d first i j) (omega (arith, site.room)) (g j (omega arith) ne) e
            (now.below (b j) (omega (arith, early j (omega arith)))) (now.below (pair_at d first i j) (omega (arith, site.pair)))
            (now.below (pair_at d first i j + 1) (omega (arith, site.pair))) now in
            (upto_at (omega (arith, slot_next i j ne)) next, rw s-is (adds_turn sum (added d first i k) to j adds h));
        above = λ x z. c.above x (omega (arith, slot_next i j ne)) ∙ row.above x (omega (arith, slot_next i j ne));
        sized = same ∙ row.sized;
        held_sized = held_same ∙ row.held_sized;
      }
