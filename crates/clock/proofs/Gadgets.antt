-- AND and REF on a clock, from their parts.
use mathlib.Core.Path.{◌≡◌, refl, ap, ◌∙◌}
use mathlib.Core.List.{List}
use Prim.Native.Nat.{ℕ, ◌+◌, ◌-◌, ◌*◌, ◌≤◌, ◌<◌}
use native.Mathlib.Omega.{arith}
use lib.Bits.{bit_xor}
use lib.Dec.{ltb}
use borrow.Author.Tests.{ltb-true, ltb-false}
use Rattle.circuit.specs.Lists.{nth}
use Rattle.circuit.specs.Wires.{random}
use Rattle.circuit.specs.Gadgets.{others}
use Rattle.circuit.specs.Kinds.{pairs}
use Rattle.circuit.proofs.Base.{cases}
use Rattle.circuit.proofs.Sizes.{pairs_twice}
use Rattle.semantics.specs.Clock.{is_register}
use Rattle.frames.specs.declared.walk.Frame.TheVariants as frame
use Rattle.gadgets.specs.Internal.Places.{word_a, word_b, product_at, cross_start, out_at, mask_at, sum_at, held_at}
use Rattle.simulation.specs.Internal.Filling.{Fills, DrawnMasked}
use Rattle.simulation.proofs.Adding.{word_sum-map}
use Rattle.simulation.proofs.Ranks.{pairs-rank, masks_rank}
use Rattle.clock.specs.Internal.Running.{Clock, Runs}
use Rattle.clock.specs.Internal.Parts.{Draws, Products, Rows, Holds, Framed}
use Rattle.clock.proofs.Wires.{met, fill, upto_at}

-- a random wire shows its bit of the tape
random-shows : (k : Clock) (x n : ℕ) → x < k.size → k.gate x ≡ random → k.rank x ≡ n → k.shows x ≡ nth k.tape n
random-shows k x n l e r = met k x l e refl ∙ ap (nth k.tape) r

-- AND: r and R, then B, m and M, then the rows and the outputs. It takes no shares
pub and_runs : (d first used randoms : ℕ) (ops tape : List ℕ) → randoms ≡ pairs d → {values bank one one_bank two two_bank new new_bank : List ℕ}
    → Runs (Draws tape used first randoms) first (first + 2 * randoms) values bank one one_bank
    → Runs (Products d first (word_a ops) (word_b d ops)) (product_at d first 0) (product_at d first d) one one_bank two two_bank
    → Runs (Rows d first (word_a ops) (word_b d ops)) (first + cross_start d 0) (out_at d first d) two two_bank new new_bank
    → (from : ℕ) (shares : List ℕ) → Runs (Framed frame.And d first from used ops shares tape) first (first + (7 * (d * (d - 1)) + 4 * d)) values bank new new_bank
and_runs d first used randoms ops tape same draws products rows from shares =
    let twice = pairs_twice d in
    record {
      on = λ k g u.
          let gates = g.gates in
          let room : out_at d first d ≤ k.size = omega (arith, g.within) in
          let fed : (q : ℕ) → q < pairs d → k.shows (first + 2 * q) ≡ nth tape (used + q) = λ q h.
          random-shows k (first + 2 * q) (used + q) (omega (arith, twice)) (gates.draws q h).0
          (pairs-rank k.size k.gate k.rank k.ranks first used (pairs d) g.drawn gates.draws (omega (arith, twice)) q (omega arith)) ∙ ap (λ t. nth t (used + q)) g.tape_is in
          let drawn = draws.on k (omega (arith, twice), λ q l. let h : q < pairs d = omega arith in ((gates.draws q h).0, (gates.draws q h).1, fed q h)) u in
          let multiplied = products.on k (omega arith, gates.products) (upto_at (omega (arith, twice)) drawn) in
          upto_at (omega arith) (rows.on k (room, gates.crosses, gates.outs) (upto_at (omega arith) multiplied));
      sized = rows.sized ∙ products.sized ∙ draws.sized;
      held_sized = rows.held_sized ∙ products.held_sized ∙ draws.held_sized;
    }

-- REF: its random bits and its sums are filled in, then its outputs
pub ref_runs : (d first used : ℕ) (ops tape : List ℕ) {values bank two new_bank : List ℕ} → Fills (DrawnMasked d first (word_a ops) tape used) first (sum_at d first d) values two
    → Runs (Holds d first) (held_at d first 0) (held_at d first d) two bank two new_bank
    → (from : ℕ) (shares : List ℕ) → Runs (Framed frame.Ref d first from used ops shares tape) first (first + (pairs d + 2 * d)) values bank two new_bank
ref_runs d first used ops tape masks holds from shares = record {
  on = λ k g u.
      let gates = g.gates in
      let room : held_at d first d ≤ k.size = omega (arith, g.within) in
      let drawn : (q : ℕ) → q < pairs d → k.shows (first + q) ≡ nth tape (used + q) = λ q l.
      random-shows k (first + q) (used + q) (omega arith) (gates.draws q l)
      (masks_rank k.size k.gate k.rank k.ranks first used (pairs d) g.drawn gates.draws (omega arith) q (omega arith)) ∙ ap (λ t. nth t (used + q)) g.tape_is in
      let sums : (i : ℕ) → i < d → k.shows (sum_at d first i) ≡ bit_xor (k.shows (word_a ops i)) _ = λ i l.
      met k (sum_at d first i) (omega arith) (gates.sums i l) refl ∙ ap (bit_xor (k.shows (word_a ops i))) (word_sum-map k.shows (λ j. mask_at d first i j) (others d i)) in
      let added = fill u masks (omega arith) (omega arith) (record { drawn = drawn; masked = sums }) (λ x l m. cases (ltb x (first + pairs d))
      (λ e.
      let q = x - first in
      let low = ltb-true x (first + pairs d) e in
      let at : x ≡ first + q = omega arith in
      ap (λ y. is_register (k.gate y)) at ∙ ap is_register (gates.draws q (omega arith)))
      (λ e.
      let i = x - (first + pairs d) in
      let high = ltb-false x (first + pairs d) e in
      let at : x ≡ sum_at d first i = omega arith in
      ap (λ y. is_register (k.gate y)) at ∙ ap is_register (gates.sums i (omega arith)))) in
      upto_at (omega arith) (holds.on k (room, gates.holds) (upto_at (omega arith) added));
  sized = masks.size;
  held_sized = holds.held_sized;
}
