-- The values of AND's and REF's wires, from those of the wires that they take and the tape.
use mathlib.Core.Path.{◌≡◌, sym, ap, ap₂, fun_ext, ◌∙◌}
use mathlib.Core.Bool.{Bool, true}
use mathlib.Core.List.{List, [], ◌∷◌, map}
use Prim.Native.Nat.{ℕ, ◌+◌, ◌*◌, ◌≤◌, ◌<◌}
use native.Mathlib.Omega.{arith}
use lib.Bits.{bit_and, bit_xor, xor_zero_r}
use lib.ListN.{length, take}
use borrow.Author.Tests.{eqb-false}
use Rattle.circuit.specs.Lists.{nth}
use Rattle.circuit.specs.Wires.{Gate, input, constant, random, reg, inverse, sum, product, and_not, Wire}
use Rattle.circuit.specs.Gadgets.{others}
use Rattle.circuit.specs.Kinds.{pairs}
use Rattle.circuit.specs.Circuit.{is_set}
use Rattle.circuit.proofs.Base.{In}
use Rattle.circuit.proofs.Parts.{others_pair}
use Rattle.circuit.proofs.Sizes.{pairs_twice}
use Rattle.semantics.specs.Values.{at, values_of}
use Rattle.semantics.proofs.Randoms.{randoms_in}
use Rattle.frames.specs.declared.walk.Gate.TheVariants as gate
use Rattle.frames.specs.declared.walk.Frame.{Frame as FrameCode}
use Rattle.frames.specs.declared.walk.Frame.TheVariants as frame
use Rattle.gadgets.specs.Internal.Places.{word_a, word_b, pair_site, pair_at, product_at, cross_at, out_at, mask_at, sum_at, held_at}
use Rattle.semantics.proofs.Solving.{gate_at, OrderedFrom, solved, rank-next}
use Rattle.gadgets.specs.Internal.Gates.{AndGates, RefGates, FrameGates}
use Rattle.gadgets.specs.Internal.Frames.{frame_wires}
use Rattle.gadgets.proofs.Sites.{pair_lt}
use Rattle.gadgets.proofs.Slots.{product-early, cross_room}
use Rattle.simulation.specs.Internal.Filling.{Values, word_sum, Copied, Drawn, ShareProducts, RowCrossed, crossing_at, Multiplied, AndValues, Masked, Held, RefValues, FrameValues}
use Rattle.simulation.specs.Internal.Walked.{values_at}
use Rattle.simulation.specs.Internal.Evaluating.{packed, Packs}
use Rattle.simulation.proofs.Adding.{word_sum_ext, word_sum-append, word_sum-map, word_sum-xor}
use Rattle.simulation.proofs.Packing.{word_value, packed-value}
use Rattle.simulation.proofs.Ranks.{pairs-rank, masks_rank}

-- different shares, where the one is among the others of the other
pub apart : (d i j : ℕ) → i < d → In j (others d i) → (j < d) × (j ≡ i → ⊥)
apart d i j l h = let o = others_pair d i j l h in (o.snd, λ e. eqb-false i j o.apart (sym e))

module _ (ws : List Wire) (early : OrderedFrom 0 ws) (ones : ℕ) (shares tape : List ℕ)
    (n : ℕ) (sharings tapes : ℕ → List Bool) (full : ones ≡ packed n (λ l. true)) (shared : Packs n sharings shares) (drawn : Packs n tapes tape) where
  -- the value of each wire, and how many random bits come before it
  abbrev pub valued : Values
  valued = values_at ws n sharings tapes

  abbrev pub rank : ℕ → ℕ
  rank x = randoms_in (take x ws)

  -- a wire whose gate is known
  pub gate-value : (x : ℕ) (g : Gate) → x < length ws → gate_at ws x ≡ g → valued x ≡ word_value ones shares tape g valued (rank x)
  gate-value x g l e =
      let f : ℕ → ℕ → Bool = λ i. at (values_of ws (sharings i) (tapes i)) in
      ap (packed n) (fun_ext (λ i. solved (sharings i) ws (tapes i) early x l)) ∙ packed-value ones shares tape n sharings tapes full shared drawn (gate_at ws x) f (rank x)
      ∙ ap (λ z. word_value ones shares tape z valued (rank x)) e

  -- AND
  module _ (d first : ℕ) (a b : ℕ → ℕ) (gs : AndGates (gate_at ws) d first a b) (made : out_at d first d ≤ length ws) (used : ℕ) (start : rank first ≡ used) where
    pair_room : (q : ℕ) → q < pairs d → first + 2 * q + 1 < length ws
    pair_room q l = omega (arith, pairs_twice d)

    rank-at : (q : ℕ) → q ≤ pairs d → rank (first + 2 * q) ≡ used + q
    rank-at = pairs-rank (length ws) (gate_at ws) rank (λ x g l. rank-next ws x l) first used (pairs d) start gs.draws (omega (arith, pairs_twice d))

    hold_is : (q : ℕ) → q < pairs d → valued (first + 2 * q + 1) ≡ valued (first + 2 * q)
    hold_is q l = gate-value (first + 2 * q + 1) (reg (first + 2 * q)) (pair_room q l) (gs.draws q l).1

    draws : Drawn tape used first (pairs d) valued
    draws q l =
        let e : valued (first + 2 * q) ≡ nth tape (used + q) = gate-value (first + 2 * q) random (omega (arith, pair_room q l)) (gs.draws q l).0 ∙ ap (nth tape) (rank-at q (omega arith)) in
        (e, hold_is q l ∙ e)

    product-room : (i : ℕ) → i < d → product_at d first i + 2 < length ws
    product-room i l = omega (arith, product-early d first d i l)

    products : ShareProducts d first a b valued
    products i l =
        let x = product_at d first i in
        let g = gs.products i l in
        let B_is : valued x ≡ valued (b i) = gate-value x (reg (b i)) (omega (arith, product-room i l)) g.0 in
        let m_is : valued (x + 1) ≡ bit_and (valued (a i)) (valued (b i)) = gate-value (x + 1) (product (a i) x) (omega (arith, product-room i l)) g.1 ∙ ap (bit_and (valued (a i))) B_is in
        (B_is, m_is, gate-value (x + 2) (reg (x + 1)) (product-room i l) g.2 ∙ m_is)

    crossed : (i : ℕ) → i < d → RowCrossed ones d first i (valued (a i)) valued
    crossed i l j k ne =
        let x = cross_at d first i j in
        let g = gs.crosses i l j k ne in
        let room = cross_room d first i j l k ne in
        let ρ = valued (pair_at d first i j) in
        let β = valued (product_at d first j) in
        let u_is : valued x ≡ bit_and (bit_xor ones (valued (a i))) ρ = gate-value x (and_not (a i) (pair_at d first i j + 1)) (omega arith) g.0
        ∙ ap (bit_and (bit_xor ones (valued (a i)))) (hold_is (pair_site d i j) (pair_lt d i j l k ne)) in
        let v_is : valued (x + 2) ≡ bit_xor β ρ = gate-value (x + 2) (sum (b j ∷ pair_at d first i j ∷ [])) (omega arith) g.2 ∙ ap₂ bit_xor (sym (products j k).0) (xor_zero_r ρ) in
        let V_is : valued (x + 3) ≡ bit_xor β ρ = gate-value (x + 3) (reg (x + 2)) (omega arith) g.3 ∙ v_is in
        let w_is : valued (x + 4) ≡ bit_and (valued (a i)) (bit_xor β ρ) = gate-value (x + 4) (product (a i) (x + 3)) (omega arith) g.4 ∙ ap (bit_and (valued (a i))) V_is in (
          u_is,
          gate-value (x + 1) (reg x) (omega arith) g.1 ∙ u_is,
          v_is,
          V_is,
          w_is,
          gate-value (x + 5) (reg (x + 4)) (omega arith) g.5 ∙ w_is,
        )

    multiplied : Multiplied ones d first a valued
    multiplied = record { crossed = crossed; out = out }
      where
        out : (i : ℕ) → i < d → valued (out_at d first i) ≡ bit_xor (valued (product_at d first i + 2)) (word_sum (others d i) (crossing_at ones d first i (valued (a i)) valued))
        out i l = gate-value (out_at d first i) _ (omega arith) (gs.outs i l) ∙ ap (bit_xor (valued (product_at d first i + 2)))
            (word_sum-append valued (map (λ j. cross_at d first i j + 1) (others d i)) (map (λ j. cross_at d first i j + 5) (others d i)) ∙ rw (word_sum-map, word_sum-map, ← word_sum-xor)
            (word_sum_ext _ _ (others d i) (λ j h. let (k, ne) = apart d i j l h in rw ((crossed i l j k ne).1, (crossed i l j k ne).5))))

    pub and-values : AndValues ones d first a b tape used valued
    and-values = record { drawn = draws; products = products; multiplied = multiplied }

  -- REF
  module _ (d first : ℕ) (a : ℕ → ℕ) (gs : RefGates (gate_at ws) d first a) (made : held_at d first d ≤ length ws) (used : ℕ) (start : rank first ≡ used) where
    ref_rank : (q : ℕ) → q ≤ pairs d → rank (first + q) ≡ used + q
    ref_rank = masks_rank (length ws) (gate_at ws) rank (λ x g l. rank-next ws x l) first used (pairs d) start gs.draws (omega arith)

    ref_drawn : Copied tape used first (pairs d) valued
    ref_drawn q l = gate-value (first + q) random (omega arith) (gs.draws q l) ∙ ap (nth tape) (ref_rank q (omega arith))

    masked : Masked d first a valued
    masked i l = gate-value (sum_at d first i) _ (omega arith) (gs.sums i l) ∙ ap (bit_xor (valued (a i))) (word_sum-map valued (λ j. mask_at d first i j) (others d i))

    held : Held d first valued
    held i l = gate-value (held_at d first i) (reg (sum_at d first i)) (omega arith) (gs.holds i l)

    pub ref_values : RefValues d first a tape used valued
    ref_values = record { drawn = ref_drawn; masked = masked; held = held }

  -- a frame
  pub frame-values : (fr : FrameCode) (d first from used : ℕ) (ops : List ℕ) → FrameGates fr d first from ops (gate_at ws) → first + frame_wires fr d ≤ length ws → rank first ≡ used
      → FrameValues fr ones d first from used ops shares tape valued
  frame-values (frame.Gate (gate.In t)) d first from used ops g l r = λ q h. gate-value (first + q) (input (from + q)) (omega arith) (g q h)
  frame-values (frame.Gate (gate.Con k b t)) d first from used ops g l r = gate-value first (constant (is_set b)) (omega arith) g
  frame-values (frame.Gate (gate.Xor x y)) d first from used ops g l r = gate-value first (sum (x ∷ y ∷ [])) (omega arith) g ∙ ap (bit_xor (valued x)) (xor_zero_r (valued y))
  frame-values (frame.Gate (gate.Not x)) d first from used ops g l r = gate-value first (inverse x) (omega arith) g
  frame-values (frame.Gate (gate.Reg x)) d first from used ops g l r = gate-value first (reg x) (omega arith) g
  frame-values (frame.Gate gate.Out) d first from used ops g l r = tt
  frame-values frame.And d first from used ops g l r = and-values d first (word_a ops) (word_b d ops) g (omega arith) used r
  frame-values frame.Ref d first from used ops g l r = ref_values d first (word_a ops) g (omega arith) used r
