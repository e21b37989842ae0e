-- The gates of AND and REF in a circuit, by the places of their wires.
use mathlib.Core.Path.{◌≡◌, sym, ap, ◌∙◌}
use mathlib.Core.Bool.{true}
use mathlib.Core.List.{List, [], ◌∷◌, ◌++◌, map}
use Prim.Native.Nat.{ℕ, zero, suc, ◌+◌, ◌*◌, ◌-◌, ◌≤◌, ◌<◌}
use native.Mathlib.Nat.{add-sub_cancel_left}
use native.Mathlib.Omega.{arith}
use lib.Dec.{ltb}
use lib.ListN.{length, length-append, get_or-append}
use borrow.Author.Tests.{lt-ltb, ltb-true, ltb-false, ne_eqb}
use Rattle.circuit.specs.Wires.{Gate, random, reg, sum, product, and_not, Wire}
use Rattle.circuit.specs.Gadgets.{Part, others, sorted, gate, in_and, in_ref, index, gadget}
use Rattle.circuit.specs.Gadgets as parts
use Rattle.circuit.specs.Kinds.{pairs}
use Rattle.circuit.proofs.Base.{cases, Has}
use Rattle.circuit.proofs.Parts.{index_lt, Pair, others_pair, InAND, is_r, is_R, is_B, is_m, is_M, is_u, is_U, is_v, is_V, is_w, is_W, and_has, InREF, fresh, added, ref_has}
use Rattle.circuit.proofs.Sizes.{and-size, ref_size, gadget-size}
use Rattle.circuit.proofs.Building.{part_at, output-at}
use Rattle.gadgets.specs.Internal.Places.{row_start, pair_at, product_at, cross_at, out_at, mask_at, sum_at, held_at}
use Rattle.semantics.proofs.Solving.{nothing, gate_at}
use Rattle.gadgets.specs.Internal.Gates.{AndGates, RefGates}
use Rattle.gadgets.proofs.Ranges.{map_on}
use Rattle.gadgets.proofs.Sites.{row_next, row_last, site, and_site_lem, r_site, R_site, ref_site_lem, fresh_site}

-- two different shares
apart : {d i j : ℕ} → i < d → j < d → (j ≡ i → ⊥) → Pair d i j
apart {d} {i} {j} l k ne = record { fst = l; snd = k; apart = ne_eqb i j (λ e. ne (sym e)) }

-- the pair at a place among all pairs
record Ranked (d q : ℕ) : Type 0 where
  lower : ℕ
  upper : ℕ
  pair : Pair d lower upper
  ordered : ltb lower upper ≡ true
  is : q ≡ row_start d lower + (upper - lower - 1)

ranked : (d q n : ℕ) → n ≤ d → q < row_start d n → Ranked d q
ranked d q zero h l = absurd (omega arith)
ranked d q (suc n) h l = cases (ltb q (row_start d n))
    (λ e. ranked d q n (omega arith) (ltb-true q (row_start d n) e))
    (λ e. let k = ltb-false q (row_start d n) e in let j = n + suc (q - row_start d n) in
    record { lower = n; upper = j; pair = apart h (omega (arith, rw (← row_next d n h) at l)) (λ z. omega arith); ordered = lt-ltb n j (omega arith); is = rw (add-sub_cancel_left n) (omega arith) })

pair_of_lem : (d q : ℕ) → q < pairs d → Ranked d q
pair_of_lem d q l = ranked d q d (omega arith) (rw (row_last d) l)

-- a gadget behind the wires ws, and other wires behind it
module _ (ws more : List Wire) (d : ℕ) (a b : ℕ → ℕ) (inside : List Part) (out : ℕ → Part) (start end : ℕ) where
  abbrev made : List Wire
  made = gadget d (length ws) a b inside out start end

  abbrev all : List Wire
  all = (ws ++ made) ++ more

  abbrev gate_of : Part → Gate
  gate_of = gate d a b (λ q. length ws + index q inside)

  size : length (ws ++ made) ≡ length ws + (length inside + d)
  size = length-append ws made ∙ ap (λ (n : ℕ). length ws + n) (gadget-size d (length ws) a b inside out start end)

  in_made : (x : ℕ) → x < length ws + (length inside + d) → gate_at all x ≡ gate_at (ws ++ made) x
  in_made x l = ap (λ w. w.gate) (get_or-append (ws ++ made) more nothing x (omega (arith, size)))

  at-wire : (p : Part) → Has p inside → (x : ℕ) → length ws + index p inside ≡ x → gate_at all x ≡ gate_of p
  at-wire p h x e = rw (← e) (in_made (length ws + index p inside) (omega (arith, index_lt inside p h)) ∙ ap (λ w. w.gate) (part_at ws d a b inside out start end nothing p h))

  at-output : (i : ℕ) → i < d → (x : ℕ) → length ws + length inside + i ≡ x → gate_at all x ≡ gate_of (out i)
  at-output i l x e = rw (← e) (in_made (length ws + length inside + i) (omega arith) ∙ ap (λ w. w.gate) (output-at ws d a b inside out start end nothing i l))

-- AND
module _ (ws more : List Wire) (d : ℕ) (a b : ℕ → ℕ) (start end : ℕ) where
  abbrev first : ℕ
  first = length ws

  abbrev g : ℕ → Gate
  g = gate_at (all ws more d a b (in_and d) parts.c start end)

  abbrev wire : Part → ℕ
  wire p = first + index p (in_and d)

  wire-at : {p : Part} → InAND d p → wire p ≡ first + site 2 d p
  wire-at o = ap (λ n. first + n) (and_site_lem d o)

  placed : {p : Part} (x : ℕ) → InAND d p → first + site 2 d p ≡ x → g x ≡ gate d a b wire p
  placed {p} x o e = at-wire ws more d a b (in_and d) parts.c start end p (and_has d o) x (wire-at o ∙ e)

  drawn : (q : ℕ) → q < pairs d → (g (first + 2 * q) ≡ random) × (g (first + 2 * q + 1) ≡ reg (first + 2 * q))
  drawn q l =
      let k = pair_of_lem d q l in
      let e : first + site 2 d (parts.r k.lower k.upper) ≡ first + 2 * q = omega (arith, k.is) in (
        placed (first + 2 * q) (is_r _ _ k.pair k.ordered) e,
        placed (first + 2 * q + 1) (is_R _ _ k.pair k.ordered) (omega (arith, k.is)) ∙ ap reg (wire-at (is_r _ _ k.pair k.ordered) ∙ e),
      )

  products : (i : ℕ) → i < d → let x = product_at d first i in (g x ≡ reg (b i)) × (g (x + 1) ≡ product (a i) x) × (g (x + 2) ≡ reg (x + 1))
  products i l =
      let x = product_at d first i in (
        placed x (is_B i l) (omega arith),
        placed (x + 1) (is_m i l) (omega arith) ∙ ap (product (a i)) (wire-at (is_B i l) ∙ omega arith),
        placed (x + 2) (is_M i l) (omega arith) ∙ ap reg (wire-at (is_m i l) ∙ omega arith),
      )

  crossed : (i : ℕ) → i < d → (j : ℕ) → j < d → (j ≡ i → ⊥) → let x = cross_at d first i j in let y = pair_at d first i j in
      (g x ≡ and_not (a i) (y + 1)) × (g (x + 1) ≡ reg x) × (g (x + 2) ≡ sum (b j ∷ y ∷ [])) × (g (x + 3) ≡ reg (x + 2))
      × (g (x + 4) ≡ product (a i) (x + 3)) × (g (x + 5) ≡ reg (x + 4))
  crossed i l j k ne =
      let x = cross_at d first i j in
      let y = pair_at d first i j in
      let o = apart l k ne in
      let R_at : wire (sorted parts.R i j) ≡ y + 1 = omega (arith, R_site d i j o) in
      let r_at : wire (sorted parts.r i j) ≡ y = ap (λ n. first + n) (r_site d i j o) in (
        placed x (is_u i j o) (omega arith) ∙ ap (and_not (a i)) R_at,
        placed (x + 1) (is_U i j o) (omega arith) ∙ ap reg (wire-at (is_u i j o) ∙ omega arith),
        placed (x + 2) (is_v i j o) (omega arith) ∙ ap (λ n. sum (b j ∷ n ∷ [])) r_at,
        placed (x + 3) (is_V i j o) (omega arith) ∙ ap reg (wire-at (is_v i j o) ∙ omega arith),
        placed (x + 4) (is_w i j o) (omega arith) ∙ ap (product (a i)) (wire-at (is_V i j o) ∙ omega arith),
        placed (x + 5) (is_W i j o) (omega arith) ∙ ap reg (wire-at (is_w i j o) ∙ omega arith),
      )

  outputs : (i : ℕ) → i < d
      → g (out_at d first i) ≡ sum ((product_at d first i + 2) ∷ map (λ j. cross_at d first i j + 1) (others d i) ++ map (λ j. cross_at d first i j + 5) (others d i))
  outputs i l =
      let x : wire (parts.M i) ≡ product_at d first i + 2 = wire-at (is_M i l) ∙ omega arith in
      let us = map_on (λ j. wire (parts.U i j)) (λ j. cross_at d first i j + 1) (others d i) (λ j k. wire-at (is_U i j (others_pair d i j l k)) ∙ omega arith) in
      let vs = map_on (λ j. wire (parts.W i j)) (λ j. cross_at d first i j + 5) (others d i) (λ j k. wire-at (is_W i j (others_pair d i j l k)) ∙ omega arith) in
      at-output ws more d a b (in_and d) parts.c start end i l (out_at d first i) (omega (arith, and-size d)) ∙ λ n. sum ((x n ∷ us n) ++ vs n)

  pub and-gates : AndGates g d first a b
  and-gates = record { draws = drawn; products = products; crosses = crossed; outs = outputs }

-- REF
module _ (ws more : List Wire) (d : ℕ) (a b : ℕ → ℕ) (start end : ℕ) where
  abbrev ref_gate : ℕ → Gate
  ref_gate = gate_at (all ws more d a b (in_ref d) parts.S start end)

  ref_placed : {p : Part} (x : ℕ) → InREF d p → length ws + site 1 d p ≡ x → ref_gate x ≡ gate d a b (λ q. length ws + index q (in_ref d)) p
  ref_placed {p} x o e = at-wire ws more d a b (in_ref d) parts.S start end p (ref_has d o) x (ap (λ n. length ws + n) (ref_site_lem d o) ∙ e)

  ref_drawn : (q : ℕ) → q < pairs d → ref_gate (length ws + q) ≡ random
  ref_drawn q l = let k = pair_of_lem d q l in ref_placed (length ws + q) (fresh _ _ k.pair k.ordered) (omega (arith, k.is))

  ref_sums : (i : ℕ) → i < d → ref_gate (sum_at d (length ws) i) ≡ sum (a i ∷ map (λ j. mask_at d (length ws) i j) (others d i))
  ref_sums i l = ref_placed (sum_at d (length ws) i) (added i l) (omega arith)
      ∙ ap (λ xs. sum (a i ∷ xs)) (map_on (λ j. length ws + index (sorted parts.r i j) (in_ref d)) (λ j. mask_at d (length ws) i j) (others d i) (λ j k. ap (λ n. length ws + n) (fresh_site d i j (others_pair d i j l k))))

  ref-holds : (i : ℕ) → i < d → ref_gate (held_at d (length ws) i) ≡ reg (sum_at d (length ws) i)
  ref-holds i l = at-output ws more d a b (in_ref d) parts.S start end i l (held_at d (length ws) i) (omega (arith, ref_size d)) ∙ ap reg (omega (arith, ref_site_lem d (added i l)))

  pub ref_gates : RefGates ref_gate d (length ws) a
  ref_gates = record { draws = ref_drawn; sums = ref_sums; holds = ref-holds }
