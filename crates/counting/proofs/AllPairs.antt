-- A free bit that is no factor of a product that the read wires need only adds its shift to what they show; so all pairs are counted by
-- those in which only the factors vary.
use mathlib.Core.Path.{◌≡◌, refl, sym, ap, ap₂, ◌∙◌}
use mathlib.Core.Bool.{Bool, true, false, true≢false, cond}
use mathlib.Core.List.{List, [], ◌∷◌, ◌++◌}
use Prim.Native.Nat.{ℕ, zero, suc, ◌+◌, ◌*◌, ◌-◌, ◌^◌, ◌≤◌, ◌<◌}
use native.Mathlib.Omega.{arith}
use lib.Bits.{bit_and, bit_xor}
use lib.Dec.{ltb, eqb}
use lib.ListN.{length, length-append}
use borrow.Author.Tests.{ltb-true, ltb-false, lt-ltb, le-ltb}
use Rattle.circuit.specs.Lists.{◌⊕◌, nth, range}
use Rattle.circuit.specs.Circuit.{Circuit}
use Rattle.circuit.proofs.Base.{cases, range_in}
use Rattle.semantics.specs.Values.{bits, byte, at}
use Rattle.semantics.specs.Counts.{free_bits}
use Rattle.secrecy.proofs.Sums.{sum_bits}
use Rattle.gadgets.specs.Internal.Accepting.{circuit_in}
use Rattle.simulation.specs.Internal.Filling.{Values}
use Rattle.symbolic.specs.Internal.Sums.{added, term_word, Before}
use Rattle.counting.specs.declared.plan.Plan.{Plan}
use Rattle.counting.specs.Internal.Pairs.{free_of, values_with, number_with, shown_of}
use Rattle.counting.specs.Internal.Lanes.{lane_bit}
use Rattle.counting.specs.Internal.Linear.{folded, Surveys, Surveyed, varied_in, shift_in, ShiftsIn, Remade}
use Rattle.counting.specs.Internal.Tallying.{set_of, Prepared, TalliedSome, Tallied}
use Rattle.counting.proofs.Numbered.{pow_mono, sum-numbers}
use Rattle.counting.proofs.Adding.{few_ones}
use Rattle.counting.proofs.Batches.{sizes}
use Rattle.counting.proofs.Placed.{sum-placed}
use Rattle.counting.proofs.Folding.{Shifted, some, fold_same, fold_all, shifted}
use Rattle.counting.proofs.Flipped.{lane_lt, added-on, added_flipped, byte_flipped, number_flipped, at_apart, at-bit}
use Rattle.counting.proofs.Solved.{Solution, solved, solution}
use Rattle.counting.proofs.Preparing.{Given, valued}
use Rattle.counting.proofs.Tallying.{number_placed}

module _ {table secrets read sums terms : List ℕ} {outputs : ℕ} {plan : Plan} (p : Prepared table secrets read sums terms outputs plan) {factors : ℕ}
    (sv : Surveyed sums terms read outputs factors) (second : Bool) where
  abbrev found : ℕ
  found = length read

  abbrev k : Circuit
  k = circuit_in table

  abbrev set : List Bool
  set = bits (set_of table second secrets)

  few : plan.free ≤ 16
  few = (sizes (p.countable second) p.planned).few

  -- the variables of one evaluation, from its free bits
  base : List Bool → Values
  base bs s = cond (ltb s plan.free) (byte (at bs s)) (cond (eqb s 16) (cond second 1 0) (cond (eqb s 17) 1 0))

  base_other : (bs cs : List Bool) (s : ℕ) → (s < plan.free → at bs s ≡ at cs s) → base bs s ≡ base cs s
  unfolding base
  base_other bs cs s h = cases (ltb s plan.free) (λ e. rw e (ap byte (h (ltb-true s plan.free e)))) (λ e. rw e)

  abbrev f : List Bool → Values
  f bs = solved terms outputs found (base bs)

  solves : (bs : List Bool) → Solution terms outputs found (base bs) (f bs)
  solves bs = solution p.expanded.few p.expanded.before p.expanded.reads_before (base bs)

  given : (bs : List Bool) → length bs ≡ plan.free → Given plan 1 (λ l. bs) second (f bs)
  unfolding base
  given bs e = record {
    each = λ l. e;
    free = λ i h. (solves bs).low i (omega (arith, few)) ∙ rw (lt-ltb i plan.free h) (omega arith);
    set = (solves bs).low 16 (omega arith) ∙ rw (le-ltb 16 plan.free few) refl;
    one = (solves bs).low 17 (omega arith) ∙ rw (le-ltb 17 plan.free (omega (arith, few))) refl;
  }

  value : (bs : List Bool) → length bs ≡ plan.free → (i : ℕ) → i < found → byte (at (values_with k set bs) (nth read i)) ≡ added (nth sums (nth read i)) (f bs)
  value bs e i h =
      let b = byte (at (values_with k set bs) (nth read i)) in
      let one : b ≡ 0 * 2 + b = omega arith in
      one ∙ valued p (given bs e) (record { outs = (solves bs).outs; reads = λ j l u. (solves bs).reads j l }) i h

  -- a free bit that is no factor, set and not set
  module _ (pre bs : List Bool) (sized : length pre + suc (length bs) ≡ plan.free) (linear : lane_bit (length pre) factors ≡ false) where
    abbrev x : ℕ
    x = length pre

    abbrev hi : List Bool
    hi = pre ++ true ∷ bs

    abbrev lo : List Bool
    lo = pre ++ false ∷ bs

    -- the other variables that are needed are the same
    factor : (s : ℕ) → lane_bit s factors ≡ true → s ≡ x → ⊥
    factor s d e = true≢false (sym d ∙ ap (λ y. lane_bit y factors) e ∙ linear)

    product-same : (n : ℕ) → Before terms n → Surveys terms sv.needed factors n → lane_bit (18 + n) sv.needed ≡ true
        → ((s : ℕ) → s < 18 + n → lane_bit s sv.needed ≡ true → (s ≡ x → ⊥) → f hi s ≡ f lo s) → term_word terms n (f hi) ≡ term_word terms n (f lo)
    product-same n b v d h = ap₂ bit_and
        (added-on 64 (nth terms (2 * n)) (f hi) (f lo) (λ s e. h s (lane_lt (18 + n) s _ b.one e) ((v.one d).0 s e) (factor s ((v.one d).1 s e))))
        (added-on 64 (nth terms (2 * n + 1)) (f hi) (f lo) (λ s e. h s (lane_lt (18 + n) s _ b.other e) ((v.other d).0 s e) (factor s ((v.other d).1 s e))))

    low_same : (s : ℕ) → (s ≡ x → ⊥) → base hi s ≡ base lo s
    low_same s ne = base_other hi lo s (λ l. at_apart pre bs s ne)

    -- one, where those before it are
    module _ (s : ℕ) (lower : (t : ℕ) → t < s → lane_bit t sv.needed ≡ true → (t ≡ x → ⊥) → f hi t ≡ f lo t) (d : lane_bit s sv.needed ≡ true) (ne : s ≡ x → ⊥) where
      set_at : (n : ℕ) → s ≡ 18 + n → lane_bit (18 + n) sv.needed ≡ true
      set_at n e = ap (λ y. lane_bit y sv.needed) (sym e) ∙ d

      out : (n : ℕ) → s ≡ 18 + n → n < outputs → f hi s ≡ f lo s
      out n e h = ap (f hi) e ∙ (solves hi).outs n h
          ∙ product-same n (p.expanded.before n (omega arith) h) (sv.outs n (omega arith) h) (set_at n e) (λ t l. lower t (omega arith)) ∙ sym (ap (f lo) e ∙ (solves lo).outs n h)

      inner : (i : ℕ) → s ≡ 50 + i → i < found → f hi s ≡ f lo s
      inner i e h =
          let n = 32 + i in
          ap (f hi) e ∙ (solves hi).reads i h ∙ product-same n (p.expanded.reads_before n (omega arith) (omega arith)) (sv.inner n (omega arith) (omega arith))
          (set_at n (omega arith)) (λ t l. lower t (omega arith))
          ∙ sym (ap (f lo) e ∙ (solves lo).reads i h)

      rest : 18 ≤ s → (s < 18 + outputs → ⊥) → (50 ≤ s → s < 50 + found → ⊥) → f hi s ≡ f lo s
      rest h u v = (solves hi).rest s h u v ∙ low_same s ne ∙ sym ((solves lo).rest s h u v)

      one_same : f hi s ≡ f lo s
      one_same = cases (ltb s 18)
          (λ e. let h = ltb-true s 18 e in (solves hi).low s h ∙ low_same s ne ∙ sym ((solves lo).low s h))
          (λ e. let h = ltb-false s 18 e in cases (ltb s (18 + outputs))
          (λ e'. let u = ltb-true s (18 + outputs) e' in out (s - 18) (omega arith) (omega arith))
          (λ e'. let u = ltb-false s (18 + outputs) e' in cases (ltb s 50)
          (λ e''. let v = ltb-true s 50 e'' in rest h (λ z. omega arith) (λ z y. omega arith))
          (λ e''. let v = ltb-false s 50 e'' in cases (ltb s (50 + found))
          (λ e'''. let w = ltb-true s (50 + found) e''' in inner (s - 50) (omega arith) (omega arith))
          (λ e'''. let w = ltb-false s (50 + found) e''' in rest h (λ z. omega arith) (λ z y. omega arith)))))

    same : (bound s : ℕ) → s < bound → lane_bit s sv.needed ≡ true → (s ≡ x → ⊥) → f hi s ≡ f lo s
    same zero s l d ne = absurd (omega arith)
    same (suc bound) s l d ne = one_same s (λ t h. same bound t (omega arith)) d ne

    within : x < plan.free
    within = omega arith

    bit_is : (b : Bool) → f (pre ++ b ∷ bs) x ≡ byte b
    unfolding base
    bit_is b = (solves (pre ++ b ∷ bs)).low x (omega (arith, few, within)) ∙ rw (lt-ltb x plan.free within, at-bit pre bs b) refl

    turned : f hi x ≡ bit_xor (f lo x) 1
    turned = bit_is true ∙ ap (λ y. bit_xor y 1) (sym (bit_is false))

    long : (b : Bool) → length (pre ++ b ∷ bs) ≡ plan.free
    long b = length-append pre (b ∷ bs) ∙ sized

    wire_flipped : (i : ℕ) → i < found → at (values_with k set hi) (nth read i) ≡ at (values_with k set lo) (nth read i) ⊕ lane_bit x (nth sums (nth read i))
    wire_flipped i h =
        let m = nth sums (nth read i) in
        byte_flipped (at (values_with k set hi) (nth read i)) (at (values_with k set lo) (nth read i)) (lane_bit x m) (value hi (long true) i h
        ∙ added_flipped 64 x m (f lo) (f hi) (omega (arith, few, within)) (λ s d ne. same (suc s) s (omega arith) (sv.reads i h s d) ne) turned
        ∙ ap (λ y. bit_xor y (byte (lane_bit x m))) (sym (value lo (long false) i h)))

    number_shifted : number_with k set read hi ≡ bit_xor (number_with k set read lo) (shift_in sums read x)
    number_shifted =
        number_placed (at (values_with k set hi)) read
        ∙ number_flipped (λ i. at (values_with k set lo) (nth read i)) (λ i. at (values_with k set hi) (nth read i)) (λ i. lane_bit x (nth sums (nth read i))) (range 0 found)
        (λ i h. wire_flipped i (omega (arith, range_in i 0 found h)))
        ∙ ap (λ n. bit_xor n (shift_in sums read x)) (sym (number_placed (at (values_with k set lo)) read))

  -- all pairs
  module _ {shifts : List ℕ} (sh : ShiftsIn sums read plan.free shifts) where
    abbrev wires : List ℕ
    wires = read

    abbrev varied : ℕ → Bool
    varied i = lane_bit i factors

    all_shifted : Shifted varied (nth shifts) plan.free 0 (number_with k set wires)
    all_shifted = shifted varied (nth shifts) (number_with k set wires) plan.free
        (λ pre bs e linear. number_shifted pre bs e linear ∙ ap (bit_xor (number_with k set wires (pre ++ false ∷ bs))) (sym (sh.are (length pre) (omega arith)))) plan.free 0 [] refl (omega arith)

    counted-all : {tally : List ℕ} → TalliedSome table (set_of table second secrets) wires factors plan.free tally → (n : ℕ) → n < 2 ^ found
        → folded varied (nth shifts) plan.free 0 (nth tally) n ≡ shown_of k set wires n
    counted-all {tally} t n l =
        let ones : List Bool → ℕ = λ bs. cond (eqb (number_with k set wires bs) n) 1 0 in
        fold_same varied (nth shifts) found sh.low plan.free 0 (nth tally) (some varied (nth shifts) plan.free 0 (number_with k set wires))
        (λ m h. t.counts m (omega (arith, pow_mono 8 found p.read_in.few)) ∙ sym (sum-placed (varied_in factors plan.free) (λ bs. cond (eqb (number_with k set wires bs) m) 1 0))) n l
        ∙ sym (fold_all varied (nth shifts) plan.free 0 (number_with k set wires) all_shifted n)
        ∙ ap (λ m. sum_bits m ones) p.planned.free_is ∙ sum-numbers (free_bits k) ones

    pub counted-few : {tally : List ℕ} → TalliedSome table (set_of table second secrets) wires factors plan.free tally → (n : ℕ) → n < 2 ^ found
        → folded varied (nth shifts) plan.free 0 (nth tally) n ≤ 65536
    counted-few {tally} t n l = omega (
      arith,
      counted-all t n l,
      few_ones (2 ^ free_bits k) (λ u. eqb (number_with k set wires (free_of (free_bits k) u)) n),
      pow_mono 16 (free_bits k) (p.countable second).few,
    )

    pub tallied_all : {tally new : List ℕ} → TalliedSome table (set_of table second secrets) wires factors plan.free tally
        → Remade (folded varied (nth shifts) plan.free 0 (nth tally)) (2 ^ found) tally new
        → Tallied table (set_of table second secrets) wires new
    tallied_all {tally} {new} t r =
        record {
          counts = λ n l. r.are n l ∙ counted-all t n l;
          few = λ n. cases (ltb n (2 ^ found))
              (λ e. let l = ltb-true n (2 ^ found) e in omega (arith, r.are n l, counted-few t n l))
              (λ e. omega (arith, r.rest n (ltb-false n (2 ^ found) e), t.few n));
        }
