-- The wires of AND that are written: those on the list, one after the other, and the outputs.
use mathlib.Core.Path.{◌≡◌, refl, sym, ap, subst, ◌∙◌}
use mathlib.Core.List.{List}
use Prim.Native.Nat.{ℕ, ◌+◌, ◌*◌, ◌-◌, ◌^◌, ◌≤◌, ◌<◌}
use native.Mathlib.Omega.{arith}
use lib.Bits.{bit_xor, xor_zero_l}
use lib.Dec.{eqb, leb, ltb}
use lib.ListN.{length, set, length-set}
use lib.Seq.{get_or-set_other}
use borrow.Author.Tests.{ltb-true, ltb-false, leb-true, leb-false, eqb-true, eqb-false}
use Rattle.circuit.specs.Lists.{nth, range}
use Rattle.circuit.specs.Gadgets.{others}
use Rattle.circuit.proofs.Base.{cases}
use Rattle.gadgets.specs.Internal.Places.{word_a, word_b, mask_at, cross_start, out_at}
use Rattle.gadgets.proofs.Stored.{nth-set}
use Rattle.simulation.specs.Internal.Filling.{word_sum}
use Rattle.symbolic.specs.declared.gadget.Term.{Term}
use Rattle.symbolic.specs.declared.offsets.Inner.{Inner}
use Rattle.symbolic.specs.declared.offsets.Inner.TheVariants.{R, B, M, U, V, W}
use Rattle.symbolic.specs.Internal.Inside.{inner_at, WireOf}
use Rattle.symbolic.specs.Internal.Terms.{term, product, sum_with, wire_term, inner_term, output_term, term_at, with_term, AndAsks, Inside, read_sums, read_terms, ReadsInside}
use Rattle.symbolic.proofs.Inside.{shares_fit}
use Rattle.symbolic.proofs.Written.{term_parts, term_here, term-other, term-sized}

-- the term of a wire inside AND rests on the sums before it
module _ {d first : ℕ} {ops : List ℕ} {room drawn used : ℕ} (asks : AndAsks d first ops room drawn used) where
  wire_same : (sums sums' tape : List ℕ) (w : Inner) → WireOf d w → ((x : ℕ) → x < first → nth sums' x ≡ nth sums x) → wire_term d ops sums' tape used w ≡ wire_term d ops sums tape used w
  wire_same sums sums' tape (R q) l h = refl
  wire_same sums sums' tape (B i) l h = rw (h _ (asks.early_b i l))
  wire_same sums sums' tape (M i) l h = rw (h _ (asks.early_a i l), h _ (asks.early_b i l))
  wire_same sums sums' tape (U i j) l h = rw (h _ (asks.early_a i l.0))
  wire_same sums sums' tape (V i j) l h = rw (h _ (asks.early_b j l.1))
  wire_same sums sums' tape (W i j) l h = rw (h _ (asks.early_a i l.0), h _ (asks.early_b j l.1))

  pub inner-same : (sums sums' tape : List ℕ) (o : ℕ) → o < cross_start d d → ((x : ℕ) → x < first → nth sums' x ≡ nth sums x) → inner_term d ops sums' tape used o ≡ inner_term d ops sums tape used o
  inner-same sums sums' tape o l h = wire_same sums sums' tape (inner_at d o) (shares_fit d o asks.two l) h

-- wires on the list: one more
module _ {d first : ℕ} {ops tape : List ℕ} {used : ℕ} {read sums terms sums' terms' : List ℕ} {i : ℕ} (r : ReadsInside d first ops tape used read i sums terms sums' terms') where
  pub reads_end : {found : ℕ} → i ≡ found → ReadsInside d first ops tape used read found sums terms sums' terms'
  reads_end e = rw (← e) r

  -- one that is not inside
  reads_past : (Inside d first (nth read i) → ⊥) → ReadsInside d first ops tape used read (i + 1) sums terms sums' terms'
  reads_past out = record {
    term_is = λ j l z. r.term_is j (before j l z) z;
    sum_is = λ j l z. let (k, m, e, f) = r.sum_is j (before j l z) z in (k, omega arith, e, f);
    term_kept = λ n h. r.term_kept n (λ j l. h j (omega arith));
    sum_kept = r.sum_kept;
    sums_sized = r.sums_sized;
    terms_sized = r.terms_sized;
  }
    where
      before : (j : ℕ) → j < i + 1 → Inside d first (nth read j) → j < i
      before j l z = let apart : j ≡ i → ⊥ = λ e. out (subst (λ (n : ℕ). Inside d first (nth read n)) e z) in omega arith

  -- one that is
  reads_here : (t : Term) → Inside d first (nth read i) → nth read i < length sums → 2 * (32 + i) + 2 ≤ length terms → t ≡ inner_term d ops sums tape used (nth read i - first)
      → ReadsInside d first ops tape used read (i + 1) sums terms (set sums' (nth read i) (sum_with (50 + i) t)) (with_term terms' (32 + i) t)
  reads_here t inside room space is = record {
    term_is = λ j l z. cases (eqb j i)
        (λ e. let same = eqb-true j i e in rw same (term_here terms' (32 + i) t (omega (arith, r.terms_sized)) ∙ ap product is))
        (λ e. term-other terms' (32 + i) t (32 + j) (λ y. eqb-false j i e (omega arith)) ∙ r.term_is j (omega (arith, eqb-false j i e)) z);
    sum_is = λ j l z. nth-set sums' (nth read i) (sum_with (50 + i) t) (nth read j) (omega (arith, r.sums_sized))
        (λ same y. (i, omega arith, sym same, y ∙ ap (sum_with (50 + i)) (is ∙ ap (λ x. inner_term d ops sums tape used (x - first)) (sym same))))
        (λ apart y. let (k, m, e, f) = r.sum_is j (before j l apart) z in (k, omega arith, e, y ∙ f));
    term_kept = λ n h. term-other terms' (32 + i) t n (λ z. h i (omega arith) z inside) ∙ r.term_kept n (λ j l. h j (omega arith));
    sum_kept = λ x h. get_or-set_other sums' (nth read i) x (sum_with (50 + i) t) 0 (λ z. h (rw z inside)) ∙ r.sum_kept x h;
    sums_sized = length-set sums' (nth read i) (sum_with (50 + i) t) ∙ r.sums_sized;
    terms_sized = term-sized terms' (32 + i) t ∙ r.terms_sized;
  }
    where
      before : (j : ℕ) → j < i + 1 → (nth read j ≡ nth read i → ⊥) → j < i
      before j l z = let apart : j ≡ i → ⊥ = λ e. z (ap (nth read) e) in omega arith

  pub reads-next : {room drawn : ℕ} → AndAsks d first ops room drawn used → nth read i < length sums → 2 * (32 + i) + 2 ≤ length terms
      → ReadsInside d first ops tape used read (i + 1) sums terms (read_sums d first ops sums' tape used (nth read i) i) (read_terms d first ops sums' tape used (nth read i) i terms')
  reads-next asks room space = cases (ltb (nth read i) first)
      (λ e. let h = ltb-true (nth read i) first e in rw e (reads_past (λ z. omega arith)))
      (λ e. let h = ltb-false (nth read i) first e in cases (leb (cross_start d d) (nth read i - first))
      (λ f. let k = leb-true (cross_start d d) (nth read i - first) f in rw (e, f) (reads_past (λ z. omega arith)))
      (λ f. let k = leb-false (cross_start d d) (nth read i - first) f in
      rw (e, f) (reads_here _ (omega arith, omega arith) room space (inner-same asks sums sums' tape (nth read i - first) k (λ x l. r.sum_kept x (λ z. omega arith))))))

-- the outputs, up to a share
module _ (d first : ℕ) (ops tape : List ℕ) (used outputs : ℕ) (sums terms : List ℕ) where
  pub record OutputsTo (sums' terms' : List ℕ) (i : ℕ) : Type 0 where
    pub term_is : (j : ℕ) → j < i → term_at terms' (outputs + j) ≡ product (output_term d ops sums tape used j)
    pub sum_is : (j : ℕ) → j < i → nth sums' (out_at d first j) ≡ sum_with (18 + outputs + j) (output_term d ops sums tape used j)
    pub term_kept : (n : ℕ) → (outputs ≤ n → n < outputs + i → ⊥) → term_at terms' n ≡ term_at terms n
    pub sum_kept : (x : ℕ) → (x < out_at d first 0) → nth sums' x ≡ nth sums x
    pub sums_sized : length sums' ≡ length sums
    pub terms_sized : length terms' ≡ length terms

module _ {d first : ℕ} {ops tape : List ℕ} {used outputs : ℕ} {sums terms sums' terms' : List ℕ} {i : ℕ} (r : OutputsTo d first ops tape used outputs sums terms sums' terms' i) where
  -- one share more
  pub outputs-next : (w row masks p e : ℕ) → out_at d first i < length sums → 2 * (outputs + i) + 2 ≤ length terms → w < first
      → (w ≡ word_a ops i) × (row ≡ word_sum (range 0 d) (λ j. nth sums (word_b d ops j))) × (masks ≡ bit_xor 0 (word_sum (others d i) (λ j. nth tape (mask_at d used i j))))
      × (p ≡ out_at d first i) × (e ≡ bit_xor (2 ^ (18 + outputs + i)) masks)
      → OutputsTo d first ops tape used outputs sums terms (set sums' p e) (with_term terms' (outputs + i) (term (nth sums' w) row masks)) (i + 1)
  outputs-next w row masks p e room space early (wire, all, drawn, at, var) = record {
    term_is = λ j l. cases (eqb j i)
        (λ f. let same = eqb-true j i f in rw same (term_here terms' (outputs + i) t (omega (arith, r.terms_sized)) ∙ ap product is))
        (λ f. term-other terms' (outputs + i) t (outputs + j) (λ y. eqb-false j i f (omega arith)) ∙ r.term_is j (omega (arith, eqb-false j i f)));
    sum_is = λ j l. nth-set sums' p e (out_at d first j) (omega (arith, r.sums_sized))
        (λ same y. let e' : i ≡ j = omega arith in y ∙ var ∙ ap (sum_with (18 + outputs + i)) is ∙ ap (λ n. sum_with (18 + outputs + n) (output_term d ops sums tape used n)) e')
        (λ apart y. y ∙ r.sum_is j (omega arith));
    term_kept = λ n h. term-other terms' (outputs + i) t n (λ z. h (omega arith) (omega arith)) ∙ r.term_kept n (λ l u. h l (omega arith));
    sum_kept = λ x h. get_or-set_other sums' p x e 0 (λ z. omega arith) ∙ r.sum_kept x h;
    sums_sized = length-set sums' p e ∙ r.sums_sized;
    terms_sized = term-sized terms' (outputs + i) t ∙ r.terms_sized;
  }
    where
      t : Term
      t = term (nth sums' w) row masks

      is : t ≡ output_term d ops sums tape used i
      is = term_parts (r.sum_kept w (omega arith) ∙ ap (nth sums) wire) all (drawn ∙ xor_zero_l (word_sum (others d i) (λ j. nth tape (mask_at d used i j))))
