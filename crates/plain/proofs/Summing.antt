-- A run that fits keeps the sums right: the added shares of every sharing are its plain value, and those of every OUT are its sharing's.
use mathlib.Core.Path.{◌≡◌, refl, sym, ap, ap₂, subst, ◌∙◌}
use mathlib.Core.Bool.{Bool, true, false, ◌&&◌, false≢true}
use mathlib.Core.List.{List, [], ◌∷◌, ◌++◌, map, map-append, append-nil}
use Prim.Native.Nat.{ℕ, ◌+◌, ◌-◌, ◌≤◌, ◌<◌}
use native.Mathlib.Nat.{zero-add}
use native.Mathlib.Omega.{arith}
use lib.ListN.{length, length-append, length-map, get_or-append}
use Rattle.circuit.specs.Lists.{nth, range}
use Rattle.circuit.specs.Gadgets.{labels}
use Rattle.circuit.specs.Kinds.{Kind, HEAD, IN, CON, XOR, NOT, REG, AND, REF, OUT}
use Rattle.circuit.specs.Circuit.{Circuit, size, empty}
use Rattle.circuit.specs.Composition.{Frame, frame, Fits, fit-OUT, AllFit, build}
use Rattle.circuit.proofs.Base.{and_left, and_right, Every, every_append, every_imp}
use Rattle.circuit.proofs.Building.{fit-split}
use Rattle.semantics.specs.Values.{at, xor_sum}
use Rattle.semantics.proofs.Reading.{first_fits}
use Rattle.secrecy.proofs.Totals.{xor_sum_ext, xor_sum-map}
use Rattle.plain.specs.Sharings.{PlainGate, Sharing, Plain, is_sharing, number_of, is_run, fits, joined, further}
use Rattle.plain.specs.Plain.{plain_values, out_rows, added_shares, rows_of}
use Rattle.plain.proofs.Found.{number_lt, number_at}
use Rattle.plain.proofs.Keeping.{alone}
use Rattle.plain.proofs.Added.{sum_places, added_more, plain_more}
use Rattle.plain.proofs.Valued.{outs_more, Given, values, secrets, Adds, in_adds, and-adds, ref_adds, con_adds, xor-adds, not-adds, reg-adds}

-- values that are there stay
at_front : (xs ys : List Bool) (ns : List ℕ) → Every (λ n. n < length xs) ns → map (at (xs ++ ys)) ns ≡ map (at xs) ns
at_front xs ys [] h = refl
at_front xs ys (n ∷ ns) h = ap₂ (λ b bs. b ∷ bs) (get_or-append xs ys false n h.0) (at_front xs ys ns h.1)

-- an OUT that fits has d words, and its row is all of them
out-words : {k : Circuit} {ops : List ℕ} → Fits k OUT ops → length ops ≡ k.d
out-words (fit-OUT ops t len p q) = len

out-row : (f : ℕ → Bool) (d : ℕ) (ops : List ℕ) → length ops ≡ d → xor_sum (map (λ i. nth ops (0 + i)) (labels d)) f ≡ xor_sum ops f
out-row f d ops e = xor_sum-map f (λ i. nth ops (0 + i)) (labels d) ∙ xor_sum_ext _ _ (labels d) (λ i l. ap (λ j. f (nth ops j)) (zero-add i))
    ∙ ap (λ n. xor_sum (labels n) (λ i. f (nth ops i))) (sym e) ∙ sym (sum_places f ops)

-- what holds of the plain circuit p of the frames before a place
pub record Sums (on : Given) (before : List Frame) (p : Plain) : Type 0 where
  pub sound : added_shares (rows_of p) (values on) ≡ plain_values p (secrets on)
  pub bounded : Every (λ n. n < length p.sharings) p.outputs
  pub outs : added_shares (out_rows before) (values on) ≡ map (at (added_shares (rows_of p) (values on))) p.outputs

module _ (on : Given) (before : List Frame) (p : Plain) (h : Sums on before p) where
  open on use {d, fs}

  abbrev k : Circuit
  k = build (empty d) before

  abbrev vs : List Bool
  vs = values on

  -- with a run that makes a sharing
  sums_more : (run : List Frame) {g : PlainGate} → Adds on before p run g
      → Sums on (before ++ run) (record { sharings = p.sharings ++ (record { wires = range (size (build k run) - k.d) k.d; gate = g } ∷ []); outputs = p.outputs })
  sums_more run {g} a =
      let s : Sharing = record { wires = range (size (build k run) - k.d) k.d; gate = g } in
      let start : size (build k run) - k.d ≡ a.start = omega (arith, a.sized) in
      let (front, right) = plain_more p s p.outputs vs (secrets on) h.sound (ap (λ n. xor_sum (range n k.d) (at vs)) start ∙ a.adds) in
      let old : length (added_shares (rows_of p) vs) ≡ length p.sharings = length-map (rows_of p) _ ∙ length-map p.sharings _ in
      record {
        sound = right;
        bounded = every_imp _ _ p.outputs (λ n l. omega (arith, length-append p.sharings (s ∷ []))) h.bounded;
        outs = ap (λ rows. added_shares rows vs) (outs_more before run ∙ ap (λ rows. out_rows before ++ rows) a.outless ∙ append-nil (out_rows before)) ∙ h.outs
            ∙ sym (ap (λ bs. map (at bs) p.outputs) front ∙ at_front (added_shares (rows_of p) vs) _ p.outputs (every_imp _ _ p.outputs (λ n l. omega arith) h.bounded));
      }

  module _ (ops : List ℕ) (rest after : List Frame) where
    abbrev run_of : Kind → List Frame
    run_of kind = frame kind ops ∷ rest

    -- a frame that goes with no other
    lone : (kind : Kind) {g : PlainGate} → length rest ≤ 0 → fs ≡ before ++ (run_of kind ++ after)
        → (fs ≡ before ++ (frame kind ops ∷ after) → Adds on before p (frame kind ops ∷ []) g) → Adds on before p (run_of kind) g
    lone kind l split adds = rw (alone rest l) (adds (split ∙ ap (λ (r : List Frame). before ++ ((frame kind ops ∷ r) ++ after)) (alone rest l)))

    pub sums_next : (kind : Kind) → fs ≡ before ++ (run_of kind ++ after) → length rest ≤ further k.d kind → fits k p (frame kind ops) rest kind ≡ true
        → Sums on (before ++ run_of kind) (joined k p (frame kind ops) rest kind)
    unfolding fits joined
    sums_next HEAD split l e = absurd (false≢true e)
    sums_next IN split l e = sums_more (run_of IN) (lone IN l split (in_adds on before p ops after))
    sums_next CON split l e = sums_more (run_of CON) (con_adds on before p ops rest after (split, and_left _ _ e))
    sums_next XOR split l e =
        let r = is_run k p (frame XOR ops) rest in
        let both = and_left _ _ e in
        sums_more (run_of XOR) (xor-adds on before p ops rest after (split, and_left _ _ both) (and_right r _ both) (and_right (r && _) _ e))
    sums_next NOT split l e = sums_more (run_of NOT) (not-adds on before p ops rest after (split, and_left _ _ e) (and_right (is_run k p (frame NOT ops) rest) _ e))
    sums_next REG split l e = sums_more (run_of REG) (reg-adds on before p ops rest after (split, and_left _ _ e) (and_right (is_run k p (frame REG ops) rest) _ e))
    sums_next AND split l e =
        let is_a = is_sharing (map (λ i. nth ops (1 + i)) (labels k.d)) p.sharings in
        sums_more (run_of AND) (lone AND l split (λ s. and-adds on before p ops after s (and_left _ _ e) (and_right is_a _ e)))
    sums_next REF split l e = sums_more (run_of REF) (lone REF l split (λ s. ref_adds on before p ops after s e))
    sums_next OUT split l e =
        let row = map (λ i. nth ops (0 + i)) (labels k.d) in
        let count = out-words (first_fits (fit-split (empty d) before (run_of OUT ++ after) (subst (AllFit (empty d)) split on.fit)).1) in
        record {
          sound = h.sound;
          bounded = every_append _ p.outputs (number_of row p.sharings ∷ []) h.bounded (number_lt row p.sharings e, tt);
          outs = ap (λ rows. added_shares rows vs) (outs_more before (run_of OUT) ∙ ap (λ (r : List Frame). out_rows before ++ out_rows (frame OUT ops ∷ r)) (alone rest l))
              ∙ added_more (out_rows before) (ops ∷ []) vs
              ∙ ap₂ (λ xs b. xs ++ (b ∷ [])) h.outs (sym (number_at (λ ws. xor_sum ws (at vs)) false row p.sharings e ∙ out-row (at vs) k.d ops count))
              ∙ sym (map-append (at (added_shares (rows_of p) vs)) p.outputs (number_of row p.sharings ∷ []));
        }
