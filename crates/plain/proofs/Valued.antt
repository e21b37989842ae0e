-- What a run of frames adds to a circuit's sharings has, on all shares and tapes, the value of its plain gate: kind by kind.
use mathlib.Core.Path.{◌≡◌, refl, sym, ap, ap₂, subst, ◌∙◌}
use mathlib.Core.Bool.{Bool, true, false, cond, ◌&&◌}
use mathlib.Core.List.{List, [], ◌∷◌, ◌++◌, map}
use Prim.Native.Nat.{ℕ, ◌+◌, ◌*◌, ◌≤◌, ◌<◌}
use native.Mathlib.Nat.{zero-add}
use native.Mathlib.Omega.{arith}
use lib.ListN.{length, get_or, take, drop, length-append, length-map}
use lib.Seq.{get_or-append-add}
use Rattle.circuit.specs.Limits.{fewest_shares}
use Rattle.circuit.specs.Lists.{◌⊕◌, nth, range}
use Rattle.circuit.specs.Wires.{Wire}
use Rattle.circuit.specs.Gadgets.{Part, labels, in_and, in_ref}
use Rattle.circuit.specs.Kinds.{Kind, IN, CON, XOR, NOT, REG, AND, REF, OUT, kinds_agree, shape}
use Rattle.circuit.specs.Circuit.{Circuit, size, empty, wire_at, is_set, new_stage, made}
use Rattle.circuit.specs.Composition.{Frame, frame, AllFit, build}
use Rattle.circuit.proofs.Base.{no_flip, Every, concat_map-append}
use Rattle.circuit.proofs.Parts.{label_lt}
use Rattle.circuit.proofs.Sizes.{and-size, ref_size}
use Rattle.circuit.proofs.Building.{Lawful, build_more, build-append, build-shares, fit-split, size-extend, wire_kept}
use Rattle.semantics.specs.Values.{at, xor_sum, value, values_of}
use Rattle.semantics.specs.Counts.{parity, secrets_of}
use Rattle.semantics.proofs.Randoms.{randoms_in}
use Rattle.semantics.proofs.Earlier.{EarlyIn, build-early}
use Rattle.semantics.proofs.Solving.{nothing, solved}
use Rattle.secrecy.proofs.Totals.{xor_sum_ext, xor_sum-xor, xor_sum-map}
use Rattle.secrecy.proofs.Products.{product-of, refresh_of}
use Rattle.gadgets.proofs.Framing.{inputs_more}
use Rattle.plain.specs.Sharings.{PlainGate, secret, constant, same, inverse, sum, product, Plain, is_sharing, number_of, odd, is_run}
use Rattle.plain.specs.Plain.{plain_value, out_rows, added_shares, rows_of}
use Rattle.plain.proofs.Found.{range-map-at, number_at}
use Rattle.plain.proofs.Runs.{Single, one-CON, one-XOR, one-NOT, one-REG, gate_by, Run, run-shown, run-size, run-wire, column-at}
use Rattle.plain.proofs.Added.{sum_row, sum_places, sum-odd, flips, parity-sum, secret-at}

-- the rows of OUTs among frames and further frames; frames of one wire each have none
pub outs_more : (fs gs : List Frame) → out_rows (fs ++ gs) ≡ out_rows fs ++ out_rows gs
outs_more fs gs = concat_map-append fs gs (λ f. elim (kinds_agree OUT f.kind) [ yes _ ↦ f.ops ∷ [] | no _ ↦ [] ])

one_out : {kind : Kind} → Single kind → (ops : List ℕ) → out_rows (frame kind ops ∷ []) ≡ []
one_out one-CON ops = refl
one_out one-XOR ops = refl
one_out one-NOT ops = refl
one_out one-REG ops = refl

no_outs : {kind : Kind} → Single kind → (fs : List Frame) → Every (λ f. f.kind ≡ kind) fs → out_rows fs ≡ []
no_outs s [] h = refl
no_outs s (f ∷ fs) h = outs_more (f ∷ []) fs ∙ ap₂ (λ x y. x ++ y) (ap (λ kind. out_rows (frame kind f.ops ∷ [])) h.0 ∙ one_out s f.ops) (no_outs s fs h.1)

-- frames that fit, with shares and a tape
pub record Given : Type 0 where
  pub d : ℕ
  pub fs : List Frame
  pub least : fewest_shares ≤ d
  pub fit : AllFit (empty d) fs
  pub shares : List Bool
  pub tape : List Bool

module _ (on : Given) where
  open on use {d, fs, shares, tape}

  abbrev pub whole : Circuit
  whole = build (empty d) fs

  abbrev pub values : List Bool
  values = values_of whole.wires shares tape

  abbrev pub secrets : List Bool
  secrets = secrets_of whole.d whole.inputs shares

  abbrev f : ℕ → Bool
  f = at values

  -- the tape from a wire on
  abbrev tape_at : ℕ → List Bool
  tape_at x = drop (randoms_in (take x whole.wires)) tape

  ordered : Lawful EarlyIn whole
  ordered = build-early d fs on.least on.fit

  -- behind other frames, whose plain circuit is p
  module _ (before : List Frame) (p : Plain) where
    abbrev k : Circuit
    k = build (empty d) before

    -- the added shares of the sharings so far; that of wires that are one of them
    abbrev pub sums : List Bool
    sums = added_shares (rows_of p) values

    abbrev IsOne : List ℕ → Type 0
    IsOne ws = is_sharing ws p.sharings ≡ true

    abbrev number : List ℕ → ℕ
    number ws = number_of ws p.sharings

    known : (ws : List ℕ) → IsOne ws → xor_sum ws f ≡ at sums (number ws)
    known ws h = sym (number_at (λ ws. xor_sum ws f) false ws p.sharings h)

    -- a run has no OUT, and its last d wires, added, are the value of a plain gate from those added shares
    pub record Adds (run : List Frame) (g : PlainGate) : Type 0 where
      pub start : ℕ
      pub sized : size (build k run) ≡ start + k.d
      pub adds : xor_sum (range start k.d) f ≡ plain_value g (at sums) secrets
      pub outless : out_rows run ≡ []

    module _ (run after : List Frame) (split : fs ≡ before ++ (run ++ after)) where
      whole_is : whole ≡ build (build k run) after
      whole_is = ap (build (empty d)) split ∙ build-append (empty d) before (run ++ after) ∙ build-append k run after

      -- a wire of the circuit so far has the value of its gate
      wire-value : (x : ℕ) {w : Wire} → x < size (build k run) → wire_at (build k run) x ≡ w → f x ≡ value w.gate f shares (tape_at x)
      wire-value x {w} l e =
          let (more, m) = build_more (build k run) after in
          let big : x < size whole = omega (arith, ap size whole_is, ap length m, length-append (build k run).wires more) in
          let here : wire_at whole x ≡ w = ap (λ c. wire_at c x) whole_is ∙ wire_kept (build k run) after x l ∙ e in
          solved shares whole.wires tape ordered x big ∙ ap (λ w. value w.gate f shares (tape_at x)) here

    -- IN, AND and REF, each alone; the rows of a gadget
    module _ (ops : List ℕ) (after : List Frame) where
      abbrev row : ℕ → List ℕ
      row from = map (λ i. nth ops (from + i)) (labels k.d)

      pub in_adds : fs ≡ before ++ (frame IN ops ∷ after) → Adds (frame IN ops ∷ []) (secret k.inputs)
      unfolding made new_stage shape
      in_adds split =
          let run = frame IN ops ∷ [] in
          let m = k.inputs in
          let late : m < whole.inputs = omega (arith, inputs_more (build k run) after, ap (λ (c : Circuit). c.inputs) (whole_is run after split)) in
          let same-shares : k.d ≡ whole.d = build-shares (empty d) before ∙ sym (build-shares (empty d) fs) in
          record {
            start = size k;
            sized = size-extend k ops IN;
            adds = sum_row f (size k) k.d
                ∙ xor_sum_ext _ _ (labels k.d) (λ i h. wire-value run after split (size k + i) (omega (arith, label_lt k.d i h, size-extend k ops IN))
                (get_or-append-add k.wires (made k ops IN) i nothing ∙ range-map-at _ 0 k.d i nothing (label_lt k.d i h)))
                ∙ xor_sum_ext _ _ (labels k.d) (λ i h. ap (λ j. at shares (m * k.d + j)) (zero-add i))
                ∙ ap (λ n. xor_sum (labels n) (λ i. at shares (m * n + i))) same-shares ∙ sym (secret-at whole.d whole.inputs shares m late);
            outless = refl;
          }

      gadget-adds : {kind : Kind} {g : PlainGate} (inside : List Part) → out_rows (frame kind ops ∷ []) ≡ [] → length inside + k.d ≡ (shape k.d kind).wires
          → xor_sum (map (λ i. size k + length inside + i) (labels k.d)) f ≡ plain_value g (at sums) secrets → Adds (frame kind ops ∷ []) g
      gadget-adds {kind} inside none sized e =
          let start = size k + length inside in
          record {
            start = start;
            sized = size-extend k ops kind ∙ omega arith;
            adds = sum_row f start k.d ∙ sym (xor_sum-map f (λ i. start + i) (labels k.d)) ∙ e;
            outless = none;
          }

      pub and-adds : fs ≡ before ++ (frame AND ops ∷ after) → IsOne (row 1) → IsOne (row (1 + k.d))
          → Adds (frame AND ops ∷ []) (product (number (row 1)) (number (row (1 + k.d))))
      unfolding shape
      and-adds split is_a is_b = gadget-adds (in_and k.d) refl (and-size k.d)
          (rw (build-shares (empty d) before) (product-of d fs before after ops shares tape ordered split) ∙ ap₂ (λ x y. x && y) (known (row 1) is_a) (known (row (1 + k.d)) is_b))

      pub ref_adds : fs ≡ before ++ (frame REF ops ∷ after) → IsOne (row 1) → Adds (frame REF ops ∷ []) (same (number (row 1)))
      unfolding shape
      ref_adds split is_a = gadget-adds (in_ref k.d) refl (ref_size k.d)
          (rw (build-shares (empty d) before) (refresh_of d fs before after ops shares tape ordered split) ∙ known (row 1) is_a)

    -- frames of one wire each: their words, frame by frame, and a column of them
    module _ (ops : List ℕ) (rest after : List Frame) where
      abbrev run_of : Kind → List Frame
      run_of kind = frame kind ops ∷ rest

      abbrev word : Kind → ℕ → ℕ → ℕ
      word kind place i = nth (get_or (run_of kind) i (frame kind ops)).ops place

      abbrev column : Kind → ℕ → List ℕ
      column kind place = map (λ f. nth f.ops place) (run_of kind)

      module _ {kind : Kind} (s : Single kind) (split : fs ≡ before ++ (run_of kind ++ after)) (is : is_run k p (frame kind ops) rest ≡ true) where
        r : Run k (run_of kind) kind
        r = run-shown k p (frame kind ops) rest is

        fit-run : AllFit k (run_of kind)
        fit-run = (fit-split k (run_of kind) after (fit-split (empty d) before (run_of kind ++ after) (subst (AllFit (empty d)) split on.fit)).1).0

        column-sum : (v : ℕ → Bool) (place : ℕ) → xor_sum (labels k.d) (λ i. v (word kind place i)) ≡ xor_sum (column kind place) v
        column-sum v place = sym (sum_places v (column kind place)
            ∙ ap (λ n. xor_sum (labels n) (λ i. v (nth (column kind place) i))) (length-map (run_of kind) (λ f. nth f.ops place) ∙ r.count)
            ∙ xor_sum_ext _ _ (labels k.d) (λ i h. ap v (column-at k (frame kind ops) rest s r fit-run place i (label_lt k.d i h))))

        column-known : (place : ℕ) → IsOne (column kind place) → xor_sum (labels k.d) (λ i. f (word kind place i)) ≡ at sums (number (column kind place))
        column-known place h = column-sum f place ∙ known (column kind place) h

        -- the wires, added, are the values of their gates, added
        run-adds : (g : PlainGate) → xor_sum (labels k.d) (λ i. value (gate_by s (get_or (run_of kind) i (frame kind ops)).ops) f shares (tape_at (size k + i)))
            ≡ plain_value g (at sums) secrets → Adds (run_of kind) g
        run-adds g e = record {
          start = size k;
          sized = run-size k (run_of kind) s r.kinds ∙ ap (λ n. size k + n) r.count;
          adds = sum_row f (size k) k.d ∙ xor_sum_ext _ _ (labels k.d) (λ i h.
              let l = label_lt k.d i h in
              let there : size k + i < size (build k (run_of kind)) = omega (arith, run-size k (run_of kind) s r.kinds, r.count) in
              wire-value (run_of kind) after split (size k + i) there (run-wire k (frame kind ops) rest s r fit-run i l)) ∙ e;
          outless = no_outs s (run_of kind) r.kinds;
        }

      -- kind by kind
      abbrev pub IsRun : Kind → Type 0
      IsRun kind = (fs ≡ before ++ (run_of kind ++ after)) × (is_run k p (frame kind ops) rest ≡ true)

      pub con_adds : IsRun CON → Adds (run_of CON) (constant (parity (map is_set (column CON 1))))
      con_adds (split, is) = run-adds one-CON split is _ (column-sum one-CON split is is_set 1 ∙ sym (parity-sum is_set (column CON 1)))

      pub xor-adds : IsRun XOR → IsOne (column XOR 0) → IsOne (column XOR 1) → Adds (run_of XOR) (sum (number (column XOR 0)) (number (column XOR 1)))
      xor-adds (split, is) h g = run-adds one-XOR split is _ (xor_sum_ext _ _ (labels k.d) (λ i l. ap (λ z. f (word XOR 0 i) ⊕ z) (no_flip (f (word XOR 1 i))))
          ∙ xor_sum-xor (λ i. f (word XOR 0 i)) (λ i. f (word XOR 1 i)) (labels k.d) ∙ ap₂ (λ x y. x ⊕ y) (column-known one-XOR split is 0 h) (column-known one-XOR split is 1 g))

      pub not-adds : IsRun NOT → IsOne (column NOT 0) → Adds (run_of NOT) (cond (odd k.d) (inverse (number (column NOT 0))) (same (number (column NOT 0))))
      not-adds (split, is) h = run-adds one-NOT split is _ (xor_sum-xor (λ i. true) (λ i. f (word NOT 0 i)) (labels k.d)
          ∙ ap₂ (λ x y. x ⊕ y) (sum-odd 0 k.d) (column-known one-NOT split is 0 h) ∙ sym (flips k.d (number (column NOT 0)) (at sums) secrets))

      pub reg-adds : IsRun REG → IsOne (column REG 0) → Adds (run_of REG) (same (number (column REG 0)))
      reg-adds (split, is) h = run-adds one-REG split is _ (column-known one-REG split is 0 h)
