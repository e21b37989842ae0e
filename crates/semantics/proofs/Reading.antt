-- What probes read: a stop itself, another wire what its operands read, an AND's output its registers; a probe list counts as a set.
use mathlib.Core.Path.{◌≡◌, refl, sym, ap, ap₂, subst, ◌∙◌, fun_ext}
use mathlib.Core.Bool.{Bool, true, false, cond, false≢true}
use mathlib.Core.List.{List, [], ◌∷◌, ◌++◌, map}
use Prim.Native.Nat.{ℕ, zero, suc, ◌+◌, ◌≤◌, ◌<◌}
use native.Mathlib.Omega.{arith}
use lib.Dec.{eqb}
use lib.ListN.{length, get_or, replicate, length-append}
use borrow.Author.Tests.{eqb-true}
use Rattle.circuit.specs.Limits.{wire_limit, fewest_shares}
use Rattle.circuit.specs.Lists.{nth, mem, range, concat_map}
use Rattle.circuit.specs.Wires.{Gate, constant, sum, inner, Wire, ◌placed◌, is_stop}
use Rattle.circuit.specs.Gadgets.{Part, M, U, W, c, others, gate, in_and, index}
use Rattle.circuit.specs.Kinds.{AND}
use Rattle.circuit.specs.Circuit.{Circuit, size, empty, made, extend}
use Rattle.circuit.proofs.Base.{cases, or_cases, or_left, In, in_tail, in_append, in_each, Sub, Every, AllFrom, all_append}
use Rattle.circuit.proofs.Numbered.{all_get}
use Rattle.circuit.proofs.Parts.{index_lt, output_every, InAND, is_M, is_U, is_W, and_has}
use Rattle.circuit.proofs.Sizes.{gadget-size}
use Rattle.circuit.specs.Composition.{Frame, Fits, AllFit, next, build}
use Rattle.circuit.proofs.Building.{Lawful, build_more, build-append, build-shares, fit-split, part_at, output-at}
use Rattle.semantics.specs.Values.{at, byte, values_of}
use Rattle.semantics.specs.Probes.{operands, reads, read_by, stops_from, stops, sheet, reading_of}
use Rattle.semantics.proofs.Stops.{found_kept, stops-append, stops-length, stops_settled}
use Rattle.semantics.proofs.Earlier.{OperandsBefore, EarlyIn, early_new, build-early}

-- two tests that pass together
pub same_test : (a b : Bool) → (a ≡ true → b ≡ true) → (b ≡ true → a ≡ true) → a ≡ b
same_test true b f g = sym (f refl)
same_test false b f g = cases b (λ e. g e ∙ sym e) (λ e. sym e)

-- being on a list
in_left : (s : ℕ) (xs ys : List ℕ) → In s xs → In s (xs ++ ys)
in_left s [] ys h = absurd (false≢true h)
in_left s (x ∷ xs) ys h = or_cases (eqb s x) (mem s xs) h (λ e. or_left (eqb s x) _ e) (λ e. in_tail s x (xs ++ ys) (in_left s xs ys e))

in_right : (s : ℕ) (xs ys : List ℕ) → In s ys → In s (xs ++ ys)
in_right s [] ys h = h
in_right s (x ∷ xs) ys h = in_tail s x (xs ++ ys) (in_right s xs ys h)

pub concat_map_in : (s : ℕ) (f : ℕ → List ℕ) (xs : List ℕ) (y : ℕ) → In y xs → In s (f y) → In s (concat_map xs f)
concat_map_in s f [] y h g = absurd (false≢true h)
concat_map_in s f (x ∷ xs) y h g = or_cases (eqb y x) (mem y xs) h
    (λ e. in_left s (f x) (concat_map xs f) (subst (λ (n : ℕ). In s (f n)) (eqb-true y x e) g))
    (λ e. in_right s (f x) (concat_map xs f) (concat_map_in s f xs y e g))

mem_twice : (s : ℕ) (xs : List ℕ) → mem s (xs ++ (xs ++ [])) ≡ mem s xs
mem_twice s xs = same_test _ _ (λ h. in_append s xs (xs ++ []) h (λ z. z) (λ z. in_append s xs [] z (λ y. y) (λ y. absurd (false≢true y)))) (λ h. in_left s xs (xs ++ []) h)

-- what a probe on wire n reads
abbrev pub probe : List Wire → ℕ → List ℕ
probe ws n = read_by (stops_from [] ws) n

-- later wires change nothing
pub probe_kept : (ws more : List Wire) (n : ℕ) → n < length ws → probe (ws ++ more) n ≡ probe ws n
probe_kept ws more n l = ap (λ found. read_by found n) (stops-append [] ws more) ∙ found_kept (stops_from [] ws) more n (omega (arith, stops-length [] ws))

-- wires whose gates take earlier wires only
module _ (ws : List Wire) (early : AllFrom (λ x wire. OperandsBefore x wire.gate) 0 ws) (z : Wire) where
  abbrev gate_at : ℕ → Gate
  gate_at n = (get_or ws n z).gate

  pub probe_reads : (n : ℕ) → n < length ws → probe ws n ≡ reads n (gate_at n) (probe ws)
  probe_reads n l = subst (λ (m : ℕ). probe ws m ≡ reads m (gate_at n) (probe ws)) (omega arith)
      (all_get (λ x wire. probe ws x ≡ reads x wire.gate (probe ws)) 0 ws z (stops_settled [] ws early) n l)

  -- a probe on a stop reads that wire alone
  pub stop_reads : (n : ℕ) → n < length ws → is_stop (gate_at n) ≡ true → probe ws n ≡ n ∷ []
  stop_reads n l h = probe_reads n l ∙ ap (λ b. cond b (n ∷ []) (concat_map (operands (gate_at n)) (probe ws))) h

  -- a probe on another wire reads what probes on its operands read
  pub gate-reads : (n : ℕ) → n < length ws → is_stop (gate_at n) ≡ false → probe ws n ≡ concat_map (operands (gate_at n)) (probe ws)
  gate-reads n l h = probe_reads n l ∙ ap (λ b. cond b (n ∷ []) (concat_map (operands (gate_at n)) (probe ws))) h

  -- the sum of a wire with itself still reads that wire's stops
  pub twice_reads : (n x s : ℕ) → n < length ws → gate_at n ≡ sum (x ∷ x ∷ []) → mem s (probe ws n) ≡ mem s (probe ws x)
  twice_reads n x s l h = ap (mem s) (gate-reads n l (ap is_stop h) ∙ ap (λ g. concat_map (operands g) (probe ws)) h) ∙ mem_twice s (probe ws x)

-- wires that read themselves alone
selves : (f : ℕ → List ℕ) (xs : List ℕ) → Every (λ y. f y ≡ y ∷ []) xs → concat_map xs f ≡ xs
selves f [] h = refl
selves f (x ∷ xs) h = ap₂ (λ a b. a ++ b) h.0 (selves f xs h.1)

-- AND: the wire of a part, the wires made before the gadget being `first` many; and M(i), all U(i,j) and all W(i,j)
abbrev pub part_wire : (d first : ℕ) → Part → ℕ
part_wire d first p = first + index p (in_and d)

abbrev pub output_stops : (d first i : ℕ) → List ℕ
output_stops d first i = part_wire d first (M i) ∷ (map (λ j. part_wire d first (U i j)) (others d i) ++ map (λ j. part_wire d first (W i j)) (others d i))

module _ (k : Circuit) (ops : List ℕ) (early : Lawful EarlyIn k) (fits : Fits k AND ops) where
  open k use {d}

  abbrev wire : Part → ℕ
  wire = part_wire d (size k)

  abbrev gate_in : Part → Gate
  gate_in = gate d (λ i. nth ops (1 + i)) (λ i. nth ops (1 + d + i)) wire

  abbrev behind : List Wire
  behind = (extend k ops AND).wires

  abbrev nothing : Wire
  nothing = constant false placed inner 0

  early-behind : AllFrom (λ x wire. OperandsBefore x wire.gate) 0 behind
  early-behind = all_append (EarlyIn k) 0 k.wires (made k ops AND) early
      (subst (λ (n : ℕ). AllFrom (EarlyIn k) n (made k ops AND)) (omega arith) (early_new k ops AND fits))

  behind-size : length behind ≡ size k + (length (in_and d) + d)
  unfolding made
  behind-size = length-append k.wires (made k ops AND) ∙ ap (λ (n : ℕ). size k + n) (gadget-size _ _ _ _ _ _ _ _)

  part_gate : {p : Part} → InAND d p → (get_or behind (wire p) nothing).gate ≡ gate_in p
  unfolding made
  part_gate {p} o = ap (λ x. x.gate) (part_at k.wires d (λ i. nth ops (1 + i)) (λ i. nth ops (1 + d + i)) (in_and d) c _ _ nothing p (and_has d o))

  output-gate : (i : ℕ) → i < d → (get_or behind (size k + length (in_and d) + i) nothing).gate ≡ gate_in (c i)
  unfolding made
  output-gate i l = ap (λ x. x.gate) (output-at k.wires d (λ i. nth ops (1 + i)) (λ i. nth ops (1 + d + i)) (in_and d) c _ _ nothing i l)

  register_reads : {p : Part} → InAND d p → is_stop (gate_in p) ≡ true → probe behind (wire p) ≡ wire p ∷ []
  register_reads {p} o h = stop_reads behind early-behind nothing (wire p) (omega (arith, behind-size, index_lt (in_and d) p (and_has d o))) (ap is_stop (part_gate o) ∙ h)

  and-reads : (i : ℕ) → i < d → probe behind (size k + length (in_and d) + i) ≡ output_stops d (size k) i
  and-reads i l =
      let e = output-gate i l in
      gate-reads behind early-behind nothing (size k + length (in_and d) + i) (omega (arith, behind-size)) (ap is_stop e)
      ∙ ap (λ g. concat_map (operands g) (probe behind)) e
      ∙ selves (probe behind) (output_stops d (size k) i) (output_every (λ y. probe behind y ≡ y ∷ []) wire l
      (register_reads (is_M i l) refl) (λ j o. register_reads (is_U i j o) refl) (λ j o. register_reads (is_W i j o) refl))

  -- whatever frames come after it
  later-reads : (fs : List Frame) (i : ℕ) → i < d → probe (build (extend k ops AND) fs).wires (size k + length (in_and d) + i) ≡ output_stops d (size k) i
  later-reads fs i l =
      let (more, e) = build_more (extend k ops AND) fs in
      ap (λ ws. probe ws (size k + length (in_and d) + i)) e
      ∙ probe_kept behind more (size k + length (in_and d) + i) (omega (arith, behind-size)) ∙ and-reads i l

pub first_fits : {k : Circuit} {f : Frame} {fs : List Frame} → AllFit k (f ∷ fs) → Fits k f.kind f.ops
first_fits (next fits few more) = fits

-- a probe on an AND's output c(i) reads M(i), all U(i,j) and all W(i,j), each once, and nothing else
pub output-reads : (d : ℕ) (before after : List Frame) (ops : List ℕ) → fewest_shares ≤ d → AllFit (empty d) (before ++ record { kind = AND; ops = ops } ∷ after)
    → (i : ℕ) → i < d → probe (build (empty d) (before ++ record { kind = AND; ops = ops } ∷ after)).wires (size (build (empty d) before) + length (in_and d) + i)
    ≡ output_stops d (size (build (empty d) before)) i
output-reads d before after ops ge fit i l =
    let k = build (empty d) before in
    let and : Frame = record { kind = AND; ops = ops } in
    let shares = build-shares (empty d) before in
    let (p, q) = fit-split (empty d) before (and ∷ after) fit in
    ap (λ z. probe z.wires (size k + length (in_and d) + i)) (build-append (empty d) before (and ∷ after))
    ∙ subst (λ (n : ℕ). probe (build (extend k ops AND) after).wires (size k + length (in_and n) + i) ≡ output_stops n (size k) i) shares
    (later-reads k ops (build-early d before ge p) (first_fits q) after i (omega arith))

-- only the set of the probed wires counts: neither their order, nor how often one is probed
sheet-same : (read other : List ℕ) (values : List Bool) → ((x : ℕ) → mem x read ≡ mem x other) → sheet read values ≡ sheet other values
unfolding sheet
sheet-same read other values h = ap (λ f. map f (range 0 wire_limit)) (fun_ext (λ x. ap (λ b. cond b (byte (at values x)) 2) (h x)))

stops_sub : (ws : List Wire) (probes other : List ℕ) → Sub probes other → Sub (stops ws probes) (stops ws other)
unfolding stops
stops_sub ws probes other h s i = in_each s (probe ws) probes i (λ y p q. concat_map_in s (probe ws) other y (h y p) q)

pub same_probes : (ws : List Wire) (probes other : List ℕ) (shares tape : List Bool) → ((p : ℕ) → mem p probes ≡ mem p other)
    → reading_of ws probes shares tape ≡ reading_of ws other shares tape
same_probes ws probes other shares tape h = sheet-same (stops ws probes) (stops ws other) (values_of ws shares tape)
    (λ x. same_test _ _ (stops_sub ws probes other (λ p i. sym (h p) ∙ i) x) (stops_sub ws other probes (λ p i. h p ∙ i) x))

-- no probes give 8,192 times 2
all_two : (n q : ℕ) → map {B = ℕ} (λ (x : ℕ). 2) (range n q) ≡ replicate q 2
all_two n zero = refl
all_two n (suc q) = ap (λ l. 2 ∷ l) (all_two (suc n) q)

pub no_probes : (ws : List Wire) (shares tape : List Bool) → reading_of ws [] shares tape ≡ replicate wire_limit 2
unfolding stops sheet
no_probes ws shares tape = all_two 0 wire_limit
