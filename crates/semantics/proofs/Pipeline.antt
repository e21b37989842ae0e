-- The pipeline law, wire by wire: a register shows what its operand showed one clock before and stands one stage later; every other gate
-- stands at the stage of the wires that it takes; and a share or a random bit of a set is the one that is fed on the clock of its stage.
use mathlib.Core.Path.{◌≡◌, refl, sym, ap, subst, ◌∙◌}
use mathlib.Core.Bool.{Bool, true, false, cond}
use mathlib.Core.List.{List, [], ◌∷◌, ◌++◌, map}
use Prim.Native.Nat.{ℕ, zero, suc, ◌+◌, ◌≤◌, ◌<◌}
use native.Mathlib.Nat.{zero-add}
use native.Mathlib.Omega.{arith}
use lib.ListN.{length, get_or, take, drop, get_or-append, get_or-map}
use lib.Seq.{get_or-drop}
use Rattle.circuit.specs.Limits.{fewest_shares}
use Rattle.circuit.specs.Lists.{nth, range, overwrite}
use Rattle.circuit.specs.Wires.{Gate, input, constant, random, reg, inverse, sum, product, and_not, named, Wire}
use Rattle.circuit.specs.Kinds.{OUT}
use Rattle.circuit.specs.Circuit.{Circuit, size, empty, place, is_set, stage_of, new_stage}
use Rattle.circuit.specs.Composition.{Frame, frame, Fits, fit-OUT, AllFit, build}
use Rattle.circuit.proofs.Base.{Every, every_of, every_in, every_imp, below_more}
use Rattle.circuit.proofs.Numbered.{all_get, at_all}
use Rattle.circuit.proofs.Sizes.{labels-map}
use Rattle.circuit.proofs.Building.{named-made, row_first, build-append, build-shares, fit-split, wire_kept}
use Rattle.circuit.proofs.Exact.{sound}
use Rattle.semantics.specs.Values.{bits, byte, at, value, is_random, values_of}
use Rattle.semantics.specs.Probes.{operands}
use Rattle.semantics.specs.Calls.{Accepts, circuit_of}
use Rattle.semantics.specs.Clock.{is_register, is_input, held_bytes, bank_on, values_on, stages_where, set_bits, OnTime, Pipelined}
use Rattle.semantics.proofs.Randoms.{randoms_in, build-randoms}
use Rattle.semantics.proofs.Earlier.{build-early, earlier}
use Rattle.semantics.proofs.Solving.{nothing, gate_at, OrderedFrom, value_same, solved}
use Rattle.semantics.proofs.Stages.{clocks, stage_in, follows}
use Rattle.semantics.proofs.Reading.{first_fits}
use Rattle.semantics.proofs.Clocked.{with_bank-length, with_bank-at, clock_solved}
use Rattle.semantics.proofs.Listed.{count_where, randoms-count, listed_at, listed_lt, listed-length}
use Rattle.semantics.proofs.Inputs.{input-count, input-number}

-- a bit of a set is the one that is fed in its place on the clock of the set and its stage
set_at : (stages : List ℕ) (feed : ℕ → List ℕ) (set i : ℕ) → i < length stages → at (set_bits stages feed set) i ≡ at (bits (feed (set + nth stages i))) i
set_at stages feed set i l =
    let bit : ℕ → Bool = λ j. at (bits (feed (set + nth stages j))) j in
    simp zero-add at (all_get (λ j b. b ≡ bit j) 0 (map bit (range 0 (length stages))) false (at_all (λ j b. b ≡ bit j) bit 0 0 (length stages) (λ j h. refl)) i (rw labels-map l))

-- so is the bit of a wire whose gate passes the test, in the place that is their count before it
fed : (ws : List Wire) (test : Gate → Bool) (feed : ℕ → List ℕ) (set x : ℕ) {n : ℕ} → x < length ws → test (gate_at ws x) ≡ true → count_where test (take x ws) ≡ n
    → at (bits (feed (set + stage_of (get_or ws x nothing).place))) n ≡ at (set_bits (stages_where test ws) feed set) n
fed ws test feed set x l h e =
    let stage : Wire → ℕ = λ w. stage_of w.place in
    rw (← e, ← listed_at test stage ws x 0 l h) (sym (set_at (stages_where test ws) feed set _ (listed_lt test stage ws x l h)))

-- behind a clock, a register's bit of the bank is what its operand showed
module _ (ws : List Wire) (shares tapes : ℕ → List ℕ) (start : List ℕ) where
  held : (clock x y : ℕ) → x < length ws → gate_at ws x ≡ reg y → at (bits (bank_on ws shares tapes start (suc clock))) x ≡ at (values_on ws shares tapes start clock) y
  unfolding bank_on
  held clock x y l e =
      let bank = bank_on ws shares tapes start clock in
      let values = values_on ws shares tapes start clock in
      let new = held_bytes ws values bank in
      get_or-map is_set (overwrite new bank) x 0
      ∙ ap is_set (get_or-append new (drop (length new) bank) 0 x (rw with_bank-length l) ∙ with_bank-at 0 (λ w b. cond (is_register w.gate) (byte (value w.gate (at values) [] [])) b) ws bank x 0 l)
      ∙ rw e (set-byte (at values y))
    where
      set-byte : (b : Bool) → is_set (byte b) ≡ b
      set-byte true = refl
      set-byte false = refl

-- a wire keeps its place when frames are added, and an OUT that fits names wires at its stage
place_kept : (k : Circuit) (more : List Frame) (x : ℕ) → x < size k → place (build k more) x ≡ place k x
place_kept k more x l = ap (λ w. w.place) (wire_kept k more x l)

out-place : (k : Circuit) (ops : List ℕ) → fewest_shares ≤ k.d → Fits k OUT ops → (i : ℕ) → i < k.d → (t : ℕ) × (place k (nth ops i) ≡ named i t) × (new_stage k ops OUT ≡ t)
unfolding new_stage
out-place k _ ge (fit-OUT ops t len p q) i l = (t, subst (λ (n : ℕ). place k (nth ops n) ≡ named i t) (omega arith) (p i l), row_first k ops 0 t ge p)

-- a circuit of frames that fit
module _ (d : ℕ) (fs : List Frame) (least : fewest_shares ≤ d) (fit : AllFit (empty d) fs) where
  abbrev k : Circuit
  k = build (empty d) fs

  abbrev ws : List Wire
  ws = k.wires

  ordered : OrderedFrom 0 ws
  ordered = build-early d fs least fit

  -- run from a bank on, and one set of what it is fed
  module _ (shares tapes : ℕ → List ℕ) (start : List ℕ) (set : ℕ) where
    -- what the wires show on a clock, and what the single evaluation gives
    abbrev shown : ℕ → ℕ → Bool
    shown clock = at (values_on ws shares tapes start clock)

    abbrev set_shares : List Bool
    set_shares = set_bits (stages_where is_input ws) shares set

    abbrev set_tape : List Bool
    set_tape = set_bits (stages_where is_random ws) tapes set

    abbrev given : ℕ → Bool
    given = at (values_of ws set_shares set_tape)

    abbrev Timely : ℕ → Type 0
    Timely x = x < size k → shown (set + stage_in k x) x ≡ given x

    -- a wire, all before it being on time; its clock, and the random bits before it
    module _ (x : ℕ) (before : (y : ℕ) → y < x → Timely y) (l : x < size k) where
      abbrev clock : ℕ
      clock = set + stage_in k x

      abbrev drawn : ℕ
      drawn = randoms_in (take x ws)

      -- the wires that its gate takes
      taken : (g : Gate) → gate_at ws x ≡ g → Every (λ y. (stage_in k x ≡ clocks g + stage_in k y) × (shown (set + stage_in k y) y ≡ given y)) (operands g)
      taken g e = every_of _ (operands g) (λ y i.
          let low : y < x = every_in (λ y. y < x) (operands g) (rw e at (earlier d fs least fit x l)) y i in
          (every_in (λ y. stage_in k x ≡ clocks g + stage_in k y) (operands g) (rw e at (follows d fs least fit x l)) y i, before y low (omega arith)))

      -- it is on time where its gate gives the same on this clock as in the single evaluation
      by_value : (g : Gate) → gate_at ws x ≡ g
          → cond (is_register g) (at (bits (bank_on ws shares tapes start clock)) x) (value g (shown clock) (bits (shares clock)) (drop drawn (bits (tapes clock))))
          ≡ value g given set_shares (drop drawn set_tape) → shown clock x ≡ given x
      by_value g e same = (rw e at (clock_solved ws (bits (bank_on ws shares tapes start clock)) (bits (shares clock)) (bits (tapes clock)) ordered x l)) ∙ same
          ∙ sym (rw e at (solved set_shares ws set_tape ordered x l))

      register : (y : ℕ) → gate_at ws x ≡ reg y → shown clock x ≡ given x
      register y e =
          let h = (taken (reg y) e).0 in
          let next : clock ≡ suc (set + stage_in k y) = omega (arith, h.0) in
          by_value (reg y) e (ap (λ c. at (bits (bank_on ws shares tapes start c)) x) next ∙ held ws shares tapes start (set + stage_in k y) x y l e ∙ h.1)

      -- any other gate, what it is fed on this clock being the set's
      other : (g : Gate) → gate_at ws x ≡ g → is_register g ≡ false → clocks g ≡ 0
          → ((f : ℕ → Bool) → value g f (bits (shares clock)) (drop drawn (bits (tapes clock))) ≡ value g f set_shares (drop drawn set_tape)) → shown clock x ≡ given x
      other g e plain none right = by_value g e (rw plain (right (shown clock)
          ∙ value_same g (shown clock) given set_shares (drop drawn set_tape) (every_imp _ _ (operands g) (λ y h.
          let now : clock ≡ set + stage_in k y = omega arith in ap (λ c. shown c y) now ∙ h.1) (taken g e))))

      by_gate : (g : Gate) → gate_at ws x ≡ g → shown clock x ≡ given x
      by_gate (input n) e = other (input n) e refl refl (λ f. fed ws is_input shares set x l (rw e) (input-number d fs x l e))
      by_gate (constant b) e = other (constant b) e refl refl (λ f. refl)
      by_gate random e = other random e refl refl (λ f. get_or-drop drawn (bits (tapes clock)) 0 false
          ∙ fed ws is_random tapes set x l (rw e) (omega (arith, randoms-count (take x ws))) ∙ sym (get_or-drop drawn set_tape 0 false))
      by_gate (reg y) e = register y e
      by_gate (inverse y) e = other (inverse y) e refl refl (λ f. refl)
      by_gate (sum ys) e = other (sum ys) e refl refl (λ f. refl)
      by_gate (product y z) e = other (product y z) e refl refl (λ f. refl)
      by_gate (and_not y z) e = other (and_not y z) e refl refl (λ f. refl)

    timely : (n x : ℕ) → x < n → Timely x
    timely zero x h = absurd (omega arith)
    timely (suc n) x h = below_more n (timely n) (λ l. by_gate n (timely n) l (gate_at ws n) refl) x (omega arith)

  on_time : (x : ℕ) → x < size k → OnTime k x (stage_in k x)
  on_time x l shares tapes start set = timely shares tapes start set (suc x) x (omega arith) l

  -- an OUT names wires at its stage
  outputs-on_time : (before after : List Frame) (ops : List ℕ) → fs ≡ before ++ (frame OUT ops ∷ after)
      → (i : ℕ) → i < d → OnTime k (nth ops i) (new_stage (build (empty d) before) ops OUT)
  outputs-on_time before after ops e i l =
      let k₀ = build (empty d) before in
      let x = nth ops i in
      let same : k₀.d ≡ d = build-shares (empty d) before in
      let fits : Fits k₀ OUT ops = first_fits (fit-split (empty d) before (frame OUT ops ∷ after) (subst (AllFit (empty d)) e fit)).1 in
      let (t, there, stage) = out-place k₀ ops (omega arith) fits i (omega arith) in
      let whole : k ≡ build k₀ (frame OUT ops ∷ after) = ap (build (empty d)) e ∙ build-append (empty d) before (frame OUT ops ∷ after) in
      let here : place k x ≡ named i t = ap (λ z. place z x) whole ∙ place_kept k₀ (frame OUT ops ∷ after) x (named-made k₀ x i t there) ∙ there in
      subst (OnTime k x) (ap stage_of here ∙ sym stage) (on_time x (named-made k x i t here))

pub pipelined : (table notes : List ℕ) → Accepts table notes → Pipelined table (circuit_of table notes)
pipelined table notes h =
    let a = sound table (length notes) h in
    let ws = (build (empty a.d) a.fs).wires in
    rw a.circuit_is (record {
      d = a.d;
      fs = a.fs;
      table_is = a.table_is;
      fit = a.fit;
      built = refl;
      shares_full = listed-length is_input (λ w. stage_of w.place) ws ∙ input-count a.d a.fs;
      tape_full = listed-length is_random (λ w. stage_of w.place) ws ∙ sym (randoms-count ws) ∙ build-randoms (empty a.d) a.fs refl;
      wires = on_time a.d a.fs a.least a.fit;
      outputs = outputs-on_time a.d a.fs a.least a.fit;
    })
