-- Share lists that agree at the share indices taken give a reading from equally many tapes.
use mathlib.Core.Path.{◌≡◌, refl, sym, ap, subst, fun_ext, ◌∙◌}
use mathlib.Core.Bool.{Bool, true, false, cond, false≢true}
use mathlib.Core.List.{List, [], ◌++◌, map}
use Prim.Native.Nat.{ℕ, ◌+◌, ◌≤◌}
use native.Mathlib.Omega.{arith}
use native.Mathlib.Decide.{dec_lt}
use lib.ListN.{length, length-map, get_or-eq_default}
use lib.Dec.{eqb}
use Rattle.circuit.specs.Limits.{wire_limit}
use Rattle.circuit.specs.Lists.{mem, concat_map, range}
use Rattle.circuit.specs.Wires.{constant, inner, Wire, ◌placed◌}
use Rattle.circuit.specs.Circuit.{empty}
use Rattle.circuit.specs.Composition.{Frame, build, AllFit}
use Rattle.circuit.proofs.Base.{cases, In, Sub, in_append, in_each, AllFrom, all_zip, all_unmap}
use Rattle.circuit.proofs.Numbered.{all_get}
use Rattle.semantics.specs.Counts.{alike, count_distinct}
use Rattle.semantics.specs.Values.{at, byte, values_of}
use Rattle.semantics.specs.Probes.{reads, read_by, stops_from, stops, sheet}
use Rattle.secrecy.specs.Deciding.{AgreeAt, NamedIn, tapes_for}
use Rattle.secrecy.proofs.Sums.{sum_bits, overwrite-bits}
use Rattle.secrecy.proofs.Whole.{front, steps, steps_wires, roles, front_sub, front_length, decided, Sure, Seen, static}
use Rattle.semantics.proofs.Randoms.{randoms_in, build-randoms}
use Rattle.semantics.proofs.Stops.{stops-length, stops_settled}
use Rattle.secrecy.proofs.Taken.{count_different}
use Rattle.secrecy.proofs.Coupled.{Step, wire_of, Run, couple, Low, Decided, EarlyStep, Settled, settled}
use Rattle.secrecy.proofs.Same.{Two, Same}
use Rattle.secrecy.proofs.Frames.{held}

-- a sheet is decided by the values of the wires that are read
sheet-same : (read : List ℕ) (g g' : List Bool) → ((x : ℕ) → In x read → at g x ≡ at g' x) → sheet read g ≡ sheet read g'
unfolding sheet
sheet-same read g g' h =
    let same : (x : ℕ) → cond (mem x read) (byte (at g x)) 2 ≡ cond (mem x read) (byte (at g' x)) 2 = λ x. cases (mem x read) (λ e. rw e (ap byte (h x e))) (λ e. rw e) in
    ap (λ f. map f (range 0 wire_limit)) (fun_ext same)

-- frames, probes, and the share indices to start from
module _ (d : ℕ) (fs : List Frame) (probes start : List ℕ) where
  abbrev is_probed : ℕ → Bool
  is_probed x = mem x probes

  -- the share indices that decide
  unfoldable pub indices : List ℕ
  indices = front is_probed start (empty d) fs

  pub indices_sub : Sub start indices
  unfolding indices
  indices_sub = front_sub is_probed start (empty d) fs

  pub indices-length : length indices ≤ length start + count_distinct probes
  unfolding indices
  indices-length = omega (arith, front_length is_probed start (empty d) fs, count_different probes 0 (roles is_probed start (empty d) fs))

  -- the steps of all wires, the wires, and what a probe on each reads
  abbrev ss : List Step
  ss = steps is_probed start (empty d) fs

  abbrev ws : List Wire
  ws = map wire_of ss

  abbrev read_at : ℕ → List ℕ
  read_at = read_by (stops_from [] ws)

  module _ (fit : AllFit (empty d) fs) (ordered : AllFrom (λ x w. Low x w.gate) 0 (build (empty d) fs).wires) (besides : List ℕ) (shown : (x : ℕ) → In x besides → NamedIn (build (empty d) fs) start x)
      (sh sh' : List Bool) (same : AgreeAt d indices sh sh') where
    -- the two evaluations, once all values are known
    abbrev two : List Bool → List Bool → Two
    two g g' = record { sh = sh; sh' = sh'; f = at g; f' = at g'; stops = read_at }

    -- at the end of a walk, what is known of every wire
    sure : (g g' : List Bool) → Run sh sh' ss [] [] g g' → AllFrom (Sure is_probed start (two g g') indices) 0 ss
    sure g g' r =
        let low : AllFrom (λ x w. Low x w.gate) 0 ws = rw (steps_wires is_probed start (empty d) fs) at ordered in
        let early = all_zip (λ x s. Low x s.wire.gate) (λ x s. Decided x s.shift) EarlyStep (λ x s l q. record { low = l; decided = q }) 0 ss
        (all_unmap (λ x w. Low x w.gate) wire_of 0 ss low) (decided is_probed start fit) in
        all_zip (Settled sh sh' g g') (λ x s. read_at x ≡ reads x s.wire.gate read_at) (Sure is_probed start (two g g') indices) (λ x s b q. record { bits = b; reading = q }) 0 ss
        (settled sh sh' ss [] [] g g' refl early r) (all_unmap (λ x w. read_at x ≡ reads x w.gate read_at) wire_of 0 ss (stops_settled [] ws low))

    -- every wire that is read has one value in both evaluations
    alike-reads : (g g' : List Bool) → Run sh sh' ss [] [] g g' → (x : ℕ) → In x (stops ws probes ++ besides) → at g x ≡ at g' x
    unfolding indices stops
    alike-reads g g' r x h =
        let none : Step = record { wire = constant false placed inner 0; shift = λ f f'. false } in
        let (a, b) = static is_probed start (two g g') indices fit same (λ i q. q) tt (sure g g' r) in
        in_append x (concat_map probes read_at) besides h
        (λ q. in_each x read_at probes q (λ p i k. elim (dec_lt p (length ss)) [
          | yes l ↦ (subst (λ (y : ℕ). is_probed y ≡ true → Same (two g g') y) (omega arith) (all_get (Seen is_probed start (two g g') indices) 0 ss none a p l) i).stopped x k
          | no l ↦ (let e : read_at p ≡ [] = get_or-eq_default (stops_from [] ws) [] (omega (arith, stops-length [] ws, length-map ss wire_of)) in absurd (false≢true (rw e at k)))
        ]))
        (λ q. let n = shown x q in (held is_probed start (build (empty d) fs) (two g g') start b x n.label n.stage n.is n.listed).valued)

    -- so equally many tapes give a reading
    pub equal_tapes : (reading : List ℕ) → tapes_for (build (empty d) fs) probes besides sh reading ≡ tapes_for (build (empty d) fs) probes besides sh' reading
    unfolding tapes_for
    equal_tapes reading =
        let k = build (empty d) fs in
        let F : List Bool → ℕ = λ g. cond (alike eqb (sheet (stops ws probes ++ besides) g) reading) 1 0 in
        let G : List Bool → List Bool → ℕ = λ shares tape. cond (alike eqb (sheet (stops k.wires probes ++ besides) (values_of k.wires shares tape)) reading) 1 0 in
        let e : k.wires ≡ ws = steps_wires is_probed start (empty d) fs in
        let z = couple sh sh' F F ss [] [] (λ g g' r. ap (λ l. cond (alike eqb l reading) 1 0) (sheet-same (stops ws probes ++ besides) g g' (alike-reads g g' r))) in
        overwrite-bits k.randoms (G sh)
        ∙ rw (← build-randoms (empty d) fs refl) (subst (λ (us : List Wire). sum_bits (randoms_in us) (λ t. cond (alike eqb (sheet (stops us probes ++ besides) (values_of us sh t)) reading) 1 0)
        ≡ sum_bits (randoms_in us) (λ t. cond (alike eqb (sheet (stops us probes ++ besides) (values_of us sh' t)) reading) 1 0)) (sym e) z)
        ∙ sym (overwrite-bits k.randoms (G sh'))
