-- The statement on share indices: a few share indices decide how often a reading arises.
use Rattle.std.specs.Prelude.{◌≡◌, Bool, true, cond, List, ◌++◌, ℕ, ◌+◌, ◌*◌, ◌≤◌, ◌<◌, eqb, length}
use Rattle.circuit.specs.Lists.{mem}
use Rattle.circuit.specs.Wires.{named}
use Rattle.circuit.specs.Circuit.{Circuit, place}
use Rattle.semantics.specs.Values.{bits, at, values_of}
use Rattle.semantics.specs.Probes.{stops, sheet}
use Rattle.semantics.specs.Counts.{sum_over, alike, count_distinct}

-- the number of tapes from which a reading arises, where the shares are given, and the wires `besides` are read beside what
-- the probes read
unfoldable pub tapes_for : Circuit → (probes besides : List ℕ) (shares : List Bool) (reading : List ℕ) → ℕ
tapes_for k probes besides shares reading = sum_over k.randoms (λ tape.
    cond (alike eqb (sheet (stops k.wires probes ++ besides) (values_of k.wires shares (bits tape))) reading) 1 0)

-- two share lists that agree at these share indices: of every IN, the shares that have them as labels
abbrev pub AgreeAt : (d : ℕ) (indices : List ℕ) (one other : List Bool) → Type 0
AgreeAt d indices one other = (n i : ℕ) → i < d → mem i indices ≡ true → at one (n * d + i) ≡ at other (n * d + i)

-- a named wire whose label is on a list
pub record NamedIn (k : Circuit) (labels : List ℕ) (x : ℕ) : Type 0 where
  pub label : ℕ
  pub stage : ℕ
  pub is : place k x ≡ named label stage
  pub listed : mem label labels ≡ true

-- share indices that decide: those to start from, and at most one more for each probed wire. Share lists that agree at them
-- give each reading of the probes, and of any wires named with labels to start from, from equally many tapes
pub record Deciding (k : Circuit) (probes start : List ℕ) : Type 0 where
  pub indices : List ℕ
  pub from : (i : ℕ) → mem i start ≡ true → mem i indices ≡ true
  pub few : length indices ≤ length start + count_distinct probes
  pub decide : (besides : List ℕ) → ((x : ℕ) → mem x besides ≡ true → NamedIn k start x)
      → (one other : List Bool) → AgreeAt k.d indices one other
      → (reading : List ℕ) → tapes_for k probes besides one reading ≡ tapes_for k probes besides other reading
