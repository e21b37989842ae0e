-- Document 02: all sharings and tapes counted. What the list of counts holds, rules 24 and 25, and two laws of the counts.
use Rattle.std.specs.Prelude.{◌≡◌, Bool, true, false, cond, List, [], ◌∷◌, ◌++◌, map, ℕ, zero, suc, ◌+◌, ◌*◌, ◌/◌, ◌^◌, ◌<◌, leb, eqb, length, take, drop, Result, Ok, Err}
use Rattle.circuit.specs.Limits.{wire_limit}
use Rattle.circuit.specs.Lists.{mem, range, filter, concat_map}
use Rattle.circuit.specs.Circuit.{Circuit}
use Rattle.circuit.specs.Rules.{Judgement, pass, refuse, need, ◌then◌, checked}
use Rattle.semantics.specs.Values.{bits, byte, at}
use Rattle.semantics.specs.Probes.{stops}
use Rattle.semantics.specs.Calls.{bytes_rule, probes_rule, circuit_of, written}
use Rattle.semantics.specs.Counts.{free_bits, count_distinct, pairs_for}
use Rattle.circuit.specs.Refusals.{number_of}
use Rattle.circuit.specs.declared.rules.Refusal.{Refusal}
use Rattle.counting.specs.declared.Counted.{Counted}

-- all combinations of so many bits, in rising order, the first bit the highest
abbrev pub combinations : ℕ → List (List Bool)
combinations zero = [] ∷ []
combinations (suc n) = map (λ bs. false ∷ bs) (combinations n) ++ map (λ bs. true ∷ bs) (combinations n)

-- the part of all pairs per thousand, halves rounded up
abbrev pub per_thousand : (count pairs : ℕ) → ℕ
per_thousand count pairs = (2000 * count + pairs) / (2 * pairs)

-- a sheet of the wires on a list: those that are read show the values in order, the others 2
unfoldable pub showing : (is_read : ℕ → Bool) (wires : List ℕ) (values : List Bool) → List ℕ
showing is_read [] values = []
showing is_read (x ∷ xs) values = cond (is_read x) (byte (at values 0) ∷ showing is_read xs (drop 1 values)) (2 ∷ showing is_read xs values)

-- the number of pairs of a sharing of given secret bits and a tape
abbrev pub pair_count : Circuit → ℕ
pair_count k = 2 ^ free_bits k

module _ (k : Circuit) (probes : List ℕ) where
  -- the wires that the probes read, the lowest first
  abbrev pub is_read : ℕ → Bool
  is_read x = mem x (stops k.wires probes)

  unfoldable pub read_wires : List ℕ
  read_wires = filter is_read (range 0 wire_limit)

  -- how often the read wires have these values under a set of secret bits: the count of demand 3
  unfoldable pub count_of : (secrets values : List Bool) → ℕ
  count_of secrets values = pairs_for k probes secrets (showing is_read (range 0 wire_limit) values)

  -- the four numbers of a combination, and those of all
  abbrev pub numbers_of : (one other values : List Bool) → List ℕ
  numbers_of one other values =
      let a = count_of one values in
      let b = count_of other values in
      a ∷ b ∷ per_thousand a (pair_count k) ∷ per_thousand b (pair_count k) ∷ []

  unfoldable pub count_list : (one other : List Bool) → List ℕ
  count_list one other = concat_map (combinations (length read_wires)) (numbers_of one other)

-- accepted: the numbers of wires read, of combinations and of pairs; refused: the rule's number, the frame and the word
pub data CountAnswer : Type 0 where
  accepted : (read combinations pairs : ℕ) → CountAnswer
  refused : (rule frame word : ℕ) → CountAnswer

-- what the code's answer says
abbrev pub count_answer_of : Result Counted Refusal → CountAnswer
count_answer_of (Ok c) = accepted c.read c.combinations c.pairs
count_answer_of (Err r) = refused (number_of r.rule) r.frame r.word

-- a call with notes of these words, both sets of secret bits in one list, and a sheet of counts
module _ (table notes secrets probes counts : List ℕ) where
  abbrev k : Circuit
  k = circuit_of table notes

  -- its judgement: the checker's; 15, two bytes an IN; 17, 1,024 numbers; 18; 19; 24, too many free bits; 25, too many wires read
  unfoldable pub count_rule : Judgement
  count_rule = (checked table (length notes)).judgement
      then need (eqb (length secrets) (2 * k.inputs)) 15 0 0
      then need (leb 1024 (length counts)) 17 0 0
      then bytes_rule 0 secrets
      then probes_rule k 0 probes
      then need (leb (free_bits k) 16) 24 0 0
      then need (leb (length (read_wires k probes)) 8) 25 0 0

  -- its answer
  abbrev pub answer_to : Judgement → CountAnswer
  answer_to pass = let n = length (read_wires k probes) in accepted n (2 ^ n) (pair_count k)
  answer_to (refuse rule frame word) = refused rule frame word

  abbrev pub count_answer : CountAnswer
  count_answer = answer_to count_rule

  -- the sheet after it
  abbrev pub counts_after : List ℕ
  counts_after = written count_rule (count_list k probes (bits (take k.inputs secrets)) (bits (drop k.inputs secrets))) counts

-- the counts of one set of secret bits, combination by combination
abbrev pub column : (k : Circuit) (probes : List ℕ) (secrets : List Bool) → List ℕ
column k probes secrets = map (count_of k probes secrets) (combinations (length (read_wires k probes)))

abbrev pub total : List ℕ → ℕ
total [] = 0
total (n ∷ ns) = n + total ns

-- they add up to the number of pairs
abbrev pub AddUp : Circuit → (probes : List ℕ) → Type 0
AddUp k probes = (secrets : List Bool) → length secrets ≡ k.inputs → total (column k probes secrets) ≡ pair_count k

-- where fewer than d different wires are probed, the counts of any two sets are the same
abbrev pub SameColumns : Circuit → (probes : List ℕ) → Type 0
SameColumns k probes = count_distinct probes < k.d → (one other : List Bool) → length one ≡ k.inputs → length other ≡ k.inputs
    → column k probes one ≡ column k probes other
