-- Shares and random bits as sums of variables: the free bits are the variables below 16; the next is 1 under the second set of secret
-- bits, and the one behind it is 1.
use Rattle.std.specs.Prelude.{◌≡◌, cond, List, map, ℕ, ◌+◌, ◌*◌, ◌-◌, ◌%◌, ◌^◌, ◌<◌, leb, length, take, drop}
use Rattle.circuit.specs.Lists.{nth, range}
use Rattle.circuit.specs.Circuit.{is_set}
use Rattle.counting.specs.declared.plan.Plan.{Plan}
use Rattle.semantics.specs.Values.{at}
use Rattle.simulation.specs.Internal.Evaluating.{packed}
use Rattle.counting.specs.Internal.Pairs.{placed}
use Rattle.counting.specs.Internal.Words.{ones, all_shares}
use Rattle.counting.specs.Internal.Linear.{varied_in}

-- a secret bit, from its values in both sets
abbrev pub secret_sum : (one other : ℕ) → ℕ
secret_sum x y = cond (is_set x) (cond (is_set y) 0x20000 0x30000) (cond (is_set y) 0x10000 0)

abbrev pub secret_sums : (inputs : ℕ) (secrets : List ℕ) → List ℕ
secret_sums n secrets = map (λ j. secret_sum (nth secrets j) (nth secrets (n + j))) (range 0 n)

pub record SecretSums (secrets : List ℕ) (inputs : ℕ) (sums : List ℕ) : Type 0 where
  pub are : take inputs sums ≡ secret_sums inputs secrets
  pub sized : length sums ≡ 16

-- the free bits
abbrev pub free_sums : List ℕ
free_sums = map (λ i. 2 ^ i) (range 0 16)

abbrev pub FreeSums : List ℕ → Type 0
FreeSums sums = sums ≡ free_sums

-- the shares and the random bits
abbrev pub prepared_shares : Plan → (inputs : ℕ) (secrets : List ℕ) → List ℕ
prepared_shares plan n secrets = all_shares plan.others (secret_sums n secrets) free_sums

abbrev pub prepared_tape : Plan → List ℕ
prepared_tape plan = take (plan.free - plan.start) (drop plan.start free_sums)

-- the word of a free bit in 64 of the pairs that are gone through
abbrev pub placed_word : (factors free i number : ℕ) → ℕ
placed_word factors free i number = packed 64 (λ l. at (placed (varied_in factors free) (64 * number + l)) i)

-- four words for each of these variables, in the pairs of a batch: two for the first set, and two for the second
pub record FreeFilled (factors free batch : ℕ) (words : List ℕ) : Type 0 where
  pub are : (i w : ℕ) → i < free → w < 4 → nth words (4 * i + w) ≡ placed_word factors free i (2 * batch + w % 2)
  pub sized : length words ≡ 256

pub record Variables (factors free batch : ℕ) (words : List ℕ) : Type 0 where
  pub free_are : (i w : ℕ) → i < free → w < 4 → nth words (4 * i + w) ≡ placed_word factors free i (2 * batch + w % 2)
  pub set : (w : ℕ) → w < 4 → nth words (64 + w) ≡ cond (leb 2 w) ones 0
  pub one : (w : ℕ) → w < 4 → nth words (68 + w) ≡ ones
  pub sized : length words ≡ 256
