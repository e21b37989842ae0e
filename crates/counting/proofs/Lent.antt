-- The shares and random bits that are lent to the expansion, as sums of variables.
use mathlib.Core.Path.{◌≡◌, sym, ap, ap₂, ◌∙◌}
use mathlib.Core.List.{List, [], ◌∷◌, ◌++◌, map}
use Prim.Native.Nat.{ℕ, zero, suc, ◌+◌, ◌*◌, ◌-◌, ◌^◌, ◌≤◌, ◌<◌}
use native.Mathlib.Nat.{mul_comm}
use native.Mathlib.Omega.{arith}
use lib.Bits.{bit_xor, xor_lt}
use lib.ListN.{length, take, drop, replicate, length-drop, length-replicate}
use lib.Pow.{pow-lt}
use lib.Seq.{sets, sets-eq, take_at, length-take-le, get_or-drop}
use Rattle.circuit.specs.Lists.{nth, range}
use Rattle.circuit.specs.Circuit.{size}
use Rattle.circuit.proofs.Base.{In, in_head, in_tail}
use Rattle.circuit.proofs.Parts.{label_lt}
use Rattle.gadgets.specs.Internal.Accepting.{circuit_in}
use Rattle.simulation.specs.Internal.Evaluating.{Evaluable}
use Rattle.counting.specs.declared.plan.Plan.{Plan}
use Rattle.counting.specs.Internal.Words.{shares_of, all_shares}
use Rattle.counting.specs.Internal.Preparing.{secret_sum, secret_sums, SecretSums, free_sums, prepared_shares, prepared_tape}
use Rattle.counting.specs.Internal.Tallying.{Countable, Planned}
use Rattle.counting.proofs.Sharing.{all-length}
use Rattle.counting.proofs.Batches.{Sizes, sizes}
use Rattle.counting.proofs.Preparing.{part, secrets_many}

-- the shares and the random bits are sums of the first 18 variables
abbrev Low : List ℕ → Type 0
Low xs = (i : ℕ) → nth xs i < 2 ^ 18

low-append : (xs ys : List ℕ) → Low xs → Low ys → Low (xs ++ ys)
low-append [] ys h k i = k i
low-append (x ∷ xs) ys h k zero = h zero
low-append (x ∷ xs) ys h k (suc i) = low-append xs ys (λ j. h (suc j)) k i

low-take : (n : ℕ) (xs : List ℕ) → Low xs → Low (take n xs)
low-take zero xs h i = omega arith
low-take (suc n) [] h i = omega arith
low-take (suc n) (x ∷ xs) h zero = h zero
low-take (suc n) (x ∷ xs) h (suc i) = low-take n xs (λ j. h (suc j)) i

low-drop : (n : ℕ) (xs : List ℕ) → Low xs → Low (drop n xs)
low-drop n xs h i = rw (get_or-drop n xs i 0) (h (n + i))

low-shares : (x : ℕ) (ws : List ℕ) → x < 2 ^ 18 → Low ws → Low (shares_of x ws)
unfolding shares_of
low-shares x [] l h zero = l
low-shares x [] l h (suc i) = omega arith
low-shares x (w ∷ ws) l h zero = h zero
low-shares x (w ∷ ws) l h (suc i) = low-shares (bit_xor x w) ws (xor_lt 18 x w l (h zero)) (λ j. h (suc j)) i

low-all : (n : ℕ) (zs ws : List ℕ) → Low zs → Low ws → Low (all_shares n zs ws)
unfolding all_shares
low-all n [] ws h k i = omega arith
low-all n (x ∷ zs) ws h k i = low-append (shares_of x (take n ws)) (all_shares n zs (drop n ws)) (low-shares x (take n ws) (h zero) (low-take n ws k))
    (low-all n zs (drop n ws) (λ j. h (suc j)) (low-drop n ws k)) i

low-map : (g : ℕ → ℕ) (xs : List ℕ) → ((x : ℕ) → In x xs → g x < 2 ^ 18) → Low (map g xs)
low-map g [] h i = omega arith
low-map g (x ∷ xs) h zero = h x (in_head x xs)
low-map g (x ∷ xs) h (suc i) = low-map g xs (λ y k. h y (in_tail y x xs k)) i

low-secret : (x y : ℕ) → secret_sum x y < 2 ^ 18
low-secret zero zero = omega arith
low-secret zero (suc y) = omega arith
low-secret (suc x) zero = omega arith
low-secret (suc x) (suc y) = omega arith

low_free : Low free_sums
low_free = low-map (λ i. 2 ^ i) (range 0 16) (λ i h. let l = label_lt 16 i h in pow-lt {i = i} {j = 18} (omega arith))

pub prepared-low : (plan : Plan) (n : ℕ) (secrets : List ℕ) → Low (prepared_shares plan n secrets) × Low (prepared_tape plan)
prepared-low plan n secrets = (
  low-all plan.others (secret_sums n secrets) free_sums (low-map _ (range 0 n) (λ j h. low-secret (nth secrets j) (nth secrets (n + j)))) low_free,
  low-take (plan.free - plan.start) (drop plan.start free_sums) (low-drop plan.start free_sums low_free),
)

-- a list written at the start of a buffer, lent by itself
lent_is : (list : List ℕ) (n room : ℕ) → length list ≡ n → n ≤ room → take n (sets (replicate room 0) 0 list) ≡ list
lent_is list n room e l =
    ap (take n) (sets-eq list (replicate room 0) 0 (omega (arith, length-replicate {A = ℕ} room 0))) ∙ take_at list (drop (0 + length list) (replicate room 0)) n (omega arith)

pub lasts_many : {secrets lasts : List ℕ} {inputs : ℕ} → SecretSums secrets inputs lasts → length (take inputs lasts) ≡ inputs
lasts_many {secrets} {lasts} {inputs} ls = ap length ls.are ∙ secrets_many inputs secrets

-- the shares and random bits that are lent to the expansion
module _ {table secrets : List ℕ} {inputs : ℕ} {plan : Plan} (k : Countable table (take inputs secrets)) (pl : Planned table plan)
    (inputs_are : inputs ≡ (circuit_in table).inputs) {free lasts shares : List ℕ} (fs : free ≡ free_sums)
    (ls : SecretSums secrets inputs lasts) (sh : shares ≡ sets (replicate 32 0) 0 (all_shares plan.others (take inputs lasts) free)) where
  abbrev sz : Sizes (take inputs secrets) plan.others plan.start plan.free
  sz = sizes k pl

  as_many : length (take inputs secrets) ≡ inputs
  as_many = k.sized ∙ sym inputs_are

  starts : plan.others * inputs ≡ plan.start
  starts = ap (λ n. plan.others * n) (sym as_many) ∙ sz.starts

  list_is : all_shares plan.others (take inputs lasts) free ≡ prepared_shares plan inputs secrets
  list_is = ap₂ (all_shares plan.others) ls.are fs

  many : length (prepared_shares plan inputs secrets) ≡ (plan.others + 1) * inputs
  many = all-length plan.others (secret_sums inputs secrets) free_sums (omega (arith, ap (λ n. plan.others * n) (secrets_many inputs secrets), starts, sz.within, sz.few))
      ∙ ap (λ n. (plan.others + 1) * n) (secrets_many inputs secrets)

  all-few : (plan.others + 1) * inputs ≤ 32
  all-few = omega (arith, ap (λ n. (plan.others + 1) * n) as_many, sz.shares)

  pub sharing_is : take ((plan.others + 1) * inputs) shares ≡ prepared_shares plan inputs secrets
  sharing_is = ap (take ((plan.others + 1) * inputs)) (sh ∙ ap (sets (replicate 32 0) 0) list_is) ∙ lent_is (prepared_shares plan inputs secrets) ((plan.others + 1) * inputs) 32 many all-few

  pub tape_is : part plan.start plan.free free ≡ prepared_tape plan
  tape_is = ap (part plan.start plan.free) fs

  drawn_many : length (prepared_tape plan) ≡ plan.free - plan.start
  drawn_many = length-take-le (plan.free - plan.start) (drop plan.start free_sums) (rw (length-drop plan.start free_sums) (omega (arith, sz.few)))

  pub lent_evaluable : {room : ℕ} → size (circuit_in table) ≤ room → Evaluable table (prepared_shares plan inputs secrets) (prepared_tape plan) room × (length (prepared_tape plan) ≤ 16)
  lent_evaluable room = (
    record {
      accepted = k.accepted;
      shared = many ∙ ap₂ ◌*◌ (let e : plan.others + 1 ≡ (circuit_in table).d = omega (arith, pl.others_are, sz.some) in e) inputs_are ∙ mul_comm (circuit_in table).d (circuit_in table).inputs;
      drawn = drawn_many ∙ omega (arith, pl.free_is, pl.start_is ∙ ap (λ n. n * (circuit_in table).inputs) pl.others_are);
      roomy = room;
    },
    omega (arith, drawn_many, sz.few),
  )
