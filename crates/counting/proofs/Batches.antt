-- All pairs in batches of 128; and the numbers of a table and its plan.
use mathlib.Core.Path.{◌≡◌, sym, ap, ◌∙◌}
use mathlib.Core.List.{List}
use Prim.Native.Nat.{ℕ, ◌+◌, ◌*◌, ◌-◌, ◌^◌, ◌≤◌}
use native.Mathlib.Nat.{mul-le-mul_right}
use native.Mathlib.Omega.{arith}
use lib.ListN.{length}
use lib.Pow.{pow-add}
use Rattle.circuit.specs.Lists.{nth}
use Rattle.circuit.specs.Circuit.{Circuit, empty}
use Rattle.circuit.proofs.Building.{build-shares}
use Rattle.gadgets.specs.Internal.Accepting.{AcceptedTable, circuit_in}
use Rattle.gadgets.proofs.Walking.{second_word}
use Rattle.counting.specs.Counting.{pair_count}
use Rattle.counting.specs.Internal.Pairs.{Divides}
use Rattle.counting.specs.Internal.Tallying.{Countable, Planned}
use Rattle.counting.specs.declared.plan.Plan.{Plan}

pub whole_batches : (free count : ℕ) → 7 ≤ free → count ≡ 2 ^ (free - 7) → Divides free count 128
whole_batches free count h e =
    let f : free ≡ free - 7 + 7 = omega arith in
    record { all = ap (λ n. n * 128) e ∙ sym (ap (λ n. 2 ^ n) f ∙ pow-add 2 (free - 7) 7); some = omega arith; few = omega arith; behind = λ batch l. omega arith }

-- numbers of an accepted table with few free bits
d_is : {table : List ℕ} (a : AcceptedTable table) → (circuit_in table).d ≡ a.d
d_is a = ap (λ (k : Circuit). k.d) a.circuit_is ∙ build-shares (empty a.d) a.fs

pub some-shares : {table : List ℕ} → AcceptedTable table → 1 ≤ (circuit_in table).d
some-shares a = omega (arith, d_is a, a.least)

pub second_is : {table : List ℕ} (a : AcceptedTable table) → nth table 1 ≡ (circuit_in table).d
second_is a = second_word a ∙ sym (d_is a)

pub record Sizes (secrets : List ℕ) (others start free : ℕ) : Type 0 where
  pub some : 1 ≤ others
  pub most : others ≤ 7
  pub within : start ≤ free
  pub few : free ≤ 16
  pub starts : others * length secrets ≡ start
  pub shares : (others + 1) * length secrets ≤ 32

module _ {table secrets : List ℕ} (k : Countable table secrets) {plan : Plan} (p : Planned table plan) where
  abbrev others : ℕ
  others = plan.others

  pub sizes : Sizes secrets plan.others plan.start plan.free
  sizes =
      let some : 1 ≤ others = omega (arith, p.others_are, d_is k.accepted, k.accepted.least) in
      let starts : others * length secrets ≡ plan.start = ap (λ n. others * n) k.sized ∙ sym p.start_is in
      let part : plan.start ≡ ((circuit_in table).d - 1) * (circuit_in table).inputs = p.start_is ∙ ap (λ n. n * (circuit_in table).inputs) p.others_are in
      let few : plan.free ≤ 16 = omega (arith, p.free_is, k.few) in
      let within : plan.start ≤ plan.free = omega (arith, p.free_is) in
      record {
        some = some;
        most = omega (arith, p.others_are, d_is k.accepted, k.accepted.most);
        within = within;
        few = few;
        starts = starts;
        shares = omega (arith, mul-le-mul_right (length secrets) some);
      }

-- the number of pairs
pub pairs-are : {table : List ℕ} {plan : Plan} → Planned table plan → 2 ^ plan.free ≡ pair_count (circuit_in table)
pairs-are p = ap (λ n. 2 ^ n) p.free_is
