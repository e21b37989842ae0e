-- Rules 18 and 19, byte by byte and probe by probe.
use mathlib.Core.Path.{◌≡◌, refl, sym, ap, subst, ◌∙◌}
use mathlib.Core.Bool.{Bool}
use mathlib.Core.List.{List, [], ◌∷◌}
use Prim.Native.Nat.{ℕ, suc, ◌+◌, ◌≤◌, ◌<◌}
use native.Mathlib.Nat.{add-zero}
use native.Mathlib.Omega.{arith}
use lib.Dec.{leb, ltb}
use Rattle.circuit.proofs.Base.{cases}
use lib.ListN.{length, drop}
use borrow.Author.Tests.{lt-ltb, le-ltb, lt-leb, le-leb, ltb-true, ltb-false, leb-true, leb-false}
use Rattle.circuit.specs.Lists.{nth}
use Rattle.circuit.specs.Circuit.{Circuit, size}
use Rattle.circuit.specs.Rules.{Judgement, pass, need, ◌then◌}
use Rattle.semantics.specs.Calls.{bytes_rule, probes_rule}
use Rattle.std.specs.Prelude.{position, not, Option, Some, None}
use Rattle.std.specs.List.{position_from, position_or_len}
use Rattle.std.proofs.lemmas.Iterator.Adapters.{position_from-zero}
use Rattle.std.proofs.lemmas.List.Sums.{passes_at_first}
use Rattle.evaluation.specs.Internal.Refusing.{refusal, OverFirst, MissingFirst}

-- a rule of lists that goes on behind a place
abbrev pub Passed : (ℕ → List ℕ → Judgement) → List ℕ → ℕ → Type 0
Passed rule xs i = (n : ℕ) → rule n xs ≡ rule (n + i) (drop i xs)

pub passed_start : (rule : ℕ → List ℕ → Judgement) (xs : List ℕ) → Passed rule xs 0
passed_start rule xs n = simp add-zero

-- a rule that asks the same of each element, in order: the first that breaks it is named
pub record Asks (rule : ℕ → List ℕ → Judgement) (number : ℕ) (test : ℕ → Bool) : Type 0 where
  pub none : (n : ℕ) → rule n [] ≡ pass
  pub one : (n x : ℕ) (xs : List ℕ) → rule n (x ∷ xs) ≡ (need (test x) number 0 n then rule (suc n) xs)

pub bytes_ask : Asks bytes_rule 18 (λ x. leb x 1)
unfolding bytes_rule
bytes_ask = record { none = λ n. refl; one = λ n x xs. refl }

pub probes_ask : (k : Circuit) → Asks (probes_rule k) 19 (λ x. ltb x (size k))
unfolding probes_rule
probes_ask k = record { none = λ n. refl; one = λ n x xs. refl }

-- by the place that `position` answers, where the code's test is that an element breaks the rule
module _ {rule : ℕ → List ℕ → Judgement} {number : ℕ} {test : ℕ → Bool} (asks : Asks rule number test) (breaks : ℕ → Bool) (same : (x : ℕ) → test x ≡ not (breaks x)) where
  ask_from : (xs : List ℕ) (n i : ℕ) → rule (n + i) xs ≡ refusal number n (position_from breaks i xs)
  ask_from [] n i = asks.none (n + i)
  ask_from (x ∷ xs) n i =
      let e : suc (n + i) ≡ n + (i + 1) = omega arith in
      cases (breaks x)
      (λ h. rw (asks.one (n + i) x xs, same x, h))
      (λ h. rw (asks.one (n + i) x xs, same x, h, e) (ask_from xs n (i + 1)))

  pub ask_first : (xs : List ℕ) (n : ℕ) → rule n xs ≡ refusal number n (position breaks xs)
  ask_first xs n = rw position_from-zero (simp add-zero at (ask_from xs n 0))

over : (b : ℕ) → leb b 1 ≡ not (ltb 1 b)
over b = cases (ltb 1 b) (λ h. rw h (lt-leb b 1 (ltb-true 1 b h))) (λ h. rw h (le-leb b 1 (ltb-false 1 b h)))

missing : (n p : ℕ) → ltb p n ≡ not (leb n p)
missing n p = cases (leb n p) (λ h. rw h (le-ltb p n (leb-true n p h))) (λ h. rw h (lt-ltb p n (leb-false n p h)))

-- the first place where rule 18 is broken, and 19
pub over_first : (bytes : List ℕ) {r : Option ℕ} → r ≡ position (λ b. ltb 1 b) bytes → OverFirst bytes r
over_first bytes e = record { is = λ i. ask_first bytes_ask (λ b. ltb 1 b) over bytes i ∙ sym (ap (refusal 18 i) e) }

pub missing_first : (probes : List ℕ) (wires : ℕ) {r : Option ℕ} → r ≡ position (λ p. leb wires p) probes → MissingFirst probes wires r
missing_first probes wires e = record { is = λ k s i. ask_first (probes_ask k) (λ p. leb wires p) (λ p. rw s (missing wires p)) probes i ∙ sym (ap (refusal 19 i) e) }

-- a place that is answered is on the list
Under : ℕ → Option ℕ → Type 0
Under n None = Unit {0}
Under n (Some x) = x < n

pub first_within : (p : ℕ → Bool) (xs : List ℕ) {r : Option ℕ} → r ≡ position p xs → {x : ℕ} → r ≡ Some x → x < length xs
unfolding Under
first_within p xs e h = subst (Under (length xs)) (sym e ∙ h) (cases (ltb (position_or_len p xs) (length xs)) (λ l. rw l (ltb-true _ _ l)) (λ l. rw l tt))

-- where no byte is over 1, there is none
pub none_over : (bytes : List ℕ) → ((x : ℕ) → x < length bytes → nth bytes x ≤ 1) → None ≡ position (λ b. ltb 1 b) bytes
none_over bytes h =
    let q = position_or_len (λ b. ltb 1 b) bytes in
    cases (ltb q (length bytes))
    (λ e. let l = ltb-true q (length bytes) e in absurd (omega (arith, h q l, ltb-true 1 (nth bytes q) (passes_at_first (λ b. ltb 1 b) bytes 0 l))))
    (λ e. rw e)
