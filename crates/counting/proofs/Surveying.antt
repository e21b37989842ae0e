-- The variables that the read wires need, found product by product, the last first.
use mathlib.Core.Path.{◌≡◌, refl, sym, ap, ◌∙◌}
use mathlib.Core.Bool.{true, false, cond}
use mathlib.Core.List.{List}
use Prim.Native.Nat.{ℕ, zero, suc, ◌+◌, ◌*◌, ◌/◌, ◌%◌, max, ◌≤◌, ◌<◌}
use native.Mathlib.Omega.{arith}
use lib.Bits.{bit_or, or_step, or_shr, or_lt}
use lib.Dec.{ltb}
use lib.ListN.{length}
use borrow.Author.Tests.{ltb-true, ltb-false}
use Rattle.circuit.specs.Lists.{nth}
use Rattle.circuit.specs.Circuit.{is_set}
use Rattle.circuit.proofs.Base.{cases}
use Rattle.symbolic.specs.Internal.Sums.{Before}
use Rattle.counting.specs.Internal.Lanes.{lane_bit}
use Rattle.counting.specs.Internal.Linear.{Within, Surveys, SurveysMore, Surveyed}
use Rattle.counting.proofs.Flipped.{lane_lt}

-- the digits of two numbers together
either_digit : (x y : ℕ) → x < 2 → y < 2 → is_set (max x y) ≡ cond (is_set x) true (is_set y)
either_digit zero zero h k = refl
either_digit zero (suc zero) h k = refl
either_digit zero (suc (suc y)) h k = absurd (omega arith)
either_digit (suc zero) zero h k = refl
either_digit (suc zero) (suc zero) h k = refl
either_digit (suc zero) (suc (suc y)) h k = absurd (omega arith)
either_digit (suc (suc x)) y h k = absurd (omega arith)

or_lane : (s a b : ℕ) → lane_bit s (bit_or a b) ≡ cond (lane_bit s a) true (lane_bit s b)
or_lane zero a b =
    let m = max (a % 2) (b % 2) in
    let low : bit_or a b % 2 ≡ m = omega (arith, or_step a b) in
    ap is_set low ∙ either_digit (a % 2) (b % 2) (omega arith) (omega arith)
or_lane (suc s) a b = ap (lane_bit s) (or_shr a b 1) ∙ or_lane s (a / 2) (b / 2)

pub in_first : (a b m : ℕ) → Within m a → Within m (bit_or a b)
in_first a b m h s d = or_lane s a b ∙ rw (h s d)

pub in_second : (a b m : ℕ) → Within m b → Within m (bit_or a b)
in_second a b m h s d = or_lane s a b ∙ rw (h s d) (both (lane_bit s a))
  where
    both : (e : _) → cond e true true ≡ true
    both true = refl
    both false = refl

pub within_all : (m : ℕ) → Within m m
within_all m s d = d

-- a product that is needed: its variables are added
pub survey_both : {terms : List ℕ} {n needed factors : ℕ} → Before terms n
    → let both = bit_or (nth terms (2 * n)) (nth terms (2 * n + 1)) in SurveysMore terms n (n + 1) needed factors (bit_or needed both) (bit_or factors both)
survey_both {terms} {n} {needed} {factors} b =
    let x = nth terms (2 * n) in
    let y = nth terms (2 * n + 1) in
    let both = bit_or x y in
    let first : (a : ℕ) → Within x (bit_or a both) = λ a. in_second a both x (in_first x y x (within_all x)) in
    let second : (a : ℕ) → Within y (bit_or a both) = λ a. in_second a both y (in_second x y y (within_all y)) in
    record {
      done = λ m l u. let e : m ≡ n = omega arith in rw e (record { one = λ d. (first needed, first factors); other = λ d. (second needed, second factors) });
      needed_more = in_first needed both needed (within_all needed);
      factors_more = in_first factors both factors (within_all factors);
      above = λ s l. or_lane s needed both ∙ cases (lane_bit s both)
          (λ d. absurd (omega (arith, lane_lt (18 + n) s both (or_lt (18 + n) x y b.one b.other) d)))
          (λ d. rw d (same (lane_bit s needed)));
    }
  where
    same : (e : _) → cond e true false ≡ e
    same true = refl
    same false = refl

-- what is surveyed stays so, where only variables before it are added
module _ {terms : List ℕ} {from to needed factors needed' factors' : ℕ} (s : SurveysMore terms from to needed factors needed' factors') where
  pub lifted : (m : ℕ) → to ≤ m → Surveys terms needed factors m → Surveys terms needed' factors' m
  lifted m l v = record {
    one = λ d. let w = v.one (back d) in ((λ t e. s.needed_more t (w.0 t e)), (λ t e. s.factors_more t (w.1 t e)));
    other = λ d. let w = v.other (back d) in ((λ t e. s.needed_more t (w.0 t e)), (λ t e. s.factors_more t (w.1 t e)));
  }
    where
      back : lane_bit (18 + m) needed' ≡ true → lane_bit (18 + m) needed ≡ true
      back d = sym (s.above (18 + m) (omega arith)) ∙ d

-- one more
pub survey_from : {terms : List ℕ} {n m to needed factors needed' factors' : ℕ} → n ≡ m → SurveysMore terms n to needed factors needed' factors'
    → SurveysMore terms m to needed factors needed' factors'
survey_from e s = rw (← e) s

pub survey_next : {terms : List ℕ} {n to needed factors mid mid' needed' factors' : ℕ} → n + 1 ≤ to → SurveysMore terms (n + 1) to needed factors mid mid'
    → SurveysMore terms n (n + 1) mid mid' needed' factors' → SurveysMore terms n to needed factors needed' factors'
survey_next {n = n} room a b = record {
  done = λ m l u. cases (ltb m (n + 1))
      (λ e. b.done m l (ltb-true m (n + 1) e))
      (λ e. let h = ltb-false m (n + 1) e in lifted b m h (a.done m h u));
  needed_more = λ s d. b.needed_more s (a.needed_more s d);
  factors_more = λ s d. b.factors_more s (a.factors_more s d);
  above = λ s l. b.above s (omega arith) ∙ a.above s l;
}

-- all: those that are read, then the outputs
module _ {sums terms read : List ℕ} {outputs start needed factors needed' factors' : ℕ} (few : outputs ≤ 32) (reads : (i : ℕ) → i < length read → Within (nth sums (nth read i)) start)
    (inner : SurveysMore terms 32 (32 + length read) start 0 needed factors) (outs : SurveysMore terms 0 outputs needed factors needed' factors') where
  pub all_surveyed : Surveyed sums terms read outputs factors'
  all_surveyed = record {
    needed = needed';
    reads = λ i h s d. outs.needed_more s (inner.needed_more s (reads i h s d));
    outs = outs.done;
    inner = λ n l u. lifted outs n (omega arith) (inner.done n l u);
  }

  -- where all that are needed vary
  pub needed_surveyed : Surveyed sums terms read outputs needed'
  needed_surveyed = record {
    needed = needed';
    reads = λ i h s d. outs.needed_more s (inner.needed_more s (reads i h s d));
    outs = λ n l u. both (outs.done n l u);
    inner = λ n l u. both (lifted outs n (omega arith) (inner.done n l u));
  }
    where
      both : {n : ℕ} → Surveys terms needed' factors' n → Surveys terms needed' needed' n
      both v = record { one = λ d. ((v.one d).0, (v.one d).0); other = λ d. ((v.other d).0, (v.other d).0) }

-- the variables of the read wires up to one
pub record ReadTo (sums read : List ℕ) (all i : ℕ) : Type 0 where
  pub within : (j : ℕ) → j < i → Within (nth sums (nth read j)) all

pub read_next : {sums read : List ℕ} {all i : ℕ} → ReadTo sums read all i → ReadTo sums read (bit_or all (nth sums (nth read i))) (i + 1)
read_next {sums} {read} {all} {i} r = record {
  within = λ j l. let m = nth sums (nth read i) in cases (ltb j i)
      (λ e. in_first all m (nth sums (nth read j)) (r.within j (ltb-true j i e)))
      (λ e. let same : j ≡ i = omega (arith, ltb-false j i e) in rw same (in_second all m m (within_all m)));
}
