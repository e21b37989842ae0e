-- Sums of variables before a place: what is made of such sums is one too.
use mathlib.Core.List.{List, [], ◌∷◌}
use Prim.Native.Nat.{ℕ, ◌+◌, ◌^◌, ◌≤◌, ◌<◌}
use native.Mathlib.Omega.{arith}
use lib.Bits.{xor_lt}
use lib.Pow.{pow_mono}
use Rattle.circuit.specs.Lists.{nth, range}
use Rattle.circuit.specs.Gadgets.{others}
use Rattle.circuit.proofs.Base.{In, in_head, in_tail}
use Rattle.circuit.proofs.Parts.{label_lt}
use Rattle.gadgets.specs.Internal.Places.{word_a, word_b, cross_start, mask_at}
use Rattle.simulation.specs.Internal.Filling.{Values, word_sum}
use Rattle.symbolic.specs.declared.gadget.Term.{Term}
use Rattle.symbolic.specs.declared.offsets.Inner.{Inner}
use Rattle.symbolic.specs.declared.offsets.Inner.TheVariants.{R, B, M, U, V, W}
use Rattle.symbolic.specs.Internal.Inside.{inner_at, WireOf}
use Rattle.symbolic.specs.Internal.Terms.{one, alone, times, wire_term, inner_term, output_term}
use Rattle.symbolic.proofs.Inside.{shares_fit}

pub some : (m : ℕ) → 0 < 2 ^ m
some m = omega (arith, pow_mono {i = 0} {j = m} (omega arith))

pub more : {x m k : ℕ} → m ≤ k → x < 2 ^ m → x < 2 ^ k
more {m = m} {k} l h = omega (arith, pow_mono {i = m} {j = k} l)

pub sum_below : (m : ℕ) (f : Values) (xs : List ℕ) → ((x : ℕ) → In x xs → f x < 2 ^ m) → word_sum xs f < 2 ^ m
sum_below m f [] h = some m
sum_below m f (x ∷ xs) h = xor_lt m (f x) (word_sum xs f) (h x (in_head x xs)) (sum_below m f xs (λ y k. h y (in_tail y x xs k)))

-- a term of such sums
pub record Below (m : ℕ) (t : Term) : Type 0 where
  pub first : t.one < 2 ^ m
  pub second : t.other < 2 ^ m
  pub third : t.more < 2 ^ m

pub below_more : {m k : ℕ} {t : Term} → m ≤ k → Below m t → Below k t
below_more l b = record { first = more l b.first; second = more l b.second; third = more l b.third }

alone-below : {m s : ℕ} → s < 2 ^ m → Below m (alone s)
alone-below {m} h = record { first = some m; second = some m; third = h }

times_below : {m x y : ℕ} → x < 2 ^ m → y < 2 ^ m → Below m (times x y)
times_below {m} h k = record { first = h; second = k; third = some m }

module _ (m : ℕ) (least : 18 ≤ m) (d : ℕ) (ops sums tape : List ℕ) (used : ℕ) (a : (i : ℕ) → i < d → nth sums (word_a ops i) < 2 ^ m) (b : (i : ℕ) → i < d → nth sums (word_b d ops i) < 2 ^ m)
    (r : (x : ℕ) → nth tape x < 2 ^ m) where
  pub output-below : (i : ℕ) → i < d → Below m (output_term d ops sums tape used i)
  output-below i l = record {
    first = a i l;
    second = sum_below m _ (range 0 d) (λ j h. b j (label_lt d j h));
    third = sum_below m _ (others d i) (λ j h. r (mask_at d used i j));
  }

  wire_below : (w : Inner) → WireOf d w → Below m (wire_term d ops sums tape used w)
  wire_below (R q) l = alone-below (r (used + q))
  wire_below (B i) l = alone-below (b i l)
  wire_below (M i) l = times_below (a i l) (b i l)
  wire_below (U i j) l = times_below (xor_lt m one _ (more {x = one} {m = 18} {k = m} least (omega arith)) (a i l.0)) (r _)
  wire_below (V i j) l = alone-below (xor_lt m _ _ (b j l.1) (r _))
  wire_below (W i j) l = times_below (a i l.0) (xor_lt m _ _ (b j l.1) (r _))

  pub inner_below : (o : ℕ) → 2 ≤ d → o < cross_start d d → Below m (inner_term d ops sums tape used o)
  inner_below o two h = wire_below (inner_at d o) (shares_fit d o two h)
