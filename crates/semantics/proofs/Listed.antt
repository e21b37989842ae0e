-- Wires whose gates pass a test, in their order: what is listed of them stands, for each, at the place that is their count before it.
use mathlib.Core.Path.{◌≡◌, refl, ap}
use mathlib.Core.Bool.{Bool, true, false, cond}
use mathlib.Core.List.{List, [], ◌∷◌, map}
use Prim.Native.Nat.{ℕ, zero, suc, ◌<◌}
use native.Mathlib.Omega.{arith}
use lib.ListN.{length, get_or, take}
use Rattle.circuit.specs.Lists.{concat_map}
use Rattle.circuit.specs.Wires.{Gate, Wire}
use Rattle.circuit.proofs.Base.{cases}
use Rattle.semantics.specs.Values.{is_random}
use Rattle.semantics.proofs.Randoms.{randoms_in}
use Rattle.semantics.proofs.Solving.{nothing, gate_at}

-- how many gates of wires pass a test; randomsIn is one such count
module _ (test : Gate → Bool) where
  abbrev pub count_where : List Wire → ℕ
  count_where [] = 0
  count_where (w ∷ ws) = cond (test w.gate) (suc (count_where ws)) (count_where ws)

pub randoms-count : (ws : List Wire) → randoms_in ws ≡ count_where is_random ws
randoms-count [] = refl
randoms-count (w ∷ ws) = ap (λ n. cond (is_random w.gate) (suc n) n) (randoms-count ws)

-- something of each wire whose gate passes a test, in the order of the wires; the place of a wire's is the count before it
module _ (test : Gate → Bool) {A : Type 0} (h : Wire → A) where
  abbrev pub listed : List Wire → List A
  listed ws = concat_map ws (λ w. cond (test w.gate) (h w ∷ []) [])

  pub listed_at : (ws : List Wire) (x : ℕ) (z : A) → x < length ws → test (gate_at ws x) ≡ true → get_or (listed ws) (count_where test (take x ws)) z ≡ h (get_or ws x nothing)
  listed_at [] x z l e = absurd (omega arith)
  listed_at (w ∷ ws) zero z l e = rw e
  listed_at (w ∷ ws) (suc x) z l e = let more = listed_at ws x z (omega arith) e in cases (test w.gate) (λ p. rw p more) (λ p. rw p more)

  pub listed_lt : (ws : List Wire) (x : ℕ) → x < length ws → test (gate_at ws x) ≡ true → count_where test (take x ws) < length (listed ws)
  listed_lt [] x l e = absurd (omega arith)
  listed_lt (w ∷ ws) zero l e = rw e (omega arith)
  listed_lt (w ∷ ws) (suc x) l e = let more = listed_lt ws x (omega arith) e in cases (test w.gate) (λ p. rw p (omega arith)) (λ p. rw p more)

  pub listed-length : (ws : List Wire) → length (listed ws) ≡ count_where test ws
  listed-length [] = refl
  listed-length (w ∷ ws) = cases (test w.gate) (λ p. rw p (ap suc (listed-length ws))) (λ p. rw p (listed-length ws))

  module _ {B : Type 0} (f : B → Wire) where
    pub listed-all : ((i : B) → test (f i).gate ≡ true) → (is : List B) → listed (map f is) ≡ map (λ i. h (f i)) is
    listed-all g [] = refl
    listed-all g (i ∷ is) = rw (g i) (ap (λ l. h (f i) ∷ l) (listed-all g is))

    pub listed-none : ((i : B) → test (f i).gate ≡ false) → (is : List B) → listed (map f is) ≡ []
    listed-none g [] = refl
    listed-none g (i ∷ is) = rw (g i) (listed-none g is)
