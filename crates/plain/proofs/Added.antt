-- Sums modulo 2 of rows of wires and of shares, and the values of plain gates.
use mathlib.Core.Path.{◌≡◌, refl, sym, ap, ◌∙◌}
use mathlib.Core.Bool.{Bool, true, false, cond, not}
use mathlib.Core.List.{List, [], ◌∷◌, ◌++◌, map, map-append}
use Prim.Native.Nat.{ℕ, zero, suc, ◌+◌, ◌*◌, ◌<◌}
use native.Mathlib.Nat.{zero-add, suc-add}
use native.Mathlib.Omega.{arith}
use lib.ListN.{length, take, drop}
use lib.Seq.{take-nil, get_or-drop}
use Rattle.circuit.specs.Lists.{◌⊕◌, nth, range}
use Rattle.circuit.specs.Gadgets.{labels}
use Rattle.semantics.specs.Values.{at, xor_sum}
use Rattle.semantics.specs.Counts.{parity, secrets_of}
use Rattle.secrecy.proofs.Totals.{xor_sum_ext}
use Rattle.plain.specs.Sharings.{PlainGate, same, inverse, Sharing, Plain, odd}
use Rattle.plain.specs.Plain.{plain_value, plain_from, plain_values, added_shares, rows_of}

-- a sum over numbers in a row, counted from elsewhere; and over a list, by the places of its elements
sum_up : (f : ℕ → Bool) (n c : ℕ) → xor_sum (range (suc n) c) f ≡ xor_sum (range n c) (λ i. f (suc i))
sum_up f n zero = refl
sum_up f n (suc c) = ap (λ z. f (suc n) ⊕ z) (sum_up f (suc n) c)

pub sum_row : (f : ℕ → Bool) (n c : ℕ) → xor_sum (range n c) f ≡ xor_sum (labels c) (λ i. f (n + i))
sum_row f zero c = xor_sum_ext _ _ (labels c) (λ i h. ap f (sym (zero-add i)))
sum_row f (suc n) c = sum_up f n c ∙ sum_row (λ i. f (suc i)) n c ∙ xor_sum_ext _ _ (labels c) (λ i h. ap f (sym (suc-add n i)))

pub sum_places : (f : ℕ → Bool) (xs : List ℕ) → xor_sum xs f ≡ xor_sum (labels (length xs)) (λ i. f (nth xs i))
sum_places f [] = refl
sum_places f (x ∷ xs) = ap (λ z. f x ⊕ z) (sum_places f xs ∙ sym (sum_up (λ i. f (nth (x ∷ xs) i)) 0 (length xs)))

pub sum-odd : (n c : ℕ) → xor_sum (range n c) (λ i. true) ≡ odd c
sum-odd n zero = refl
sum-odd n (suc c) = ap not (sum-odd (suc n) c)

-- d flips are a flip where d is odd
pub flips : (d n : ℕ) (f : ℕ → Bool) (secrets : List Bool) → plain_value (cond (odd d) (inverse n) (same n)) f secrets ≡ (odd d ⊕ f n)
flips d n f secrets = go (odd d)
  where
    go : (b : Bool) → plain_value (cond b (inverse n) (same n)) f secrets ≡ (b ⊕ f n)
    go true = refl
    go false = refl

pub parity-sum : (f : ℕ → Bool) (xs : List ℕ) → parity (map f xs) ≡ xor_sum xs f
parity-sum f [] = refl
parity-sum f (x ∷ xs) = ap (λ z. f x ⊕ z) (parity-sum f xs)

-- the secret bit of an IN is the sum of its shares; those that are not there count as 0
parity-take : (d : ℕ) (bs : List Bool) → parity (take d bs) ≡ xor_sum (labels d) (at bs)
parity-take zero bs = refl
parity-take (suc d) [] = ap parity (sym (take-nil d)) ∙ parity-take d [] ∙ sym (sum_up (at []) 0 d)
parity-take (suc d) (b ∷ bs) = ap (λ z. b ⊕ z) (parity-take d bs ∙ sym (sum_up (at (b ∷ bs)) 0 d))

pub secret-at : (d n : ℕ) (shares : List Bool) (m : ℕ) → m < n → at (secrets_of d n shares) m ≡ xor_sum (labels d) (λ i. at shares (m * d + i))
secret-at d zero shares m l = absurd (omega arith)
secret-at d (suc n) shares zero l = parity-take d shares ∙ xor_sum_ext _ _ (labels d) (λ i h. let e : i ≡ 0 * d + i = omega arith in ap (at shares) e)
secret-at d (suc n) shares (suc m) l = secret-at d n (drop d shares) m (omega arith)
    ∙ xor_sum_ext _ _ (labels d) (λ i h. let e : d + (m * d + i) ≡ suc m * d + i = omega arith in get_or-drop d shares (m * d + i) false ∙ ap (at shares) e)

-- gates behind others
plain-append : (secrets before : List Bool) (gs hs : List PlainGate) → plain_from secrets before (gs ++ hs) ≡ plain_from secrets (plain_from secrets before gs) hs
plain-append secrets before [] hs = refl
plain-append secrets before (g ∷ gs) hs = plain-append secrets (before ++ (plain_value g (at before) secrets ∷ [])) gs hs

-- rows added to rows
pub added_more : (xs ys : List (List ℕ)) (values : List Bool) → added_shares (xs ++ ys) values ≡ added_shares xs values ++ added_shares ys values
added_more xs ys values = map-append (λ ws. xor_sum ws (at values)) xs ys

-- one sharing more has the plain value, where its added shares are its gate's value from the added shares of those before it
pub plain_more : (p : Plain) (s : Sharing) (outputs : List ℕ) (values secrets : List Bool) → added_shares (rows_of p) values ≡ plain_values p secrets
    → xor_sum s.wires (at values) ≡ plain_value s.gate (at (added_shares (rows_of p) values)) secrets
    → let more : Plain = record { sharings = p.sharings ++ (s ∷ []); outputs = outputs } in
    (added_shares (rows_of more) values ≡ added_shares (rows_of p) values ++ (xor_sum s.wires (at values) ∷ [])) × (added_shares (rows_of more) values ≡ plain_values more secrets)
plain_more p s outputs values secrets h e =
    let old = added_shares (rows_of p) values in
    let front : added_shares (map (λ s. s.wires) (p.sharings ++ (s ∷ []))) values ≡ old ++ (xor_sum s.wires (at values) ∷ []) =
    ap (λ rows. added_shares rows values) (map-append (λ s. s.wires) p.sharings (s ∷ [])) ∙ added_more (rows_of p) (s.wires ∷ []) values in (
      front,
      front ∙ ap (λ b. old ++ (b ∷ [])) e ∙ ap (λ vs. vs ++ (plain_value s.gate (at vs) secrets ∷ [])) h
          ∙ sym (ap (plain_from secrets []) (map-append (λ s. s.gate) p.sharings (s ∷ [])) ∙ plain-append secrets [] (map (λ s. s.gate) p.sharings) (s.gate ∷ [])),
    )
