-- Shares of secret bits in words, and that each pair has its own sharing in them.
use mathlib.Core.Path.{◌≡◌, refl, sym, ap, ap₂, ◌∙◌}
use mathlib.Core.Bool.{Bool, true, false}
use mathlib.Core.List.{List, [], ◌∷◌, ◌++◌, map, map-append, map-map, append_assoc}
use Prim.Native.Nat.{ℕ, zero, suc, ◌*◌, ◌≤◌, ◌<◌}
use native.Mathlib.Nat.{zero-add}
use native.Mathlib.Omega.{arith}
use lib.ListN.{length, take, drop, get_or, length-drop, length-take, length-map, take-append-drop, get_or-map}
use lib.Seq.{ext_get_or, get_or-take, take-append-le, drop-append-le}
use Rattle.circuit.specs.Lists.{◌⊕◌, nth, range}
use Rattle.circuit.specs.Circuit.{is_set}
use Rattle.circuit.proofs.Base.{xor_assoc, no_flip}
use Rattle.circuit.proofs.Numbered.{range_at, map_at}
use Rattle.circuit.proofs.Sizes.{range_length}
use Rattle.semantics.specs.Values.{bits, at}
use Rattle.semantics.specs.Counts.{parity}
use Rattle.gadgets.proofs.Bits.{set-byte}
use Rattle.simulation.specs.Internal.Evaluating.{packed, Packs}
use Rattle.simulation.proofs.Packing.{packed-xor, packed_none}
use Rattle.counting.specs.Internal.Pairs.{completed}
use Rattle.counting.specs.Internal.Words.{shares_of, all_shares}
use Rattle.counting.proofs.Numbered.{by_place}
use Rattle.counting.proofs.WordBits.{packed-same, packed_all}

-- the bit of each pair, for each word
abbrev Column : Type 0
Column = ℕ → Bool

-- the list of one pair
abbrev lane : ℕ → List Column → List Bool
lane l cs = map (λ col. col l) cs

pub map-take : {A B : Type 0} (f : A → B) (n : ℕ) (xs : List A) → map f (take n xs) ≡ take n (map f xs)
map-take f zero xs = refl
map-take f (suc n) [] = refl
map-take f (suc n) (x ∷ xs) = ap (λ r. f x ∷ r) (map-take f n xs)

pub map-drop : {A B : Type 0} (f : A → B) (n : ℕ) (xs : List A) → map f (drop n xs) ≡ drop n (map f xs)
map-drop f zero xs = refl
map-drop f (suc n) [] = refl
map-drop f (suc n) (x ∷ xs) = map-drop f n xs

-- a secret bit: columns, and the one that completes them
last_of : Column → List Column → List Column
last_of x [] = x ∷ []
last_of x (col ∷ cs) = col ∷ last_of (λ l. x l ⊕ col l) cs

last_lane : (l : ℕ) (x : Column) (cs : List Column) → lane l (last_of x cs) ≡ lane l cs ++ (x l ⊕ parity (lane l cs)) ∷ []
unfolding last_of
last_lane l x [] = ap (λ b. b ∷ []) (sym (no_flip (x l)))
last_lane l x (col ∷ cs) = ap (λ r. col l ∷ r) (last_lane l (λ i. x i ⊕ col i) cs ∙ ap (λ b. lane l cs ++ b ∷ []) (xor_assoc (x l) (col l) (parity (lane l cs))))

-- all secret bits
columns_of : ℕ → List Bool → List Column → List Column
columns_of n [] cs = []
columns_of n (z ∷ zs) cs = last_of (λ l. z) (take n cs) ++ columns_of n zs (drop n cs)

columns_lane : (l n : ℕ) (zs : List Bool) (cs : List Column) → lane l (columns_of n zs cs) ≡ completed n zs (lane l cs)
unfolding columns_of completed
columns_lane l n [] cs = refl
columns_lane l n (z ∷ zs) cs =
    map-append (λ (col : Column). col l) (last_of (λ i. z) (take n cs)) (columns_of n zs (drop n cs))
    ∙ ap₂ ◌++◌ (last_lane l (λ i. z) (take n cs) ∙ ap (λ bs. bs ++ (z ⊕ parity bs) ∷ []) (map-take (λ (col : Column). col l) n cs))
    (columns_lane l n zs (drop n cs) ∙ ap (completed n zs) (map-drop (λ (col : Column). col l) n cs))
    ∙ append_assoc (take n (lane l cs)) ((z ⊕ parity (take n (lane l cs))) ∷ []) (completed n zs (drop n (lane l cs)))

-- the free bits of pairs, each a list of so many
free_columns : (given : ℕ → List Bool) (free : ℕ) → List Column
free_columns given n = map (λ i l. at (given l) i) (range 0 n)

free_lane : (given : ℕ → List Bool) (n l : ℕ) → length (given l) ≡ n → lane l (free_columns given n) ≡ given l
unfolding free_columns
free_lane given n l e = map-map (λ (col : Column). col l) (λ i j. at (given j) i) (range 0 n) ∙ ap (λ m. map (at (given l)) (range 0 m)) (sym e) ∙ sym (by_place (given l) false)

-- words behind those that are taken do not matter
shares-append : (n : ℕ) (zs xs ys : List ℕ) → n * length zs ≤ length xs → all_shares n zs (xs ++ ys) ≡ all_shares n zs xs
unfolding all_shares
shares-append n [] xs ys l = refl
shares-append n (z ∷ zs) xs ys l =
    let long : n ≤ length xs = omega arith in
    rw (take-append-le n xs ys long, drop-append-le n xs ys long, shares-append n zs (drop n xs) ys (rw (length-drop n xs) (omega arith)))

-- words of so many pairs
module _ (lanes : ℕ) where
  abbrev words : List Column → List ℕ
  words cs = map (packed lanes) cs

  -- the words that secret bits complete to: each bit in all pairs
  abbrev wholes : List ℕ → List ℕ
  wholes secrets = map (λ z. packed lanes (λ l. true) * z) secrets

  packs_columns : (cs : List Column) → Packs lanes (λ l. lane l cs) (words cs)
  packs_columns cs i =
      let none : Column = λ l. false in
      ap (get_or (words cs) i) (sym (packed_none lanes)) ∙ get_or-map (packed lanes) cs i none
      ∙ packed-same lanes (get_or cs i none) (λ l. at (lane l cs) i) (λ l h. sym (get_or-map (λ (col : Column). col l) cs i none))

  last_words : (x : Column) (cs : List Column) → words (last_of x cs) ≡ shares_of (packed lanes x) (words cs)
  unfolding last_of shares_of
  last_words x [] = refl
  last_words x (col ∷ cs) = ap (λ r. packed lanes col ∷ r) (last_words (λ l. x l ⊕ col l) cs ∙ ap (λ y. shares_of y (words cs)) (packed-xor lanes x col))

  columns_words : (n : ℕ) (secrets : List ℕ) (cs : List Column) → ((x : ℕ) → nth secrets x ≤ 1) → words (columns_of n (bits secrets) cs) ≡ all_shares n (wholes secrets) (words cs)
  unfolding columns_of all_shares
  columns_words n [] cs h = refl
  columns_words n (z ∷ zs) cs h =
      map-append (packed lanes) (last_of (λ l. is_set z) (take n cs)) (columns_of n (bits zs) (drop n cs))
      ∙ ap₂ ◌++◌ (last_words (λ l. is_set z) (take n cs) ∙ ap₂ shares_of (packed_all lanes (is_set z) ∙ ap (λ m. packed lanes (λ l. true) * m) (sym (set-byte z (h 0)))) (map-take (packed lanes) n cs))
      (columns_words n zs (drop n cs) (λ x. h (suc x)) ∙ ap (all_shares n (wholes zs)) (map-drop (packed lanes) n cs))

  -- the words of free bits, and what the sharing and the tape of each pair are in them
  module _ (given : ℕ → List Bool) (free : ℕ) (each : (l : ℕ) → length (given l) ≡ free) (ws : List ℕ) (long : free ≤ length ws)
      (are : (i : ℕ) → i < free → nth ws i ≡ packed lanes (λ l. at (given l) i)) where
    abbrev cols : List Column
    cols = free_columns given free

    sized : length (take free ws) ≡ free
    sized = length-take free ws ∙ omega arith

    free_words : take free ws ≡ words cols
    unfolding free_columns
    free_words =
        let digit : ℕ → Column = λ i l. at (given l) i in
        ext_get_or 0 (take free ws) (words cols) (sized ∙ sym (length-map (map digit (range 0 free)) (packed lanes) ∙ length-map (range 0 free) digit ∙ range_length 0 free))
        (λ i h. let l : i < free = omega (arith, sized) in
        get_or-take free ws i 0 l ∙ are i l ∙ sym (ap (λ r. nth r i) (map-map (packed lanes) digit (range 0 free))
        ∙ map_at (λ j. packed lanes (digit j)) (range 0 free) i 0 0 (omega (arith, range_length 0 free)) ∙ ap (λ j. packed lanes (digit j)) (range_at 0 free i l ∙ zero-add i)))

    module _ (others : ℕ) (secrets : List ℕ) (few : others * length secrets ≤ free) where
      pub sharing_packed : ((x : ℕ) → nth secrets x ≤ 1) → Packs lanes (λ l. completed others (bits secrets) (given l)) (all_shares others (wholes secrets) ws)
      sharing_packed bit i =
          ap (λ r. nth r i) (ap (all_shares others (wholes secrets)) (sym (take-append-drop free ws))
          ∙ shares-append others (wholes secrets) (take free ws) (drop free ws) (rw (length-map secrets (λ z. packed lanes (λ l. true) * z)) (omega (arith, sized)))
          ∙ ap (all_shares others (wholes secrets)) free_words ∙ sym (columns_words others secrets cols bit))
          ∙ packs_columns (columns_of others (bits secrets) cols) i
          ∙ packed-same lanes (λ l. at (lane l (columns_of others (bits secrets) cols)) i) (λ l. at (completed others (bits secrets) (given l)) i)
          (λ l h. ap (λ r. at r i) (columns_lane l others (bits secrets) cols ∙ ap (completed others (bits secrets)) (free_lane given free l (each l))))

      pub drawn-packed : Packs lanes (λ l. drop (others * length secrets) (given l)) (drop (others * length secrets) (take free ws))
      drawn-packed i =
          let s = others * length secrets in
          ap (λ r. nth r i) (ap (drop s) free_words ∙ sym (map-drop (packed lanes) s cols)) ∙ packs_columns (drop s cols) i
          ∙ packed-same lanes (λ l. at (lane l (drop s cols)) i) (λ l. at (drop s (given l)) i)
          (λ l h. ap (λ r. at r i) (map-drop (λ (col : Column). col l) s cols ∙ ap (drop s) (free_lane given free l (each l))))
