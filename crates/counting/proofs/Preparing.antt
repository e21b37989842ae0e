-- The words of shares, random bits and read wires in the pairs of a batch, from those of the variables.
use mathlib.Core.Path.{◌≡◌, refl, sym, ap, ap₂, ◌∙◌}
use mathlib.Core.Bool.{Bool, true, false, cond}
use mathlib.Core.List.{List, [], ◌∷◌, ◌++◌, map, map-append}
use Prim.Native.Nat.{ℕ, zero, suc, ◌+◌, ◌*◌, ◌-◌, ◌%◌, ◌^◌, ◌≤◌, ◌<◌}
use native.Mathlib.Nat.{zero-add}
use native.Mathlib.Omega.{arith}
use lib.Bits.{bit_xor, xor_self, xor_zero_l}
use lib.Dec.{leb}
use borrow.Author.Tests.{le-leb, lt-leb}
use lib.ListN.{length, take, drop, length-map, length-take, length-drop}
use lib.Seq.{slice, length-take-le, take-add, drop_at, ext_get_or, get_or-take, get_or-drop}
use Rattle.circuit.specs.Lists.{nth, range}
use Rattle.circuit.specs.Circuit.{size}
use Rattle.circuit.proofs.Numbered.{map_at, range_at}
use Rattle.circuit.proofs.Sizes.{range_length}
use Rattle.semantics.specs.Values.{bits, at, values_of}
use Rattle.gadgets.specs.Internal.Accepting.{circuit_in}
use Rattle.simulation.specs.Internal.Filling.{Values}
use Rattle.simulation.specs.Internal.Evaluating.{packed}
use Rattle.symbolic.specs.Internal.Sums.{added, words_at, Runs, Shows}
use Rattle.symbolic.specs.Internal.Expanding.{Words, Solves}
use Rattle.symbolic.proofs.Masks.{added_none, added-xor, added-one}
use Rattle.symbolic.proofs.Running.{term-same}
use Rattle.symbolic.proofs.Standing.{words-at}
use Rattle.counting.specs.declared.plan.Plan.{Plan}
use Rattle.counting.specs.Internal.Pairs.{completed, values_with, placed}
use Rattle.counting.specs.Internal.Lanes.{lane_bit, place_of}
use Rattle.counting.specs.Internal.Linear.{varied_in}
use Rattle.counting.specs.Internal.Words.{shares_of, all_shares}
use Rattle.counting.specs.Internal.Preparing.{secret_sum, secret_sums, free_sums, prepared_shares, prepared_tape, placed_word, Variables}
use Rattle.counting.specs.Internal.Tallying.{Countable, set_of, Prepared, HoldsShown}
use Rattle.counting.proofs.FreeBits.{ones-are}
use Rattle.counting.proofs.Completing.{map-take, map-drop, sharing_packed, drawn-packed}
use Rattle.counting.proofs.Placed.{placed-length}
use Rattle.counting.proofs.Batches.{Sizes, sizes}

-- a part of a buffer, as the code lends it
abbrev pub part : (from to : ℕ) → List ℕ → List ℕ
part from to xs = take (to - from) (drop from xs)

pub part_is : (from to : ℕ) (xs : List ℕ) → from ≤ to → to ≤ length xs → part from to xs ≡ slice from to xs
part_is from to xs h l =
    let e : to ≡ from + (to - from) = omega arith in
    sym (ap (λ n. drop from (take n xs)) e ∙ ap (drop from) (take-add from (to - from) xs) ∙ drop_at (take from xs) (part from to xs) from (length-take-le from xs (omega arith)))

-- as many sums as there are secret bits
pub secrets_many : (n : ℕ) (secrets : List ℕ) → length (secret_sums n secrets) ≡ n
secrets_many n secrets = length-map (range 0 n) (λ j. secret_sum (nth secrets j) (nth secrets (n + j))) ∙ range_length 0 n

-- words of sums
module _ (f : Values) where
  abbrev word : ℕ → ℕ
  word m = added m f

  shares-words : (x : ℕ) (ws : List ℕ) → map word (shares_of x ws) ≡ shares_of (word x) (map word ws)
  unfolding shares_of
  shares-words x [] = refl
  shares-words x (w ∷ ws) = ap (λ r. word w ∷ r) (shares-words (bit_xor x w) ws ∙ ap (λ y. shares_of y (map word ws)) (added-xor 64 x w f))

  all_words : (n : ℕ) (zs ws : List ℕ) → map word (all_shares n zs ws) ≡ all_shares n (map word zs) (map word ws)
  unfolding all_shares
  all_words n [] ws = refl
  all_words n (z ∷ zs) ws = map-append word (shares_of z (take n ws)) (all_shares n zs (drop n ws))
      ∙ ap₂ ◌++◌ (shares-words z (take n ws) ∙ ap (shares_of (word z)) (map-take word n ws)) (all_words n zs (drop n ws) ∙ ap (all_shares n (map word zs)) (map-drop word n ws))

  -- a secret bit, u being the word of a bit that all pairs have
  module _ (u : ℕ) (second : Bool) (set : f 16 ≡ cond second u 0) (one : f 17 ≡ u) where
    one_word : word 0x20000 ≡ u
    one_word = added-one 64 17 f (omega arith) ∙ one

    set_word : word 0x10000 ≡ cond second u 0
    set_word = added-one 64 16 f (omega arith) ∙ set

    both_word : word 0x30000 ≡ bit_xor (cond second u 0) u
    both_word = added-xor 64 0x10000 0x20000 f ∙ ap₂ bit_xor set_word one_word

    secret-word : (x y : ℕ) → x ≤ 1 → y ≤ 1 → word (secret_sum x y) ≡ u * cond second y x
    secret-word zero zero h k = added_none 64 f ∙ none second
      where
        none : (b : Bool) → 0 ≡ u * cond b 0 0
        none true = omega arith
        none false = omega arith
    secret-word zero (suc zero) h k = set_word ∙ either second
      where
        either : (b : Bool) → cond b u 0 ≡ u * cond b 1 0
        either true = omega arith
        either false = omega arith
    secret-word (suc zero) zero h k = both_word ∙ either second
      where
        either : (b : Bool) → bit_xor (cond b u 0) u ≡ u * cond b 0 1
        either true = xor_self u ∙ omega arith
        either false = xor_zero_l u ∙ omega arith
    secret-word (suc zero) (suc zero) h k = one_word ∙ both second
      where
        both : (b : Bool) → u ≡ u * cond b 1 1
        both true = omega arith
        both false = omega arith
    secret-word (suc (suc x)) y h k = absurd (omega arith)
    secret-word zero (suc (suc y)) h k = absurd (omega arith)
    secret-word (suc zero) (suc (suc y)) h k = absurd (omega arith)

    -- all of them, in the set that is taken
    secret-words : (n : ℕ) (secrets : List ℕ) → length secrets ≡ n + n → ((x : ℕ) → nth secrets x ≤ 1)
        → map word (secret_sums n secrets) ≡ map (λ z. u * z) (cond second (drop n secrets) (take n secrets))
    secret-words n secrets e bit = ext_get_or 0 (map word (secret_sums n secrets)) (map (λ z. u * z) (cond second (drop n secrets) (take n secrets)))
        (length-map (secret_sums n secrets) word ∙ secrets_many n secrets ∙ sym (length-map (cond second (drop n secrets) (take n secrets)) (λ z. u * z) ∙ taken second))
        (λ j l. let k : j < n = omega (arith, length-map (secret_sums n secrets) word, secrets_many n secrets) in
        words-at f (secret_sums n secrets) j ∙ ap word (range-map j k) ∙ secret-word (nth secrets j) (nth secrets (n + j)) (bit j) (bit (n + j))
        ∙ sym (map_at (λ z. u * z) (cond second (drop n secrets) (take n secrets)) j 0 0 (omega (arith, taken second)) ∙ ap (λ z. u * z) (chosen second j k)))
      where
        taken : (b : Bool) → length (cond b (drop n secrets) (take n secrets)) ≡ n
        taken true = length-drop n secrets ∙ omega arith
        taken false = length-take n secrets ∙ omega arith

        range-map : (j : ℕ) → j < n → nth (secret_sums n secrets) j ≡ secret_sum (nth secrets j) (nth secrets (n + j))
        range-map j k = map_at (λ i. secret_sum (nth secrets i) (nth secrets (n + i))) (range 0 n) j 0 0 (omega (arith, range_length 0 n))
            ∙ ap (λ i. secret_sum (nth secrets i) (nth secrets (n + i))) (range_at 0 n j k ∙ zero-add j)

        chosen : (b : Bool) (j : ℕ) → j < n → nth (cond b (drop n secrets) (take n secrets)) j ≡ cond b (nth secrets (n + j)) (nth secrets j)
        chosen true j k = get_or-drop n secrets j 0
        chosen false j k = get_or-take n secrets j 0 k

-- the free bits
free_at : (i : ℕ) → i < 16 → nth free_sums i ≡ 2 ^ i
free_at i l = map_at (λ j. 2 ^ j) (range 0 16) i 0 0 l ∙ ap (λ j. 2 ^ j) (range_at 0 16 i l ∙ zero-add i)

-- pairs, each with a list of free bits, where the variables have their words
pub record Given (plan : Plan) (lanes : ℕ) (given : ℕ → List Bool) (second : Bool) (f : Values) : Type 0 where
  pub each : (l : ℕ) → length (given l) ≡ plan.free
  pub free : (i : ℕ) → i < plan.free → f i ≡ packed lanes (λ l. at (given l) i)
  pub set : f 16 ≡ cond second (packed lanes (λ l. true)) 0
  pub one : f 17 ≡ packed lanes (λ l. true)

-- the wires that are read have the words of their sums, where the products have theirs
module _ {table secrets read sums terms : List ℕ} {outputs : ℕ} {plan : Plan} (p : Prepared table secrets read sums terms outputs plan) {lanes : ℕ}
    {given : ℕ → List Bool} {second : Bool} {f : Values} (g : Given plan lanes given second f) where
  abbrev set : List ℕ
  set = set_of table second secrets

  abbrev countable : Countable table set
  countable = p.countable second

  abbrev z : Sizes set plan.others plan.start plan.free
  z = sizes countable p.planned

  sharings : ℕ → List Bool
  sharings e = completed plan.others (bits set) (given e)

  tapes : ℕ → List Bool
  tapes e = drop (plan.others * length set) (given e)

  taken : plan.others * length set ≤ plan.free
  taken = omega (arith, z.starts, z.within)

  free_words : (i : ℕ) → i < plan.free → nth (map (λ m. added m f) free_sums) i ≡ packed lanes (λ l. at (given l) i)
  free_words i l = words-at f free_sums i ∙ ap (λ m. added m f) (free_at i (omega (arith, z.few))) ∙ added-one 64 i f (omega (arith, z.few)) ∙ g.free i l

  long : plan.free ≤ length (map (λ m. added m f) free_sums)
  long = rw (length-map free_sums (λ m. added m f)) z.few

  words : Words (prepared_shares plan (circuit_in table).inputs secrets) (prepared_tape plan) lanes sharings tapes f
  unfolding sharings tapes
  words = record {
    full = g.one;
    shared = rw (
      all_words f plan.others (secret_sums (circuit_in table).inputs secrets) free_sums,
      secret-words f (packed lanes (λ l. true)) second g.set g.one (circuit_in table).inputs secrets p.sized p.bit,
    )
        (sharing_packed lanes given plan.free g.each (map (λ m. added m f) free_sums) long free_words plan.others set taken countable.bit);
    drawn = rw (
      part_is plan.start plan.free free_sums z.within (omega (arith, z.few)),
      map-drop (λ m. added m f) plan.start (take plan.free free_sums),
      map-take (λ m. added m f) plan.free free_sums,
      ← z.starts,
    )
        (drawn-packed lanes given plan.free g.each (map (λ m. added m f) free_sums) long free_words plan.others set taken);
  }

  pub valued : Solves terms outputs read (length read) (size (circuit_in table)) f → (i : ℕ) → i < length read
      → packed lanes (λ l. at (values_with (circuit_in table) (bits set) (given l)) (nth read i)) ≡ added (nth sums (nth read i)) f
  unfolding sharings tapes
  valued s i h =
      let k = circuit_in table in
      let value : (o m : ℕ) → ℕ = λ o m. packed lanes (λ l. at (values_of k.wires (completed o (bits set) (given l)) (drop m (given l))) (nth read i)) in
      sym (ap₂ (λ o m. value o (o * m)) p.planned.others_are countable.sized) ∙ p.expanded.right lanes sharings tapes f words s i h

-- where the two words of a set stand
place_lt : (second : Bool) (half : ℕ) → half < 2 → place_of second half < 4
place_lt true half h = omega arith
place_lt false half h = omega arith

place_half : (second : Bool) (half : ℕ) → half < 2 → place_of second half % 2 ≡ half
place_half true half h = omega arith
place_half false half h = omega arith

place_set : (second : Bool) (half : ℕ) → half < 2 → leb 2 (place_of second half) ≡ second
place_set true half h = le-leb 2 (half + 2) (omega arith)
place_set false half h = lt-leb 2 half (omega arith)

-- a batch: the variables, the products and the wires that are read
module _ {table secrets read sums terms : List ℕ} {outputs : ℕ} {plan : Plan} (p : Prepared table secrets read sums terms outputs plan) {factors batch : ℕ} {filled mid final shown : List ℕ}
    (v : Variables factors plan.free batch filled) (outs : Runs terms 0 outputs filled mid) (reads : Runs terms 32 (32 + length read) mid final) (s : Shows sums read (length read) final shown) where
  few : outputs ≤ 32
  few = p.expanded.few

  -- one of the two words of a set
  module _ (second : Bool) (half : ℕ) (low : half < 2) where
    abbrev w : ℕ
    w = place_of second half

    l : w < 4
    l = place_lt second half low

    abbrev f : Values
    f = words_at w final

    abbrev number : ℕ
    number = 2 * batch + half

    kept : (x : ℕ) → x < 4 * 18 → nth final x ≡ nth filled x
    kept x h = reads.below x (omega arith) ∙ outs.below x (omega arith)

    varied : List Bool
    varied = varied_in factors plan.free

    free_few : plan.free ≤ 16
    free_few = (sizes (p.countable second) p.planned).few

    given : Given plan 64 (λ e. placed varied (64 * number + e)) second f
    unfolding varied
    given = record {
      each = λ e. placed-length (varied_in factors plan.free) (64 * number + e) ∙ length-map (range 0 plan.free) (λ i. lane_bit i factors) ∙ range_length 0 plan.free;
      free = λ i h. kept (4 * i + w) (omega (arith, free_few, l)) ∙ v.free_are i w h l ∙ ap (λ n. placed_word factors plan.free i (2 * batch + n)) (place_half second half low);
      set = let e : 4 * 16 + w ≡ 64 + w = omega arith in kept (4 * 16 + w) (omega (arith, l)) ∙ ap (nth filled) e ∙ v.set w l ∙ ap₂ (λ b n. cond b n 0) (place_set second half low) (sym ones-are);
      one = let e : 4 * 17 + w ≡ 68 + w = omega arith in kept (4 * 17 + w) (omega (arith, l)) ∙ ap (nth filled) e ∙ v.one w l ∙ sym ones-are;
    }

    -- the products have their words
    solves : Solves terms outputs read (length read) (size (circuit_in table)) f
    solves = record {
      outs = λ k h. reads.below (4 * (18 + k) + w) (omega (arith, few, l)) ∙ outs.are k w (omega arith) h l
          ∙ term-same terms k (words_at w mid) f (p.expanded.before k (omega arith) h) (λ y i. sym (reads.below (4 * y + w) (omega (arith, few, l))));
      reads = λ i h u. let e : 50 + i ≡ 18 + (32 + i) = omega arith in ap f e ∙ reads.are (32 + i) w (omega arith) (omega arith) l;
    }

    shows : (i : ℕ) → i < length read
        → nth shown (4 * i + w) ≡ packed 64 (λ e. at (values_with (circuit_in table) (bits (set_of table second secrets)) (placed (varied_in factors plan.free) (64 * number + e))) (nth read i))
    unfolding varied
    shows i h = s.are i w h l ∙ sym (valued p given solves i h)

  pub batch_shown : HoldsShown table secrets factors plan.free batch read shown
  batch_shown = record { are = λ second i half h low. shows second half low i h; sized = s.sized }
