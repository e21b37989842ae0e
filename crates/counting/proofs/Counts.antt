-- The list of counts that is written is that of the definition.
use mathlib.Core.Path.{◌≡◌, refl, sym, ap, ap₂, subst, ◌∙◌}
use mathlib.Core.Bool.{Bool, true, false}
use mathlib.Core.List.{List, [], ◌∷◌, ◌++◌, map}
use Prim.Native.Nat.{ℕ, zero, suc, ◌+◌, ◌*◌, ◌^◌, ◌≤◌, ◌<◌}
use native.Mathlib.Nat.{zero-add}
use native.Mathlib.Omega.{arith}
use lib.ListN.{length, take, drop, get_or, length-map, length-drop}
use lib.Seq.{sets, sets-eq, length-take-le, get_or-drop}
use Rattle.circuit.specs.Lists.{nth, range, concat_map, overwrite}
use Rattle.circuit.specs.Circuit.{Circuit, is_set}
use Rattle.circuit.proofs.Base.{In, in_head, in_tail, range_in}
use Rattle.semantics.specs.Values.{bits}
use Rattle.gadgets.specs.Internal.Accepting.{circuit_in}
use Rattle.counting.specs.Counting.{combinations, read_wires, pair_count, count_of, numbers_of, count_list}
use Rattle.counting.specs.Internal.Pairs.{shown_of}
use Rattle.counting.specs.Internal.Listing.{four_of, list_of}
use Rattle.counting.specs.Internal.Tallying.{Numbered, Countable, ReadIn, set_of, Tallied, ListsCounts}
use Rattle.counting.proofs.Numbered.{pow_mono, by_place, combinations-length}
use Rattle.counting.proofs.Shown.{count_shown}
use Rattle.counting.proofs.Batches.{some-shares}

-- lists for the elements of a list
each_map : {A B : Type 0} (g : ℕ → A) (f : A → List B) (xs : List ℕ) → concat_map (map g xs) f ≡ concat_map xs (λ x. f (g x))
each_map g f [] = refl
each_map g f (x ∷ xs) = ap (λ r. f (g x) ++ r) (each_map g f xs)

each_same : {B : Type 0} (f g : ℕ → List B) (xs : List ℕ) → ((x : ℕ) → In x xs → f x ≡ g x) → concat_map xs f ≡ concat_map xs g
each_same f g [] h = refl
each_same f g (x ∷ xs) h = ap₂ ◌++◌ (h x (in_head x xs)) (each_same f g xs (λ y i. h y (in_tail y x xs i)))

list_length : (one other : List ℕ) (pairs from count : ℕ) → length (list_of one other pairs from count) ≡ 4 * count
unfolding list_of
list_length one other pairs from zero = refl
list_length one other pairs from (suc n) = omega (arith, list_length one other pairs (suc from) n)

-- a count of the definition is the one that is tallied
shown : {table secrets wires tally : List ℕ} → Countable table secrets → Tallied table secrets wires tally → (probes : List ℕ) → read_wires (circuit_in table) probes ≡ wires
    → (n : ℕ) → n < 2 ^ length wires → count_of (circuit_in table) probes (bits secrets) (get_or (combinations (length wires)) n []) ≡ nth tally n
shown {table} {secrets} {wires} k t probes e n l =
    let c = circuit_in table in
    subst (λ (ws : List ℕ). n < 2 ^ length ws → count_of c probes (bits secrets) (get_or (combinations (length ws)) n []) ≡ shown_of c (bits secrets) ws n) e
    (count_shown c probes (bits secrets) (some-shares k.accepted) (length-map secrets is_set ∙ k.sized) n) l
    ∙ sym (t.counts n l)

module _ {table one other first second wires : List ℕ} (k : Countable table one) (l : Countable table other) (t : Tallied table one wires first)
    (u : Tallied table other wires second) (few : length wires ≤ 8) where
  abbrev c : Circuit
  c = circuit_in table

  list_is : (probes : List ℕ) → read_wires c probes ≡ wires → count_list c probes (bits one) (bits other) ≡ list_of first second (pair_count c) 0 (2 ^ length wires)
  unfolding count_list list_of
  list_is probes e =
      let m = length wires in
      let numbers : List Bool → List ℕ = numbers_of c probes (bits one) (bits other) in
      ap (λ ws. concat_map (combinations (length ws)) numbers) e
      ∙ ap (λ cs. concat_map cs numbers) (by_place (combinations m) [])
      ∙ each_map (λ n. get_or (combinations m) n []) numbers (range 0 (length (combinations m)))
      ∙ ap (λ n. concat_map (range 0 n) (λ x. numbers (get_or (combinations m) x []))) (combinations-length m)
      ∙ each_same (λ n. numbers (get_or (combinations m) n [])) (λ n. four_of (nth first n) (nth second n) (pair_count c)) (range 0 (2 ^ m))
      (λ n i. let h : n < 2 ^ m = omega (arith, range_in n 0 (2 ^ m) i) in ap₂ (λ a b. four_of a b (pair_count c)) (shown k t probes e n h) (shown l u probes e n h))

  -- written from the start of the sheet
  pub sheet-is : (probes : List ℕ) → read_wires c probes ≡ wires → (old : List ℕ) {new : List ℕ} → 1024 ≤ length old
      → new ≡ sets old 0 (list_of first second (pair_count c) 0 (2 ^ length wires))
      → new ≡ overwrite (count_list c probes (bits one) (bits other)) old
  sheet-is probes e old room f =
      let L = list_of first second (pair_count c) 0 (2 ^ length wires) in
      f ∙ sets-eq L old 0 (omega (arith, list_length first second (pair_count c) 0 (2 ^ length wires), pow_mono 8 (length wires) few))
      ∙ ap (λ n. L ++ drop n old) (zero-add (length L)) ∙ ap (λ r. overwrite r old) (sym (list_is probes e))

-- the two sets of one list
few_taken : (n : ℕ) (xs : List ℕ) → ((x : ℕ) → nth xs x ≤ 1) → (x : ℕ) → nth (take n xs) x ≤ 1
few_taken zero xs h x = omega arith
few_taken (suc n) [] h x = omega arith
few_taken (suc n) (y ∷ ys) h zero = h 0
few_taken (suc n) (y ∷ ys) h (suc x) = few_taken n ys (λ z. h (suc z)) x

module _ {table : List ℕ} {inputs randoms : ℕ} (n : Numbered table inputs randoms) (secrets : List ℕ) (both : length secrets ≡ inputs + inputs) (bit : (x : ℕ) → nth secrets x ≤ 1) where
  pub set-countable : (second : Bool) → Countable table (set_of table second secrets)
  set-countable false = record {
    accepted = n.accepted;
    few = n.few;
    sized = length-take-le (circuit_in table).inputs secrets (omega (arith, n.inputs_are));
    bit = few_taken (circuit_in table).inputs secrets bit;
  }
  set-countable true = record {
    accepted = n.accepted;
    few = n.few;
    sized = length-drop (circuit_in table).inputs secrets ∙ omega (arith, n.inputs_are);
    bit = λ x. rw (get_or-drop (circuit_in table).inputs secrets x 0) (bit ((circuit_in table).inputs + x));
  }

  pub lists : {read first second : List ℕ} → ReadIn table read → Tallied table (set_of table false secrets) read first → Tallied table (set_of table true secrets) read second
      → (old : List ℕ) {new : List ℕ} → 1024 ≤ length old → (count pairs : ℕ) → count ≡ 2 ^ length read → pairs ≡ pair_count (circuit_in table)
      → new ≡ sets old 0 (list_of first second pairs 0 count)
      → ListsCounts table secrets inputs read old new
  lists {read} {first} {second} r t u old room count pairs count_is pairs-are f =
      let c = circuit_in table in
      record {
        is = λ probes e. sheet-is (set-countable false) (set-countable true) t u r.few probes e old room (f ∙ ap₂ (λ p m. sets old 0 (list_of first second p 0 m)) pairs-are count_is)
            ∙ ap (λ m. overwrite (count_list c probes (bits (take m secrets)) (bits (drop m secrets))) old) (sym n.inputs_are);
      }
