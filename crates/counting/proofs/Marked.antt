-- The marked wires below a number, wire by wire; and that they are those that probes read.
use mathlib.Core.Path.{◌≡◌, refl, sym, ap, subst, ◌∙◌}
use mathlib.Core.Bool.{Bool, cond}
use mathlib.Core.List.{List, [], ◌∷◌, ◌++◌, append-nil}
use Prim.Native.Nat.{ℕ, zero, suc, ◌+◌, ◌-◌, ◌≤◌, ◌<◌, min}
use native.Mathlib.Nat.{zero-add}
use native.Mathlib.Omega.{arith}
use lib.ListN.{length, take, length-append, length-take}
use lib.Seq.{get_or-take, take_all}
use Rattle.circuit.specs.Limits.{wire_limit}
use Rattle.circuit.specs.Lists.{nth, range, filter}
use Rattle.circuit.specs.Circuit.{Circuit, size, is_set}
use Rattle.circuit.proofs.Base.{cases, In, in_head, in_tail, range_in, filter_in}
use Rattle.circuit.proofs.Exact.{accepted-size}
use Rattle.gadgets.specs.Internal.Accepting.{circuit_in}
use Rattle.gadgets.proofs.Bits.{set_low, set_high}
use Rattle.gadgets.proofs.Ranges.{range_split, filter-append, filter_none}
use Rattle.reach.specs.Internal.Marks.{Unmarked}
use Rattle.reach.specs.Internal.Reading.{OnStops}
use Rattle.counting.specs.declared.read_wires.ReadWires.{ReadWires}
use Rattle.counting.specs.Counting.{is_read, read_wires}
use Rattle.counting.specs.Internal.Reading.{marked_below, Probed, listed, Lists, ListsRead, ReadBy}

-- no more pass a filter than there are
filter_few : (p : ℕ → Bool) (n c : ℕ) → length (filter p (range n c)) ≤ c
filter_few p n zero = omega arith
filter_few p n (suc c) = cases (p n) (λ e. rw e (omega (arith, filter_few p (suc n) c))) (λ e. rw e (omega (arith, filter_few p (suc n) c)))

module _ (marks : List ℕ) where
  -- the marked wires below a number, from those below a lower one
  marked_more : (x n : ℕ) → marked_below marks (x + n) ≡ marked_below marks x ++ filter (λ y. is_set (nth marks y)) (range (0 + x) n)
  marked_more x n = ap (filter (λ y. is_set (nth marks y))) (range_split 0 x n) ∙ filter-append (λ y. is_set (nth marks y)) (range 0 x) (range (0 + x) n)

  -- wires with no mark
  unmarked : {x to : ℕ} → x ≤ to → Unmarked marks x to → marked_below marks to ≡ marked_below marks x
  unmarked {x} {to} h none =
      let e : to ≡ x + (to - x) = omega arith in
      ap (marked_below marks) e ∙ marked_more x (to - x)
      ∙ ap (λ r. marked_below marks x ++ r) (filter_none (λ y. is_set (nth marks y)) (0 + x) (to - x) (λ y l u. set_low (nth marks y) (none y (omega arith) (omega arith))))
      ∙ append-nil (marked_below marks x)

  -- one wire, marked or not
  one_marked : (x : ℕ) → 1 ≤ nth marks x → marked_below marks (x + 1) ≡ marked_below marks x ++ x ∷ []
  one_marked x h = marked_more x 1 ∙ simp zero-add (rw (set_high (nth marks x) h))

  pub none_marked : (x : ℕ) → nth marks x ≡ 0 → marked_below marks (x + 1) ≡ marked_below marks x
  none_marked x h = unmarked (omega arith) (λ y k u. let e : x ≡ y = omega arith in subst (λ (n : ℕ). nth marks n < 1) e (omega arith))

  -- no more are below a number than it says
  pub marked_few : (x : ℕ) → length (marked_below marks x) ≤ x
  marked_few x = filter_few (λ y. is_set (nth marks y)) 0 x

-- the first n of a list that goes on behind its first n
take_again : (n : ℕ) (xs ys : List ℕ) → take n (take n xs ++ ys) ≡ take n (xs ++ ys)
take_again zero xs ys = refl
take_again (suc n) [] ys = refl
take_again (suc n) (x ∷ xs) ys = ap (λ zs. x ∷ zs) (take_again n xs ys)

-- the code's list with a wire more, and with wires that have no mark
module _ (marks : List ℕ) (x : ℕ) {l : ReadWires} (h : Lists (marked_below marks x) l) where
  abbrev before : List ℕ
  before = marked_below marks x

  pub lists_more : {more : ReadWires} → 1 ≤ nth marks x → more.count ≡ l.count + 1 → listed more ≡ take 8 (listed l ++ x ∷ []) → Lists (marked_below marks (x + 1)) more
  lists_more {more} m n e = subst (λ (ws : List ℕ). Lists ws more) (sym (one_marked marks x m)) (record {
    all = omega (arith, n, h.all, length-append before (x ∷ []));
    first = e ∙ ap (λ ws. take 8 (ws ++ x ∷ [])) h.first ∙ take_again 8 before (x ∷ []);
  })

  pub lists_same : (to : ℕ) → x ≤ to → Unmarked marks x to → Lists (marked_below marks to) l
  lists_same to u none = subst (λ (ws : List ℕ). Lists ws l) (sym (unmarked marks u none)) h

-- the marks stand on the stops that are read
filter_same : (p q : ℕ → Bool) (xs : List ℕ) → ((x : ℕ) → p x ≡ q x) → filter p xs ≡ filter q xs
filter_same p q [] h = refl
filter_same p q (x ∷ xs) h = rw (h x) (ap (λ r. cond (q x) (x ∷ r) r) (filter_same p q xs h))

nth_in : (xs : List ℕ) (i : ℕ) → i < length xs → In (nth xs i) xs
nth_in [] i l = absurd (omega arith)
nth_in (x ∷ xs) zero l = in_head x xs
nth_in (x ∷ xs) (suc i) l = in_tail (nth xs i) x xs (nth_in xs i (omega arith))

module _ (k : Circuit) {probes marks : List ℕ} (on : OnStops k.wires probes marks) (few : size k ≤ wire_limit) where
  abbrev marked : ℕ → Bool
  marked x = is_set (nth marks x)

  read_marked : read_wires k probes ≡ marked_below marks (size k)
  unfolding read_wires
  read_marked =
      let rest = wire_limit - size k in
      let e : wire_limit ≡ size k + rest = omega arith in
      filter_same (is_read k probes) marked (range 0 wire_limit) (λ x. sym (on.is x)) ∙ ap (λ n. filter marked (range 0 n)) e
      ∙ ap (filter marked) (range_split 0 (size k) rest) ∙ filter-append marked (range 0 (size k)) (range (0 + size k) rest)
      ∙ ap (λ r. marked_below marks (size k) ++ r) (filter_none marked (0 + size k) rest
      (λ x l u. cases (marked x) (λ b. absurd (omega (arith, on.made x b))) (λ b. b))) ∙ append-nil (marked_below marks (size k))

  -- each is a wire of the circuit
  marked_made : (i : ℕ) → i < length (marked_below marks (size k)) → nth (marked_below marks (size k)) i < size k
  marked_made i h = omega (arith, range_in _ 0 (size k) (filter_in marked (range 0 (size k)) (nth (marked_below marks (size k)) i) (nth_in (marked_below marks (size k)) i h)).0)

-- of an accepted table
module _ {table probes marks : List ℕ} {wires : ℕ} (p : Probed table wires probes) (on : OnStops (circuit_in table).wires probes marks) where
  abbrev ws : List ℕ
  ws = marked_below marks (size (circuit_in table))

  pub lists_read : {l : ReadWires} → Lists (marked_below marks wires) l → ListsRead table probes l
  lists_read {l} h =
      let few = accepted-size p.accepted in
      let same : marked_below marks wires ≡ ws = ap (marked_below marks) p.wires_are in
      let e : listed l ≡ take 8 ws = h.first ∙ ap (take 8) same in
      record {
        lists = subst (λ (xs : List ℕ). Lists xs l) (same ∙ sym (read_marked (circuit_in table) on few)) h;
        made = λ i u.
            let n : length (listed l) ≡ min 8 (length ws) = ap length e ∙ length-take 8 ws in
            let is : nth (listed l) i ≡ nth ws i = ap (λ xs. nth xs i) e ∙ get_or-take 8 ws i 0 (omega arith) in
            omega (arith, marked_made (circuit_in table) on few i (omega arith));
      }

-- where they are not too many, all are listed
pub read_by : {table probes : List ℕ} {l : ReadWires} → ListsRead table probes l → l.count ≤ 8 → ReadBy table probes (listed l)
read_by {table} {probes} h few = record { are = h.lists.first ∙ take_all 8 (read_wires (circuit_in table) probes) (omega (arith, h.lists.all)); made = h.made }
