-- The reading, wire by wire: marks on the stops that probes read show the values of wires.
use mathlib.Core.Path.{◌≡◌, sym, ap, ap₂, subst, ◌∙◌}
use mathlib.Core.Bool.{Bool, false, cond, false≢true}
use mathlib.Core.List.{List, [], ◌++◌, map}
use Prim.Native.Nat.{ℕ, suc, ◌+◌, ◌-◌, ◌≤◌, ◌<◌, zero}
use native.Mathlib.Omega.{arith}
use lib.Dec.{ltb}
use lib.ListN.{length, set, drop, length-set, replicate, length-map, length-replicate, get_or-replicate, get_or-append, get_or-eq_default, get_or-map}
use lib.Seq.{sets, sets-eq}
use borrow.Author.Tests.{ltb-true, ltb-false}
use Rattle.circuit.specs.Limits.{wire_limit}
use Rattle.circuit.specs.Lists.{nth, range, mem, overwrite}
use Rattle.circuit.specs.Wires.{Wire}
use Rattle.circuit.specs.Circuit.{is_set}
use Rattle.circuit.proofs.Base.{cases, In}
use Rattle.circuit.proofs.Sizes.{range_length}
use Rattle.semantics.specs.Values.{byte, bytes, at, values_of}
use Rattle.semantics.specs.Probes.{stops, sheet}
use Rattle.semantics.proofs.Reading.{same_test}
use Rattle.gadgets.proofs.Ranges.{range_turn, range_end, map_on}
use Rattle.gadgets.proofs.Bits.{set_low, set_high}
use Rattle.reach.specs.Internal.Marks.{mark_all, Marked, Unmarked, shown_at}
use Rattle.reach.specs.Internal.Reading.{OnStops, Shows}
use Rattle.semantics.proofs.Values.{values_length}
use Rattle.reach.proofs.Marked.{mark_new, mark_cases}

-- clear marks
no_marks : (n x : ℕ) → nth (replicate n 0) x ≡ 0
no_marks n x = cases (ltb x n) (λ e. get_or-replicate n x 0 0 (ltb-true x n e))
    (λ e. get_or-eq_default (replicate n 0) 0 (subst (λ (m : ℕ). m ≤ x) (sym (length-replicate n 0)) (ltb-false x n e)))

-- marks on probes alone
pub marked_probes : (n : ℕ) (probes : List ℕ) {marks : List ℕ} → marks ≡ mark_all (replicate n 0) probes → ((x : ℕ) → In x probes → x < n) → (x : ℕ) → is_set (nth marks x) ≡ mem x probes
marked_probes n probes e h x = ap (λ m. is_set (nth m x)) e ∙ same_test _ _
    (λ m. mark_cases (replicate n 0) probes x m (λ i. i) (λ z. absurd (false≢true (sym (ap is_set (no_marks n x)) ∙ z))))
    (λ i. mark_new (replicate n 0) probes x i (subst (λ (m : ℕ). x < m) (sym (length-replicate n 0)) (h x i)))

-- and none behind them
pub unmarked_from : (n : ℕ) (probes : List ℕ) {marks : List ℕ} → marks ≡ mark_all (replicate n 0) probes → {end to : ℕ} → ((x : ℕ) → In x probes → x < end) → Unmarked marks end to
unmarked_from n probes {marks} e low x l u = cases (is_set (nth marks x))
    (λ m. absurd (mark_cases {A = ⊥} (replicate n 0) probes x (ap (λ ms. is_set (nth ms x)) (sym e) ∙ m) (λ i. omega (arith, low x i)) (λ z. false≢true (sym (ap is_set (no_marks n x)) ∙ z))))
    (λ m. unset (nth marks x) m)
  where
    unset : (b : ℕ) → is_set b ≡ false → b < 1
    unset zero h = omega arith
    unset (suc b) h = absurd (false≢true (sym h))

module _ (marks values : List ℕ) where
  abbrev shown : ℕ → ℕ
  shown x = shown_at (nth marks x) (nth values x)

  -- the bytes from wire x on
  unfoldable pub shown_from : (x : ℕ) → List ℕ
  shown_from x = map shown (range x (wire_limit - x))

  -- the reading as far as wire x: writing all bytes comes to writing those from there on
  pub record ShownTo (old reading : List ℕ) (x : ℕ) : Type 0 where
    pub sized : length reading ≡ length old
    pub left : sets old 0 (shown_from 0) ≡ sets reading x (shown_from x)

  pub shown-next : {old reading : List ℕ} {x v : ℕ} → ShownTo old reading x → x < wire_limit → v ≡ shown x → ShownTo old (set reading x v) (x + 1)
  unfolding shown_from
  shown-next {reading = reading} {x} {v} t h e = let s : suc x ≡ x + 1 = omega arith in record {
    sized = length-set reading x v ∙ t.sized;
    left = t.left ∙ ap (λ l. sets reading x (map shown l)) (range_turn wire_limit x h) ∙ ap₂ (λ n y. sets (set reading x y) n (shown_from (x + 1))) s (sym e);
  }

  -- a wire that is not marked shows 2
  pub unmarked : {wires x : ℕ} → ((y : ℕ) → Marked marks y → y < wires) → wires ≤ x → 2 ≡ shown x
  unmarked {x = x} h l = cases (ltb (nth marks x) 1) (λ e. rw e) (λ e. absurd (omega (arith, h x (set_high (nth marks x) (ltb-false (nth marks x) 1 e)))))

  -- the bytes of all wires are the reading
  pub shown_end : {old reading : List ℕ} {x : ℕ} → ShownTo old reading x → wire_limit ≤ x → wire_limit ≤ length old → Shows marks values old reading
  unfolding shown_from sheet
  shown_end {old} {reading} {x} t end room = record {
    is = λ ws probes shares tape rest on v. sym (t.left ∙ ap (λ l. sets reading x (map shown l)) (range_end wire_limit x end)) ∙ front (shown_from 0) full
        ∙ ap (λ l. overwrite l old) (map_on _ _ (range 0 wire_limit) (λ x i. is ws probes (values_of ws shares tape) rest on v (values_length shares tape [] ws) x));
  }
    where
      full : length (shown_from 0) ≤ length old
      full = omega (arith, length-map (range 0 wire_limit) shown, range_length 0 wire_limit)

      front : (xs : List ℕ) → length xs ≤ length old → sets old 0 xs ≡ overwrite xs old
      front xs h = let z : 0 + length xs ≡ length xs = omega arith in sets-eq xs old 0 (omega arith) ∙ ap (λ n. xs ++ drop n old) z

      is : (ws : List Wire) (probes : List ℕ) (bs : List Bool) (rest : List ℕ) → OnStops ws probes marks → values ≡ overwrite (bytes bs) rest → length bs ≡ 0 + length ws
          → (x : ℕ) → shown x ≡ cond (mem x (stops ws probes)) (byte (at bs x)) 2
      is ws probes bs rest on v n x = cases (ltb (nth marks x) 1)
          (λ e. rw (e, sym (on.is x) ∙ set_low (nth marks x) (ltb-true (nth marks x) 1 e)))
          (λ e.
          let m = set_high (nth marks x) (ltb-false (nth marks x) 1 e) in
          rw (e, sym (on.is x) ∙ m, v) (get_or-append (bytes bs) (drop (length (bytes bs)) rest) 0 x (omega (arith, on.made x m, length-map bs byte)) ∙ get_or-map byte bs x false))
