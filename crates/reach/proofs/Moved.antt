-- Marks moved on, wire by wire from the last to the first.
use mathlib.Core.Path.{◌≡◌, refl, sym, ap, ap₂, subst, subst₂, ◌∙◌}
use mathlib.Core.Bool.{true, false}
use mathlib.Core.List.{List, [], ◌∷◌, ◌++◌, map, map-append}
use Prim.Native.Nat.{ℕ, zero, suc, ◌+◌, ◌-◌, ◌*◌, ◌≤◌, ◌<◌}
use native.Mathlib.Nat.{add-zero, add-suc, zero-add, suc-add}
use native.Mathlib.Omega.{arith}
use lib.Dec.{ltb, eqb}
use lib.ListN.{length, set, length-set}
use borrow.Author.Tests.{le-ltb}
use Rattle.circuit.specs.Lists.{nth, range, mem}
use Rattle.circuit.specs.Wires.{Gate, reg, sum, product, and_not, inverse, is_stop}
use Rattle.circuit.specs.Gadgets.{others}
use Rattle.circuit.specs.Kinds.{pairs}
use Rattle.circuit.proofs.Base.{cases, or_cases, or_left, or_right, In}
use Rattle.circuit.proofs.Sizes.{pairs_twice}
use Rattle.semantics.specs.Probes.{operands}
use Rattle.gadgets.specs.Internal.Places.{cross_start, pair_at, cross_at, product_at, out_at, mask_at, sum_at, held_at}
use Rattle.semantics.proofs.Solving.{gate_at}
use Rattle.gadgets.specs.Internal.Gates.{ProductGates, CrossGates, CrossRowGates, CrossAllGates, ProductsGates, OutGates, AndGates, RefGates}
use Rattle.gadgets.proofs.Ranges.{others-is, others-split}
use Rattle.gadgets.proofs.Slots.{slot_low, slot_high, slot_next, slots_up, row_ends, row_room}
use Rattle.reach.specs.Internal.Marks.{mark_all, propagated, six_apart, out_wires, Moving, Moves, Unmarked}
use Rattle.reach.proofs.Reaching.{moving_gate, moving_stop, moving_unmarked}

pub mark_length : (marks xs : List ℕ) → length (mark_all marks xs) ≡ length marks
mark_length marks [] = refl
mark_length marks (x ∷ xs) = mark_length (set marks x 1) xs ∙ length-set marks x 1

pub handed_length : (x : ℕ) (wires marks : List ℕ) → length (propagated x wires marks) ≡ length marks
handed_length x wires marks = cases (ltb (nth marks x) 1) (λ e. rw e) (λ e. rw (e, length-set, mark_length marks wires))

pub mark_append : (marks xs ys : List ℕ) → mark_all marks (xs ++ ys) ≡ mark_all (mark_all marks xs) ys
mark_append marks [] ys = refl
mark_append marks (x ∷ xs) ys = mark_append (set marks x 1) xs ys

-- parts of wires, the later ones first
pub moves_none : {G : (ℕ → Gate) → Type 0} (at : ℕ) (marks : List ℕ) → Moves G at at marks marks
moves_none at marks = record { moved = λ ws probes o g l r h. h; size = refl }

pub moves_then : {G : (ℕ → Gate) → Type 0} {from mid to : ℕ} {old one two : List ℕ} → mid ≤ to → Moves G mid to old one → Moves G from mid one two → Moves G from to old two
moves_then k f g = record {
  moved = λ ws probes o h l r m. g.moved ws probes o h (omega arith) (omega (arith, f.size)) (f.moved ws probes o h l r m);
  size = g.size ∙ f.size;
}

pub moves_for : {G H : (ℕ → Gate) → Type 0} {from to : ℕ} {old new : List ℕ} → ((g : ℕ → Gate) → H g → G g) → Moves G from to old new → Moves H from to old new
moves_for k f = record { moved = λ ws probes o h. f.moved ws probes o (k (gate_at ws) h); size = f.size }

pub moves_at : {G : (ℕ → Gate) → Type 0} {from from' to to' : ℕ} {old new : List ℕ} → from ≡ from' → to ≡ to' → Moves G from to old new → Moves G from' to' old new
moves_at {G} {from} {from'} {to} {to'} {old} {new} p q f = subst₂ (λ a b. Moves G a b old new) p q f

-- a stop keeps its mark
pub moves_stop : {G : (ℕ → Gate) → Type 0} (x : ℕ) (marks : List ℕ) → ((g : ℕ → Gate) → G g → is_stop (g x) ≡ true) → Moves G x (x + 1) marks marks
moves_stop x marks k = record {
  moved = λ ws probes o h l r m. moving_stop ws o probes marks x (omega arith) r (subst (Moving ws probes marks) (omega arith) m) (k (gate_at ws) h);
  size = refl;
}

-- a run of stops
pub moves_stops : {G : (ℕ → Gate) → Type 0} (from count : ℕ) (marks : List ℕ) → ((g : ℕ → Gate) → G g → (q : ℕ) → q < count → is_stop (g (from + q)) ≡ true) → Moves G from (from + count) marks marks
moves_stops from zero marks k = moves_at refl (omega arith) (moves_none from marks)
moves_stops from (suc n) marks k = moves_then (omega arith) (moves_at refl (omega arith) (moves_stop (from + n) marks (λ g h. k g h n (omega arith)))) (moves_stops from n marks (λ g h q l. k g h q (omega arith)))

-- another wire hands its mark on to the wires that it takes
pub moves_hand : {G : (ℕ → Gate) → Type 0} (x : ℕ) (wires marks : List ℕ) → ((g : ℕ → Gate) → G g → is_stop (g x) ≡ false)
    → ((g : ℕ → Gate) → G g → (y : ℕ) → In y wires → In y (operands (g x))) → ((g : ℕ → Gate) → G g → (y : ℕ) → In y (operands (g x)) → In y wires)
    → Moves G x (x + 1) marks (propagated x wires marks)
moves_hand x wires marks k out back = record {
  moved = λ ws probes o h l r m. moving_gate ws o probes marks x (omega arith) r (subst (Moving ws probes marks) (omega arith) m) wires (out (gate_at ws) h) (back (gate_at ws) h) (k (gate_at ws) h);
  size = handed_length x wires marks;
}

-- where the gate is known
pub moves_gate : {G : (ℕ → Gate) → Type 0} (x : ℕ) (z : Gate) (marks : List ℕ) → is_stop z ≡ false → ((g : ℕ → Gate) → G g → g x ≡ z) → Moves G x (x + 1) marks (propagated x (operands z) marks)
moves_gate x z marks e k = moves_hand x (operands z) marks (λ g h. ap is_stop (k g h) ∙ e)
    (λ g h y i. subst (λ (t : Gate). In y (operands t)) (sym (k g h)) i) (λ g h y i. subst (λ (t : Gate). In y (operands t)) (k g h) i)

-- the wires U and W that an output takes
six_apart_append : (a m n : ℕ) → six_apart a (m + n) ≡ six_apart a m ++ six_apart (a + 6 * m) n
unfolding six_apart
six_apart_append a zero n = simp (zero-add, add-zero)
six_apart_append a (suc m) n =
    let e : a + 6 * suc m ≡ a + 6 + 6 * m = omega arith in
    rw (suc-add, e) (ap (λ l. a ∷ l) (six_apart_append (a + 6) m n))

six_apart_map : (f : ℕ → ℕ) (a m n : ℕ) → ((q : ℕ) → q < n → f (m + q) ≡ a + 6 * q) → map f (range m n) ≡ six_apart a n
unfolding six_apart
six_apart_map f a m zero h = refl
six_apart_map f a m (suc n) h =
    ap₂ (λ x l. x ∷ l) (simp add-zero at (h 0 (omega arith))) (six_apart_map f (a + 6) (suc m) n (λ q l. rw (suc-add, ← add-suc) (h (suc q) (omega arith) ∙ omega arith)))

row_six_apart : (d first i k : ℕ) → i < d → map (λ j. cross_at d first i j + k) (others d i) ≡ six_apart (first + cross_start d i + k) (d - 1)
row_six_apart d first i k l =
    let f : ℕ → ℕ = λ j. cross_at d first i j + k in
    let a = first + cross_start d i + k in
    let e : i + (d - suc i) ≡ d - 1 = omega arith in
    rw (others-is d i l, map-append f (range 0 i)) (ap₂ (λ x y. x ++ y) (six_apart_map f a 0 i (λ q h. omega (arith, slot_low i (0 + q) (omega arith))))
    (six_apart_map f (a + 6 * i) (suc i) (d - suc i) (λ q h. omega (arith, slot_high i (suc i + q) (omega arith)))) ∙ sym (six_apart_append a i (d - suc i)) ∙ ap (six_apart a) e)

pub out-wires : (d first i : ℕ) → i < d
    → (product_at d first i + 2) ∷ map (λ j. cross_at d first i j + 1) (others d i) ++ map (λ j. cross_at d first i j + 5) (others d i) ≡ out_wires d first i
out-wires d first i l = ap₂ (λ x y. ((product_at d first i + 2) ∷ x) ++ y) (row_six_apart d first i 1 l) (row_six_apart d first i 5 l)

-- the wires of two shares
pub cross_moved : (x a b r : ℕ) (marks : List ℕ) {one two three : List ℕ} → one ≡ propagated (x + 4) (a ∷ (x + 3) ∷ []) marks → two ≡ propagated (x + 2) (b ∷ r ∷ []) one
    → three ≡ propagated x (a ∷ (r + 1) ∷ []) two → Moves (CrossGates x a b r) x (x + 6) marks three
cross_moved x a b r marks {one} {two} p q s = rw s
    (moves_then (omega arith) (moves_at refl (omega arith) (moves_stop (x + 5) marks (λ g h. ap is_stop h.5)))
    (moves_then (omega arith) (moves_at refl (omega arith) (subst (Moves (CrossGates x a b r) (x + 4) (x + 4 + 1) marks) (sym p) (moves_gate (x + 4) (product a (x + 3)) marks refl (λ g h. h.4))))
    (moves_then (omega arith) (moves_at refl (omega arith) (moves_stop (x + 3) one (λ g h. ap is_stop h.3)))
    (moves_then (omega arith) (moves_at refl (omega arith) (subst (Moves (CrossGates x a b r) (x + 2) (x + 2 + 1) one) (sym q) (moves_gate (x + 2) (sum (b ∷ r ∷ [])) one refl (λ g h. h.2))))
    (moves_then (omega arith) (moves_at refl (omega arith) (moves_stop (x + 1) two (λ g h. ap is_stop h.1)))
    (moves_gate x (and_not a (r + 1)) two refl (λ g h. h.0)))))))

pub six_apart_turn : (from count k : ℕ) → k < count → six_apart (from + 6 * k) (count - k) ≡ (from + 6 * k) ∷ six_apart (from + 6 * (k + 1)) (count - (k + 1))
unfolding six_apart
six_apart_turn from count k h =
    let e : count - k ≡ suc (count - (k + 1)) = omega arith in
    let f : from + 6 * k + 6 ≡ from + 6 * (k + 1) = omega arith in
    rw (e, f)

pub six_apart_end : (from count k : ℕ) → count ≤ k → six_apart (from + 6 * k) (count - k) ≡ []
unfolding six_apart
six_apart_end from count k h = let e : count - k ≡ 0 = omega arith in ap (six_apart (from + 6 * k)) e

-- the outputs from i on
pub outs-moved : (d first i : ℕ) {n : ℕ} {old mid new : List ℕ} → i < d → n ≡ i + 1 → Moves (OutGates d first) (out_at d first n) (out_at d first d) old mid
    → new ≡ propagated (out_at d first i) (out_wires d first i) mid → Moves (OutGates d first) (out_at d first i) (out_at d first d) old new
outs-moved d first i {mid = mid} l next f e =
    rw (e, ← out-wires d first i l) (moves_then (omega arith) f (moves_at refl (omega arith) (moves_gate (out_at d first i) _ mid refl (λ g h. h i l))))

-- the wires of the share i and each from j on; where the code finds u and r
pub row_moved : (d first : ℕ) (a b : ℕ → ℕ) (i j to : ℕ) {n : ℕ} {old mid new : List ℕ} → j < d → (j ≡ i → ⊥) → j < to → n ≡ j + 1
    → Moves (CrossRowGates d first a b i) (cross_at d first i n) (cross_at d first i to) old mid → (p q x y : ℕ) → p ≡ cross_at d first i j → q ≡ pair_at d first i j → x ≡ a i → y ≡ b j
    → Moves (CrossGates p x y q) p (p + 6) mid new → Moves (CrossRowGates d first a b i) (cross_at d first i j) (cross_at d first i to) old new
row_moved d first a b i j to {mid = mid} {new} l ne h next f p q x y p-is q-is x_is y_is g =
    let here : Moves (CrossGates (cross_at d first i j) (a i) (b j) (pair_at d first i j)) (cross_at d first i j) (cross_at d first i j + 6) mid new = rw (p-is, q-is, x_is, y_is) at g in
    moves_then (slots_up d first i (j + 1) to (omega arith)) (moves_at (ap (cross_at d first i) next) refl f) (moves_at refl (omega (arith, slot_next i j ne)) (moves_for (λ z q. q j l ne) here))

-- both halves of a row
pub rows_moved : (d first : ℕ) (a b : ℕ → ℕ) (i : ℕ) {n : ℕ} {old mid one two : List ℕ} → i < d → n ≡ i + 1
    → Moves (CrossAllGates d first a b) (first + cross_start d n) (first + cross_start d d) old mid
    → Moves (CrossRowGates d first a b i) (cross_at d first i (i + 1)) (cross_at d first i d) mid one → Moves (CrossRowGates d first a b i) (cross_at d first i 0) (cross_at d first i i) one two
    → Moves (CrossAllGates d first a b) (first + cross_start d i) (first + cross_start d d) old two
rows_moved d first a b i l next f g h =
    let ends = row_ends d first i l in
    moves_then (row_room d first i l) (moves_at (ap (λ m. first + cross_start d m) next) refl f)
    (moves_then ends.within (moves_at ends.mid ends.last (moves_for (λ z q. q i l) g)) (moves_at ends.first_is refl (moves_for (λ z q. q i l) h)))

-- B, m and M
pub product-moved : (x a b : ℕ) (marks : List ℕ) → Moves (ProductGates x a b) x (x + 3) marks (propagated (x + 1) (a ∷ x ∷ []) marks)
product-moved x a b marks =
    let new = propagated (x + 1) (a ∷ x ∷ []) marks in
    moves_then (omega arith) (moves_at refl (omega arith) (moves_stop (x + 2) marks (λ g h. ap is_stop h.2)))
    (moves_then (omega arith) (moves_at refl (omega arith) (moves_gate (x + 1) (product a x) marks refl (λ g h. h.1))) (moves_stop x new (λ g h. ap is_stop h.0)))

-- those of the shares from i on; where the code finds B and a
pub products-moved : (d first : ℕ) (a b : ℕ → ℕ) (i : ℕ) {n : ℕ} {old mid new : List ℕ} → i < d → n ≡ i + 1 → Moves (ProductsGates d first a b) (product_at d first n) (product_at d first d) old mid
    → (p x : ℕ) → p ≡ product_at d first i → x ≡ a i → new ≡ propagated (p + 1) (x ∷ p ∷ []) mid → Moves (ProductsGates d first a b) (product_at d first i) (product_at d first d) old new
products-moved d first a b i {mid = mid} l next f p x p-is x_is e =
    rw (e, p-is, x_is) (moves_then (omega arith) f (moves_at refl (omega arith) (moves_for (λ g h. h i l) (product-moved (product_at d first i) (a i) (b i) mid))))

-- r and R of every pair
moves_pairs : {G : (ℕ → Gate) → Type 0} (from count : ℕ) (marks : List ℕ)
    → ((g : ℕ → Gate) → G g → (q : ℕ) → q < count → (is_stop (g (from + 2 * q)) ≡ true) × (is_stop (g (from + 2 * q + 1)) ≡ true)) → Moves G from (from + 2 * count) marks marks
moves_pairs from zero marks k = moves_at refl (omega arith) (moves_none from marks)
moves_pairs from (suc n) marks k =
    moves_then (omega arith) (moves_at refl (omega arith) (moves_stop (from + 2 * n + 1) marks (λ g h. (k g h n (omega arith)).1)))
    (moves_then (omega arith) (moves_stop (from + 2 * n) marks (λ g h. (k g h n (omega arith)).0)) (moves_pairs from n marks (λ g h q l. k g h q (omega arith))))

pub and-moved : (d first : ℕ) (a b : ℕ → ℕ) {old one two three : List ℕ} → Moves (OutGates d first) (out_at d first 0) (out_at d first d) old one
    → Moves (CrossAllGates d first a b) (first + cross_start d 0) (first + cross_start d d) one two
    → Moves (ProductsGates d first a b) (product_at d first 0) (product_at d first d) two three
    → Moves (λ g. AndGates g d first a b) first (first + (7 * (d * (d - 1)) + 4 * d)) old three
and-moved d first a b {three = three} outs rows products =
    moves_then (omega arith) (moves_at (omega arith) (omega arith) (moves_for (λ g h. h.outs) outs))
    (moves_then (omega arith) (moves_for (λ g h. h.crosses) rows)
    (moves_then (omega arith) (moves_at refl (omega arith) (moves_for (λ g h. h.products) products))
    (moves_at refl (omega (arith, pairs_twice d)) (moves_pairs first (pairs d) three (λ g h q l. (ap is_stop (h.draws q l).0, ap is_stop (h.draws q l).1))))))

-- an output's marks, as the code sets them
pub out_handed : (d first i : ℕ) (marks : List ℕ) {one two : List ℕ} (wire row o : ℕ) → wire ≡ out_at d first i → row ≡ first + cross_start d i → o ≡ product_at d first i + 2 → 1 ≤ nth marks wire
    → one ≡ mark_all (set marks o 1) (six_apart (row + 1) (d - 1)) → two ≡ mark_all one (six_apart (row + 5) (d - 1)) → set two wire 0 ≡ propagated (out_at d first i) (out_wires d first i) marks
out_handed d first i marks wire row o w_is r_is o_is h e f =
    rw (← w_is, ← r_is, ← o_is, le-ltb (nth marks wire) 1 h, f, e, mark_append (set marks o 1) (six_apart (row + 1) (d - 1)) (six_apart (row + 5) (d - 1)))

pub below-is : (n m : ℕ) → m ≤ n → n ≤ m → n ≡ m
below-is n m h k = omega arith

-- a sum's marks, as the code sets them
pub sum_handed : (d first i a : ℕ) (marks : List ℕ) {one two : List ℕ} (wire : ℕ) → i < d → wire ≡ sum_at d first i → 1 ≤ nth marks wire
    → one ≡ mark_all (set marks a 1) (map (mask_at d first i) (range 0 (i - 0))) → two ≡ mark_all one (map (mask_at d first i) (range (i + 1) (d - (i + 1))))
    → set two wire 0 ≡ propagated (sum_at d first i) (a ∷ map (mask_at d first i) (others d i)) marks
sum_handed d first i a marks wire l w_is h e f =
    let g = mask_at d first i in
    rw (← w_is, le-ltb (nth marks wire) 1 h, f, e, others-split d i l, map-append g (range 0 (i - 0)), mark_append (set marks a 1) (map g (range 0 (i - 0))))

pub sums_moved : (d first : ℕ) (a : ℕ → ℕ) (i : ℕ) {n to : ℕ} {old mid new : List ℕ} → i < d → n ≡ i + 1 → Moves (λ g. RefGates g d first a) (sum_at d first n) to old mid
    → (x : ℕ) → x ≡ a i → new ≡ propagated (sum_at d first i) (x ∷ map (mask_at d first i) (others d i)) mid → sum_at d first n ≤ to → Moves (λ g. RefGates g d first a) (sum_at d first i) to old new
sums_moved d first a i {mid = mid} l next f x x_is e room =
    rw (e, x_is) (moves_then room f (moves_at refl (omega arith) (moves_gate (sum_at d first i) (sum (a i ∷ map (mask_at d first i) (others d i))) mid refl (λ g h. h.sums i l))))

-- REF's outputs are stops, and so are its random bits
pub held_moved : (d first : ℕ) (a : ℕ → ℕ) (marks : List ℕ) → Moves (λ g. RefGates g d first a) (sum_at d first d) (first + (pairs d + 2 * d)) marks marks
held_moved d first a marks = moves_at refl (omega arith) (moves_stops (sum_at d first d) d marks (λ g h q l. let e : held_at d first q ≡ sum_at d first d + q = omega arith in ap is_stop (subst (λ (n : ℕ). g n ≡ reg (sum_at d first q)) e (h.holds q l))))

pub drawn-moved : (d first : ℕ) (a : ℕ → ℕ) (marks : List ℕ) → Moves (λ g. RefGates g d first a) first (sum_at d first 0) marks marks
drawn-moved d first a marks = moves_at refl (omega arith) (moves_stops first (pairs d) marks (λ g h q l. ap is_stop (h.draws q l)))

-- wires with no mark
pub moves_unmarked : {G : (ℕ → Gate) → Type 0} (from to : ℕ) (marks : List ℕ) → Unmarked marks from to → Moves G from to marks marks
moves_unmarked from to marks k = record { moved = λ ws probes o h l r m. moving_unmarked m k; size = refl }

-- a gate with one operand, marked twice
pub twice_moved : {G : (ℕ → Gate) → Type 0} (x y : ℕ) (marks : List ℕ) → ((g : ℕ → Gate) → G g → g x ≡ inverse y) → Moves G x (x + 1) marks (propagated x (y ∷ y ∷ []) marks)
twice_moved x y marks k = moves_hand x (y ∷ y ∷ []) marks (λ g h. ap is_stop (k g h))
    (λ g h z i. subst (λ (t : Gate). In z (operands t)) (sym (k g h)) (or_cases (eqb z y) (mem z (y ∷ [])) i (or_left (eqb z y) false) (λ e. e)))
    (λ g h z i. or_right (eqb z y) (mem z (y ∷ [])) (subst (λ (t : Gate). In z (operands t)) (k g h) i))
