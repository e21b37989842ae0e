-- The parts of the gadgets: where a part stands on a list, which parts are made, and that each is made behind those it uses.
use mathlib.Core.Path.{◌≡◌, refl, sym, subst, ◌∙◌}
use mathlib.Core.Bool.{true, false, not}
use mathlib.Core.List.{List, [], ◌∷◌, ◌++◌, map}
use mathlib.Core.Logic.{inl, inr}
use Prim.Native.Nat.{ℕ, suc, ◌+◌, ◌≤◌, ◌<◌}
use native.Mathlib.Omega.{arith}
use native.Mathlib.Decide.{ℕ_discrete}
use lib.Dec.{eqb, ltb}
use lib.ListN.{length}
use borrow.Author.Tests.{not-true}
use Rattle.circuit.specs.Lists.{concat_map}
use Rattle.circuit.specs.Gadgets.{Part, r, R, B, m, M, u, U, v, V', w, W, s, same, labels, above, others, sorted, in_and, in_ref, index}
use Rattle.circuit.proofs.Numbered.{get_all}
use Rattle.circuit.proofs.Base.{cases, eqb_sym, ltb_ne, ltb_other, In, in_head, in_tail, in_range, range_in, in_keep, filter_in, Has, has_left, has_right, has_each, has_map, Every, every_append, every_map, every_each, every_of, AllFrom, all_imp}

-- the wire at the index of a part is that part's
pub index_at : (Q : ℕ → Part → Type 0) (n : ℕ) (ps : List Part) (p : Part) → Has p ps → AllFrom Q n ps → Q (n + index p ps) p
unfolding index
index_at Q n [] p h k = absurd h
index_at Q n (q ∷ ps) p h k = go (same ℕ_discrete p q) h (λ g. index_at Q (suc n) ps p g k.1)
  where
    go : (D : Dec (p ≡ q)) → Has p (q ∷ ps) → (Has p ps → Q (suc n + index p ps) p) → Q (n + (elim D [ yes _ ↦ 0 | no _ ↦ suc (index p ps) ])) p
    go (yes e) g rec = subst (λ (x : ℕ). Q x p) (omega arith) (subst (Q n) (sym e) k.0)
    go (no e) (inl g) rec = absurd (e g)
    go (no e) (inr g) rec = subst (λ (x : ℕ). Q x p) (omega arith) (rec g)

pub index_lt : (ps : List Part) (p : Part) → Has p ps → index p ps < length ps
index_lt ps p h = omega (arith, index_at (λ x q. x < length ps) 0 ps p h (get_all (λ x q. x < length ps) 0 ps p (λ i l. omega arith)))

index-first : (n : ℕ) (ps : List Part) → AllFrom (λ x p. n + index p ps ≤ x) n ps
unfolding index
index-first n [] = tt
index-first n (q ∷ ps) = (here (same ℕ_discrete q q), all_imp (λ x p. suc n + index p ps ≤ x) (λ x p. n + index p (q ∷ ps) ≤ x) (λ x p h. there p (same ℕ_discrete p q) x h) (suc n) ps (index-first (suc n) ps))
  where
    here : (D : Dec (q ≡ q)) → n + (elim D [ yes _ ↦ 0 | no _ ↦ suc (index q ps) ]) ≤ n
    here (yes e) = omega arith
    here (no e) = absurd (e refl)

    there : (p : Part) (D : Dec (p ≡ q)) (x : ℕ) → suc n + index p ps ≤ x → n + (elim D [ yes _ ↦ 0 | no _ ↦ suc (index p ps) ]) ≤ x
    there p (yes e) x h = omega arith
    there p (no e) x h = omega arith

-- a property of each part of a list and the parts before it
module _ (Q : List Part → Part → Type 0) where
  abbrev pub Before : List Part → List Part → Type 0
  Before pre [] = Unit {0}
  Before pre (p ∷ ps) = Q pre p × Before (p ∷ pre) ps

  abbrev pub More : List Part → List Part → Type 0
  More pre more = (q : Part) → Has q pre → Has q more

  pub before-append : (pre xs ys : List Part) → Before pre xs → ((more : List Part) → More pre more → More xs more → Before more ys) → Before pre (xs ++ ys)
  before-append pre [] ys h k = k pre (λ q z. z) (λ q z. absurd z)
  before-append pre (p ∷ xs) ys h k = (h.0, before-append (p ∷ pre) xs ys h.1 (λ more f g. k more (λ q z. f q (inr z)) (λ q z. split more f g q z)))
    where
      split : (more : List Part) → More (p ∷ pre) more → More xs more → (q : Part) → Has q (p ∷ xs) → Has q more
      split more f g q (inl e) = f q (inl e)
      split more f g q (inr z) = g q z

  pub before-each : (pre : List Part) (is : List ℕ) (f : ℕ → List Part) → ((i : ℕ) → In i is → (more : List Part) → More pre more → Before more (f i)) → Before pre (concat_map is f)
  before-each pre [] f g = tt
  before-each pre (i ∷ is) f g = before-append pre (f i) (concat_map is f) (g i (in_head i is) pre (λ q z. z))
      (λ more h k. before-each more is f (λ j z mine l. g j (in_tail j i is z) mine (λ q y. l q (h q y))))

-- where the parts of a list have their wires, those before a part have lower ones
module _ (E : ℕ → Part → Type 0) (n : ℕ) (inside : List Part) where
  abbrev pub Ready : List Part → Part → Type 0
  Ready pre p = (x : ℕ) → n ≤ x → ((q : Part) → Has q pre → n + index q inside < x) → E x p

  walk : (pre ps : List Part) (x : ℕ) → n ≤ x → Before Ready pre ps → AllFrom (λ y q. n + index q inside ≤ y) x ps → ((q : Part) → Has q pre → n + index q inside < x) → AllFrom E x ps
  walk pre [] x l b f h = tt
  walk pre (p ∷ ps) x l b f h = (b.0 x l h, walk (p ∷ pre) ps (suc x) (omega arith) b.1 f.1 known)
    where
      known : (q : Part) → Has q (p ∷ pre) → n + index q inside < suc x
      known q (inl e) = rw e (omega (arith, f.0))
      known q (inr z) = omega (arith, h q z)

  pub ordered : Before Ready [] inside → AllFrom E n inside
  ordered b = walk [] inside n (omega arith) b (index-first n inside) (λ q z. absurd z)

-- two different shares
pub record Pair (d i j : ℕ) : Type 0 where
  pub fst : i < d
  pub snd : j < d
  pub apart : eqb i j ≡ false

pub other : {d i j : ℕ} → Pair d i j → Pair d j i
other {d} {i} {j} o = record { fst = o.snd; snd = o.fst; apart = eqb_sym j i ∙ o.apart }

pub label_lt : (d i : ℕ) → In i (labels d) → i < d
label_lt d i h = omega (arith, range_in i 0 d h)

pub labels_lt : (d : ℕ) → Every (λ i. i < d) (labels d)
labels_lt d = every_of (λ i. i < d) (labels d) (label_lt d)

pub in_labels : (d i : ℕ) → i < d → In i (labels d)
in_labels d i h = in_range i 0 d (omega arith) (omega arith)

pub above_pair : (d i j : ℕ) → In i (labels d) → In j (above d i) → Pair d i j × (ltb i j ≡ true)
above_pair d i j h k = let (a, b) = filter_in (ltb i) (labels d) j k in
    (record { fst = label_lt d i h; snd = label_lt d j a; apart = ltb_ne i j b }, b)

pub others_pair : (d i j : ℕ) → i < d → In j (others d i) → Pair d i j
others_pair d i j h k = let (a, b) = filter_in (λ j. not (eqb i j)) (labels d) j k in
    record { fst = h; snd = label_lt d j a; apart = not-true (eqb i j) b }

in_above : (d i j : ℕ) → j < d → ltb i j ≡ true → In j (above d i)
in_above d i j h k = in_keep (ltb i) (labels d) j (in_labels d j h) k

in_others : (d i j : ℕ) → Pair d i j → In j (others d i)
in_others d i j o = in_keep (λ j. not (eqb i j)) (labels d) j (in_labels d j o.snd) (rw o.apart)

-- the parts that AND makes inside
pub data InAND (d : ℕ) : Part → Type 0 where
  is_r : (i j : ℕ) → Pair d i j → ltb i j ≡ true → InAND d (r i j)
  is_R : (i j : ℕ) → Pair d i j → ltb i j ≡ true → InAND d (R i j)
  is_B : (i : ℕ) → i < d → InAND d (B i)
  is_m : (i : ℕ) → i < d → InAND d (m i)
  is_M : (i : ℕ) → i < d → InAND d (M i)
  is_u : (i j : ℕ) → Pair d i j → InAND d (u i j)
  is_U : (i j : ℕ) → Pair d i j → InAND d (U i j)
  is_v : (i j : ℕ) → Pair d i j → InAND d (v i j)
  is_V : (i j : ℕ) → Pair d i j → InAND d (V' i j)
  is_w : (i j : ℕ) → Pair d i j → InAND d (w i j)
  is_W : (i j : ℕ) → Pair d i j → InAND d (W i j)

abbrev pub cell1 : ℕ → ℕ → List Part
cell1 i j = r i j ∷ R i j ∷ []

abbrev pub cell2 : ℕ → List Part
cell2 i = B i ∷ m i ∷ M i ∷ []

abbrev pub cell3 : ℕ → ℕ → List Part
cell3 i j = u i j ∷ U i j ∷ v i j ∷ V' i j ∷ w i j ∷ W i j ∷ []

abbrev pub sec1 : ℕ → List Part
sec1 d = concat_map (labels d) (λ i. concat_map (above d i) (cell1 i))

abbrev pub sec2 : ℕ → List Part
sec2 d = concat_map (labels d) cell2

abbrev pub sec3 : ℕ → List Part
sec3 d = concat_map (labels d) (λ i. concat_map (others d i) (cell3 i))

pub and_parts : (d : ℕ) → Every (InAND d) (in_and d)
unfolding in_and
and_parts d = every_append (InAND d) (sec1 d ++ sec2 d) (sec3 d)
    (every_append (InAND d) (sec1 d) (sec2 d)
    (every_each (InAND d) (labels d) (λ i. concat_map (above d i) (cell1 i)) (λ i h. every_each (InAND d) (above d i) (cell1 i) (λ j k.
    let (o, l) = above_pair d i j h k in (is_r i j o l, (is_R i j o l, tt)))))
    (every_each (InAND d) (labels d) cell2 (λ i h. let l = label_lt d i h in (is_B i l, (is_m i l, (is_M i l, tt))))))
    (every_each (InAND d) (labels d) (λ i. concat_map (others d i) (cell3 i)) (λ i h. every_each (InAND d) (others d i) (cell3 i) (λ j k.
    let o = others_pair d i j (label_lt d i h) k in (is_u i j o, (is_U i j o, (is_v i j o, (is_V i j o, (is_w i j o, (is_W i j o, tt)))))))))

module _ (d : ℕ) where
  pub has1 : (p : Part) (i j : ℕ) → Pair d i j → ltb i j ≡ true → Has p (cell1 i j) → Has p (sec1 d)
  has1 p i j o l h = has_each p (labels d) (λ i. concat_map (above d i) (cell1 i)) i (in_labels d i o.fst) (has_each p (above d i) (cell1 i) j (in_above d i j o.snd l) h)

  pub has2 : (p : Part) (i : ℕ) → i < d → Has p (cell2 i) → Has p (sec2 d)
  has2 p i l h = has_each p (labels d) cell2 i (in_labels d i l) h

  pub has3 : (p : Part) (i j : ℕ) → Pair d i j → Has p (cell3 i j) → Has p (sec3 d)
  has3 p i j o h = has_each p (labels d) (λ i. concat_map (others d i) (cell3 i)) i (in_labels d i o.fst) (has_each p (others d i) (cell3 i) j (in_others d i j o) h)

  left : (p : Part) → Has p (sec1 d) → Has p (in_and d)
  unfolding in_and
  left p h = has_left p (sec1 d ++ sec2 d) (sec3 d) (has_left p (sec1 d) (sec2 d) h)

  middle : (p : Part) → Has p (sec2 d) → Has p (in_and d)
  unfolding in_and
  middle p h = has_left p (sec1 d ++ sec2 d) (sec3 d) (has_right p (sec1 d) (sec2 d) h)

  right : (p : Part) → Has p (sec3 d) → Has p (in_and d)
  unfolding in_and
  right p h = has_right p (sec1 d ++ sec2 d) (sec3 d) h

  pub and_has : {p : Part} → InAND d p → Has p (in_and d)
  and_has (is_r i j o l) = left (r i j) (has1 (r i j) i j o l (inl refl))
  and_has (is_R i j o l) = left (R i j) (has1 (R i j) i j o l (inr (inl refl)))
  and_has (is_B i l) = middle (B i) (has2 (B i) i l (inl refl))
  and_has (is_m i l) = middle (m i) (has2 (m i) i l (inr (inl refl)))
  and_has (is_M i l) = middle (M i) (has2 (M i) i l (inr (inr (inl refl))))
  and_has (is_u i j o) = right (u i j) (has3 (u i j) i j o (inl refl))
  and_has (is_U i j o) = right (U i j) (has3 (U i j) i j o (inr (inl refl)))
  and_has (is_v i j o) = right (v i j) (has3 (v i j) i j o (inr (inr (inl refl))))
  and_has (is_V i j o) = right (V' i j) (has3 (V' i j) i j o (inr (inr (inr (inl refl)))))
  and_has (is_w i j o) = right (w i j) (has3 (w i j) i j o (inr (inr (inr (inr (inl refl))))))
  and_has (is_W i j o) = right (W i j) (has3 (W i j) i j o (inr (inr (inr (inr (inr (inl refl)))))))

-- the parts that an output c(i) adds up
pub output_every : (Q : ℕ → Type 0) (wire : Part → ℕ) {d i : ℕ} → i < d → Q (wire (M i)) → ((j : ℕ) → Pair d i j → Q (wire (U i j))) → ((j : ℕ) → Pair d i j → Q (wire (W i j)))
    → Every Q (wire (M i) ∷ (map (λ j. wire (U i j)) (others d i) ++ map (λ j. wire (W i j)) (others d i)))
output_every Q wire {d} {i} l h us ws = (
  h,
  every_append Q (map (λ j. wire (U i j)) (others d i)) (map (λ j. wire (W i j)) (others d i))
      (every_map Q (λ j. wire (U i j)) (others d i) (λ j z. us j (others_pair d i j l z))) (every_map Q (λ j. wire (W i j)) (others d i) (λ j z. ws j (others_pair d i j l z))),
)

-- the parts that REF makes inside
pub data InREF (d : ℕ) : Part → Type 0 where
  fresh : (i j : ℕ) → Pair d i j → ltb i j ≡ true → InREF d (r i j)
  added : (i : ℕ) → i < d → InREF d (s i)

abbrev pub fresh1 : ℕ → List Part
fresh1 d = concat_map (labels d) (λ i. concat_map (above d i) (λ j. r i j ∷ []))

pub ref_parts : (d : ℕ) → Every (InREF d) (in_ref d)
unfolding in_ref
ref_parts d = every_append (InREF d) (fresh1 d) (map s (labels d))
    (every_each (InREF d) (labels d) (λ i. concat_map (above d i) (λ j. r i j ∷ [])) (λ i h. every_each (InREF d) (above d i) (λ j. r i j ∷ []) (λ j k.
    let (o, l) = above_pair d i j h k in (fresh i j o l, tt))))
    (every_map (InREF d) s (labels d) (λ i h. added i (label_lt d i h)))

pub fresh_has : (d i j : ℕ) → Pair d i j → ltb i j ≡ true → Has (r i j) (fresh1 d)
fresh_has d i j o l = has_each (r i j) (labels d) (λ i. concat_map (above d i) (λ j. r i j ∷ [])) i (in_labels d i o.fst) (has_each (r i j) (above d i) (λ j. r i j ∷ []) j (in_above d i j o.snd l) (inl refl))

pub ref_has : (d : ℕ) {p : Part} → InREF d p → Has p (in_ref d)
unfolding in_ref
ref_has d (fresh i j o l) = has_left (r i j) (fresh1 d) (map s (labels d)) (fresh_has d i j o l)
ref_has d (added i l) = has_right (s i) (fresh1 d) (map s (labels d)) (has_map s (labels d) i (in_labels d i l))

-- r(i,j) = r(j,i)
pub sorted-at : (Q : ℕ → ℕ → Part → Type 0) (p : ℕ → ℕ → Part) (d i j : ℕ) → Pair d i j → ((i j : ℕ) → Pair d i j → ltb i j ≡ true → Q i j (p i j))
    → ((x : Part) → Q j i x → Q i j x) → Q i j (sorted p i j)
sorted-at Q p d i j o f swap = cases (ltb i j)
    (λ l. rw l (f i j o l))
    (λ l. rw l (swap (p j i) (f j i (other o) (ltb_other i j o.apart l))))
