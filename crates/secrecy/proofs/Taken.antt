-- The probed wires, from the last to the first, take share indices by their roles: at most one each.
use mathlib.Core.Path.{◌≡◌, refl, sym, ap, fun_ext, ◌∙◌}
use mathlib.Core.Bool.{Bool-discrete, Bool, true, false, cond, ◌&&◌, ◌||◌, false≢true}
use mathlib.Core.List.{List, [], ◌∷◌, ◌++◌}
use mathlib.Core.Logic.{◌⊎◌, inl, inr, ⊎_map}
use Prim.Native.Nat.{ℕ, suc, ◌+◌, ◌≤◌, ◌<◌}
use native.Mathlib.Omega.{arith}
use native.Mathlib.Decide.{ℕ_discrete}
use lib.ListN.{length}
use lib.Dec.{eqb}
use borrow.Author.Tests.{eqb-true}
use Rattle.circuit.specs.Lists.{mem}
use Rattle.circuit.proofs.Base.{cases, or_left, or_right, or_cases, and_left, and_right, and_both, In, Sub, in_head, in_tail, AllFrom, all_imp}
use Rattle.semantics.specs.Counts.{count_distinct}
use Rattle.secrecy.proofs.Roles.{Role, lone, pair, same-role}

-- the share indices c after a wire with role r, probed or not: a pair adds its second where its first is there
abbrev pub pick : Bool → Role → List ℕ → List ℕ
pick false r c = c
pick true (lone i) c = i ∷ c
pick true (pair w p q) c = cond (mem p c) (q ∷ c) (p ∷ c)

pick_sub : (b : Bool) (r : Role) (c : List ℕ) → Sub c (pick b r c)
pick_sub false r c i h = h
pick_sub true (lone j) c i h = in_tail i j c h
pick_sub true (pair w p q) c i h = cases (mem p c) (λ e. rw e (in_tail i q c h)) (λ e. rw e (in_tail i p c h))

pick_first : (w : Bool) (p q : ℕ) (c : List ℕ) → In p (pick true (pair w p q) c)
pick_first w p q c = cases (mem p c) (λ e. rw e (in_tail p q c e)) (λ e. rw e (in_head p c))

pick_second : (w : Bool) (p q : ℕ) (c : List ℕ) → In p c → In q (pick true (pair w p q) c)
pick_second w p q c e = rw e (in_head q c)

-- a test for a role
abbrev is_role : Role → Role → Bool
is_role o r = elim (same-role ℕ_discrete Bool-discrete o r) [ yes _ ↦ true | no _ ↦ false ]

is_role_refl : (o : Role) → is_role o o ≡ true
is_role_refl o = elim (same-role ℕ_discrete Bool-discrete o o) as (λ D. (elim D as (λ x. Bool) [ yes _ ↦ true | no _ ↦ false ]) ≡ true) [ yes e ↦ refl | no e ↦ absurd (e refl) ]

is_role_eq : (o r : Role) → is_role o r ≡ true → r ≡ o
is_role_eq o r h = go (same-role ℕ_discrete Bool-discrete o r) h
  where
    go : (D : Dec (o ≡ r)) → (elim D as (λ x. Bool) [ yes _ ↦ true | no _ ↦ false ]) ≡ true → r ≡ o
    go (yes e) k = sym e
    go (no e) k = absurd (false≢true k)

-- what a probed wire says of the share indices behind it and of those it leaves
abbrev pub Chosen : List ℕ → List ℕ → Role → Type 0
Chosen out ins (lone i) = In i ins
Chosen out ins (pair w p q) = In p ins × (In q ins ⊎ (mem p out ≡ false))

chosen_sub : (out k ins : List ℕ) (r : Role) → Sub k ins → Chosen out k r → Chosen out ins r
chosen_sub out k ins (lone i) s h = s i h
chosen_sub out k ins (pair w p q) s h = (s p h.0, ⊎_map (s q) (λ x. x) h.1)

chosen_pick : (out c : List ℕ) (r : Role) → Sub out c → Chosen out (pick true r c) r
chosen_pick out c (lone i) s = in_head i c
chosen_pick out c (pair w p q) s =
    (pick_first w p q c, cases (mem p out) (λ e. inl (pick_second w p q c (s p e))) (λ e. inr e))

module _ (is_probed : ℕ → Bool) where
  -- the share indices c and those that the probed wires, numbered from n, take
  abbrev pub taken : List ℕ → ℕ → List Role → List ℕ
  taken c n [] = c
  taken c n (r ∷ rs) = pick (is_probed n) r (taken c (suc n) rs)

  -- whether a wire with the role of this pair is probed, among wires numbered from n
  abbrev pub seen : Bool → ℕ → ℕ → ℕ → List Role → Bool
  seen w p q n [] = false
  seen w p q n (r ∷ rs) = (is_probed n && is_role (pair w p q) r) || seen w p q (suc n) rs

  -- how many wires are probed, among wires numbered from n
  abbrev pub count : ℕ → List Role → ℕ
  count n [] = 0
  count n (r ∷ rs) = cond (is_probed n) (suc (count (suc n) rs)) (count (suc n) rs)

  pub taken_sub : (c : List ℕ) (n : ℕ) (rs : List Role) → Sub c (taken c n rs)
  taken_sub c n [] i h = h
  taken_sub c n (r ∷ rs) i h = pick_sub (is_probed n) r (taken c (suc n) rs) i (taken_sub c (suc n) rs i h)

  pub taken_append : (c : List ℕ) (n : ℕ) (xs ys : List Role) → taken c n (xs ++ ys) ≡ taken (taken c (n + length xs) ys) n xs
  taken_append c n [] ys = ap (λ m. taken c m ys) (omega arith)
  taken_append c n (r ∷ xs) ys = ap (pick (is_probed n) r) (taken_append c (suc n) xs ys ∙ ap (λ m. taken (taken c m ys) (suc n) xs) (omega arith))

  pick_length : (b : Bool) (r : Role) (c : List ℕ) (k m : ℕ) → length c ≤ k + m → length (pick b r c) ≤ k + cond b (suc m) m
  pick_length false r c k m h = h
  pick_length true (lone i) c k m h = omega arith
  pick_length true (pair w p q) c k m h = cases (mem p c) (λ e. rw e (omega arith)) (λ e. rw e (omega arith))

  pub taken_length : (c : List ℕ) (n : ℕ) (rs : List Role) → length (taken c n rs) ≤ length c + count n rs
  taken_length c n [] = omega arith
  taken_length c n (r ∷ rs) = pick_length (is_probed n) r (taken c (suc n) rs) (length c) (count (suc n) rs) (taken_length c (suc n) rs)

  pub chosen : (c : List ℕ) (n : ℕ) (rs : List Role) → AllFrom (λ x r. is_probed x ≡ true → Chosen c (taken c n rs) r) n rs
  chosen c n [] = tt
  chosen c n (r ∷ rs) = (
    (λ h. rw h (chosen_pick c (taken c (suc n) rs) r (taken_sub c (suc n) rs))),
    all_imp (λ x f. is_probed x ≡ true → Chosen c (taken c (suc n) rs) f) (λ x f. is_probed x ≡ true → Chosen c (taken c n (r ∷ rs)) f)
        (λ x f g h. chosen_sub c (taken c (suc n) rs) (taken c n (r ∷ rs)) f (pick_sub (is_probed n) r (taken c (suc n) rs)) (g h)) (suc n) rs (chosen c (suc n) rs),
  )

  -- the pairs of probed wires
  pub seen_all : (n : ℕ) (rs : List Role) → AllFrom (λ x r. is_probed x ≡ true → (w : Bool) (p q : ℕ) → r ≡ pair w p q → seen w p q n rs ≡ true) n rs
  seen_all n [] = tt
  seen_all n (r ∷ rs) = (
    (λ h w p q e. or_left (is_probed n && is_role (pair w p q) r) (seen w p q (suc n) rs) (and_both (is_probed n) (is_role (pair w p q) r) h (rw e (is_role_refl (pair w p q))))),
    all_imp (λ x f. is_probed x ≡ true → (w : Bool) (p q : ℕ) → f ≡ pair w p q → seen w p q (suc n) rs ≡ true)
        (λ x f. is_probed x ≡ true → (w : Bool) (p q : ℕ) → f ≡ pair w p q → seen w p q n (r ∷ rs) ≡ true)
        (λ x f g h w p q e. or_right (is_probed n && is_role (pair w p q) r) (seen w p q (suc n) rs) (g h w p q e)) (suc n) rs (seen_all (suc n) rs),
  )

  seen_in : (w : Bool) (p q : ℕ) (c : List ℕ) (n : ℕ) (rs : List Role) → seen w p q n rs ≡ true → In p (taken c n rs)
  seen_in w p q c n [] h = absurd (false≢true h)
  seen_in w p q c n (r ∷ rs) h = or_cases (is_probed n && is_role (pair w p q) r) (seen w p q (suc n) rs) h
      (λ k. rw (and_left (is_probed n) (is_role (pair w p q) r) k, is_role_eq (pair w p q) r (and_right (is_probed n) (is_role (pair w p q) r) k)) (pick_first w p q (taken c (suc n) rs)))
      (λ k. pick_sub (is_probed n) r (taken c (suc n) rs) p (seen_in w p q c (suc n) rs k))

  head_second : (w : Bool) (p q : ℕ) (c : List ℕ) (n : ℕ) (r : Role) → (is_probed n && is_role (pair w p q) r) ≡ true → In p c → In q (pick (is_probed n) r c)
  head_second w p q c n r h k = rw (and_left (is_probed n) (is_role (pair w p q) r) h, is_role_eq (pair w p q) r (and_right (is_probed n) (is_role (pair w p q) r) h)) (pick_second w p q c k)

  pub seen_both : (p q : ℕ) (c : List ℕ) (n : ℕ) (rs : List Role) → seen false p q n rs ≡ true → seen true p q n rs ≡ true → In q (taken c n rs)
  seen_both p q c n [] h k = absurd (false≢true h)
  seen_both p q c n (r ∷ rs) h k =
      or_cases (is_probed n && is_role (pair false p q) r) (seen false p q (suc n) rs) h
      (λ a. or_cases (is_probed n && is_role (pair true p q) r) (seen true p q (suc n) rs) k
      (λ b. let x = is_role_eq (pair false p q) r (and_right (is_probed n) (is_role (pair false p q) r) a) in
      let y = is_role_eq (pair true p q) r (and_right (is_probed n) (is_role (pair true p q) r) b) in cc)
      (λ b. head_second false p q (taken c (suc n) rs) n r a (seen_in true p q c (suc n) rs b)))
      (λ a. or_cases (is_probed n && is_role (pair true p q) r) (seen true p q (suc n) rs) k
      (λ b. head_second true p q (taken c (suc n) rs) n r b (seen_in false p q c (suc n) rs a))
      (λ b. pick_sub (is_probed n) r (taken c (suc n) rs) q (seen_both p q c (suc n) rs a b)))

-- as many wires are probed as there are different numbers on the list of probes, or fewer
count_past : (p : ℕ) (Q : ℕ → Bool) (n : ℕ) (rs : List Role) → p < n → count (λ x. eqb x p || Q x) n rs ≡ count Q n rs
count_past p Q n [] h = refl
count_past p Q n (r ∷ rs) h = cases (eqb n p) (λ k. let z = eqb-true n p k in absurd (omega arith)) (λ k. rw (k, count_past p Q (suc n) rs (omega arith)))

count-one : (p : ℕ) (Q : ℕ → Bool) (n : ℕ) (rs : List Role) → count (λ x. eqb x p || Q x) n rs ≤ suc (count Q n rs)
count-one p Q n [] = omega arith
count-one p Q n (r ∷ rs) = cases (eqb n p)
    (λ k. let z = eqb-true n p k in rw (k, count_past p Q (suc n) rs (omega arith)) (cases (Q n) (λ q. rw q (omega arith)) (λ q. rw q (omega arith))))
    (λ k. rw k (let h = count-one p Q (suc n) rs in cases (Q n) (λ q. rw q (omega arith)) (λ q. rw q h)))

count_none : (n : ℕ) (rs : List Role) → count (λ x. false) n rs ≡ 0
count_none n [] = refl
count_none n (r ∷ rs) = count_none (suc n) rs

-- a probe that stands on the list already adds nothing
mem-again : (p : ℕ) (ps : List ℕ) → In p ps → (x : ℕ) → mem x (p ∷ ps) ≡ mem x ps
mem-again p ps h x = cases (eqb x p) (λ e. let z = eqb-true x p e in rw e (rw z (sym h))) (λ e. rw e)

pub count_different : (ps : List ℕ) (n : ℕ) (rs : List Role) → count (λ x. mem x ps) n rs ≤ count_distinct ps
count_different [] n rs = omega (arith, count_none n rs)
count_different (p ∷ ps) n rs = cases (mem p ps)
    (λ e. rw (e, fun_ext (mem-again p ps e)) (count_different ps n rs))
    (λ e. rw e (omega (arith, count_different ps n rs, count-one p (λ x. mem x ps) n rs)))
