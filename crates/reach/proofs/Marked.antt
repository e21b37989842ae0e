-- Marks on lists of wires: which wires are marked after others are, and after one is cleared.
use mathlib.Core.Path.{◌≡◌, sym, ap, subst, ◌∙◌}
use mathlib.Core.Bool.{false, false≢true}
use mathlib.Core.List.{List, [], ◌∷◌}
use Prim.Native.Nat.{ℕ, zero, suc, ◌<◌}
use native.Mathlib.Omega.{arith}
use lib.Dec.{eqb, ltb}
use lib.ListN.{length, set, length-set, get_or-eq_default}
use lib.Seq.{get_or-set_same, get_or-set_other}
use borrow.Author.Tests.{eqb-true, eqb-false, ltb-true, ltb-false}
use Rattle.circuit.specs.Lists.{nth, mem}
use Rattle.circuit.specs.Circuit.{is_set}
use Rattle.circuit.proofs.Base.{cases, or_cases, or_left, In, in_head, in_tail}
use Rattle.reach.specs.Internal.Marks.{mark_all, Marked}

pub marked_lt : (marks : List ℕ) (x : ℕ) → Marked marks x → x < length marks
marked_lt marks x h = cases (ltb x (length marks)) (ltb-true x (length marks))
    (λ e. absurd (false≢true (sym (ap is_set (get_or-eq_default marks 0 (ltb-false x (length marks) e))) ∙ h)))

-- one mark more
one_keep : (marks : List ℕ) (x y : ℕ) → Marked marks y → Marked (set marks x 1) y
one_keep marks x y h = cases (eqb y x)
    (λ e. subst (λ (n : ℕ). Marked (set marks n 1) y) (eqb-true y x e) (ap is_set (get_or-set_same marks y 1 0 (marked_lt marks y h))))
    (λ e. ap is_set (get_or-set_other marks x y 1 0 (eqb-false y x e)) ∙ h)

pub mark_keep : (marks xs : List ℕ) (y : ℕ) → Marked marks y → Marked (mark_all marks xs) y
mark_keep marks [] y h = h
mark_keep marks (x ∷ xs) y h = mark_keep (set marks x 1) xs y (one_keep marks x y h)

pub mark_new : (marks xs : List ℕ) (y : ℕ) → In y xs → y < length marks → Marked (mark_all marks xs) y
mark_new marks [] y h l = absurd (false≢true h)
mark_new marks (x ∷ xs) y h l = or_cases (eqb y x) (mem y xs) h
    (λ e. mark_keep (set marks x 1) xs y (subst (λ (n : ℕ). Marked (set marks n 1) y) (eqb-true y x e) (ap is_set (get_or-set_same marks y 1 0 l))))
    (λ e. mark_new (set marks x 1) xs y e (subst (λ (n : ℕ). y < n) (sym (length-set marks x 1)) l))

pub mark_cases : {A : Type 0} (marks xs : List ℕ) (y : ℕ) → Marked (mark_all marks xs) y → (In y xs → A) → (Marked marks y → A) → A
mark_cases marks [] y h f g = g h
mark_cases marks (x ∷ xs) y h f g = mark_cases (set marks x 1) xs y h (λ e. f (in_tail y x xs e))
    (λ k. cases (eqb y x) (λ e. f (or_left (eqb y x) (mem y xs) e)) (λ e. g (sym (ap is_set (get_or-set_other marks x y 1 0 (eqb-false y x e))) ∙ k)))

-- one mark less
pub clear-cases : {A : Type 0} (marks : List ℕ) (x y : ℕ) → Marked (set marks x 0) y → (eqb y x ≡ false → Marked marks y → A) → A
clear-cases marks x y h f = cases (eqb y x)
    (λ e. let l = subst (λ (n : ℕ). y < n) (length-set marks x 0) (marked_lt (set marks x 0) y h) in
    absurd (false≢true (sym (subst (λ (n : ℕ). is_set (nth (set marks n 0) y) ≡ false) (eqb-true y x e) (ap is_set (get_or-set_same marks y 0 0 l))) ∙ h)))
    (λ e. f e (sym (ap is_set (get_or-set_other marks x y 0 0 (eqb-false y x e))) ∙ h))

pub clear-other : (marks : List ℕ) (x y : ℕ) → eqb y x ≡ false → Marked marks y → Marked (set marks x 0) y
clear-other marks x y e h = ap is_set (get_or-set_other marks x y 0 0 (eqb-false y x e)) ∙ h

-- what stands at a place of a list is on it
pub nth_in : (xs : List ℕ) (i : ℕ) → i < length xs → In (nth xs i) xs
nth_in [] i l = absurd (omega arith)
nth_in (x ∷ xs) zero l = in_head x xs
nth_in (x ∷ xs) (suc i) l = in_tail (nth xs i) x xs (nth_in xs i (omega arith))
