-- From share indices that decide to equal counts: a share that no probe reaches can carry any change of the secret bits.
use mathlib.Core.Path.{◌≡◌, sym, ap, ap₂, subst, ◌∙◌}
use mathlib.Core.Bool.{Bool, false, cond, ◌&&◌, beq, false≢true}
use mathlib.Core.List.{List, [], append-nil}
use Prim.Native.Nat.{ℕ, ◌+◌, ◌*◌}
use native.Mathlib.Omega.{arith}
use lib.Dec.{eqb}
use borrow.Author.Tests.{eqb-true}
use Rattle.circuit.specs.Lists.{mem}
use Rattle.circuit.specs.Circuit.{Circuit}
use Rattle.circuit.proofs.Base.{cases, clash, In}
use Rattle.semantics.specs.Values.{bits, values_of}
use Rattle.semantics.specs.Probes.{stops, sheet, reading_of}
use Rattle.semantics.specs.Counts.{sum_over, alike, secrets_of, pairs_for, EqualCounts}
use Rattle.secrecy.specs.Deciding.{tapes_for, Deciding}
use Rattle.secrecy.proofs.Sums.{sum_bits, overwrite-bits, overwrite_if, sum_same, flipped, sum_flipped}
use Rattle.secrecy.proofs.FreeLabel.{free}
use Rattle.secrecy.proofs.Masks.{flipped_at, flipped_length, mask, mask_at, secrets_flipped, alike_flipped}

apart : (i j : ℕ) (ys : List ℕ) → In i ys → mem j ys ≡ false → eqb i j ≡ false
apart i j ys h n = cases (eqb i j) (λ e. clash (subst (λ (x : ℕ). In x ys) (eqb-true i j e) h) n) (λ e. e)

-- the pairs, sharing by sharing
module _ (k : Circuit) (probes : List ℕ) (reading : List ℕ) where
  abbrev pub of_sharing : (secrets shares : List Bool) → ℕ
  of_sharing secrets shares = cond (alike beq (secrets_of k.d k.inputs shares) secrets) (tapes_for k probes [] shares reading) 0

  pub by_sharing : (secrets : List Bool) → pairs_for k probes secrets reading ≡ sum_bits (k.inputs * k.d) (of_sharing secrets)
  unfolding pairs_for tapes_for
  by_sharing secrets =
      let right : List Bool → Bool = λ shares. alike beq (secrets_of k.d k.inputs shares) secrets in
      let reads : List Bool → List ℕ → Bool = λ shares tape. alike eqb (reading_of k.wires probes shares (bits tape)) reading in
      overwrite-bits (k.inputs * k.d) (λ shares. sum_over k.randoms (λ tape. cond (right shares && reads shares tape) 1 0))
      ∙ sum_same (k.inputs * k.d) (λ shares. sum_over k.randoms (λ tape. cond (right shares && reads shares tape) 1 0)) (of_sharing secrets) (λ shares n.
      overwrite_if (right shares) k.randoms (reads shares)
      ∙ ap (λ read. cond (right shares) (sum_over k.randoms (λ tape. cond (alike eqb (sheet read (values_of k.wires shares (bits tape))) reading) 1 0)) 0)
      (sym (append-nil (stops k.wires probes))))

-- where share indices decide, and one of d is free, the secret bits do not show
pub equal_from-indices : (k : Circuit) (probes : List ℕ) → Deciding k probes [] → EqualCounts k probes
equal_from-indices k probes D few one other l l' reading =
    let d = k.d in
    let n = k.inputs in
    let J = D.indices in
    let f = free d J (omega (arith, D.few)) in
    let changes = flipped one other in
    let ms = mask d f.number changes in
    by_sharing k probes reading one
    ∙ sum_same (n * d) (of_sharing k probes reading one) (λ shares. of_sharing k probes reading other (flipped shares ms)) (λ shares q.
    ap₂ (λ x y. cond x y 0)
    (alike_flipped (secrets_of d n shares) one other (l ∙ sym l') ∙ ap (λ s. alike beq s other) (sym (secrets_flipped d f.number n shares changes f.below (flipped_length one other ∙ l) q)))
    (D.decide [] (λ x h. absurd (false≢true h)) shares (flipped shares ms) (λ a i h y. sym (flipped_at (a * d + i) shares ms (mask_at d f.number changes a i h (apart i f.number J y f.absent)))) reading))
    ∙ sum_flipped (n * d) (of_sharing k probes reading other) ms
    ∙ sym (by_sharing k probes reading other)
