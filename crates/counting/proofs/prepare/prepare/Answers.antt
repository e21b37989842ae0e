-- The shares are completed from the free bits, the random bits are the rest of them.
use mathlib.Core.Path.{◌≡◌, refl, sym, ap, ◌∙◌}
use Prim.Native.Nat.{◌+◌, ◌*◌, ◌≤◌}
use native.Mathlib.Nat.{mul-le-mul_right}
use native.Mathlib.Omega.{arith}
use lib.ListN.{length, take}
use lib.Seq.{length-take-le}
use Rattle.counting.proofs.Batches.{sizes}
use Rattle.counting.proofs.Lent.{prepared-low, lasts_many, sharing_is, tape_is, lent_evaluable}
use Rattle.counting.proofs.prepare.prepare.Goals as goal
use Rattle.counting.proofs.prepare.prepare.Goals.{Start}

-- the numbers of the plan
record Numbers (s : Start) : Type 0 where
  some : 1 ≤ s.args.plan.others
  most : s.args.plan.others ≤ 7
  starts : s.args.plan.others * s.args.inputs ≡ s.args.plan.start
  within : s.args.plan.start ≤ s.args.plan.free
  few : s.args.plan.free ≤ 16
  inputs : s.args.inputs ≤ 16
  shares : (s.args.plan.others + 1) * s.args.inputs ≤ 32

numbers : (s : Start) → Numbers s
numbers s =
    let z = sizes s.requires.0 s.requires.1 in
    let n : length (take s.args.inputs s.args.secrets.now) ≡ s.args.inputs = s.requires.0.sized ∙ sym s.requires.3 in
    let starts : s.args.plan.others * s.args.inputs ≡ s.args.plan.start = ap (λ m. s.args.plan.others * m) (sym n) ∙ z.starts in
    record {
      some = z.some;
      most = z.most;
      starts = starts;
      within = z.within;
      few = z.few;
      inputs = omega (arith, mul-le-mul_right s.args.inputs z.some, starts, z.within, z.few);
      shares = omega (arith, ap (λ m. (s.args.plan.others + 1) * m) n, z.shares);
    }

pub secret_sums-lasts-requires : goal.secret_sums-lasts-requires
secret_sums-lasts-requires c = (c.requires.4, (numbers (goal.at.secret_sums-lasts-requires c).Start).inputs)

pub slice_bounds-lasts-end : goal.slice_bounds-lasts-end
slice_bounds-lasts-end c = omega (arith, (numbers (goal.at.slice_bounds-lasts-end c).Start).inputs)

pub slice_bounds-complete-end : goal.slice_bounds-complete-end
slice_bounds-complete-end c = omega (arith, lasts_many c.secret_sums-lasts.ensures)

pub complete-requires : goal.complete-requires
complete-requires c = let n = numbers (goal.at.complete-requires c).Start in (
  n.some,
  omega (arith, ap (λ m. c.args.plan.others * m) (lasts_many c.secret_sums-lasts.ensures), n.starts, n.within, n.few),
)

pub overflow_add-shares : goal.overflow_add-shares
overflow_add-shares c = omega (arith, (numbers (goal.at.overflow_add-shares c).Start).most)

pub slice_bounds-shares-end : goal.slice_bounds-shares-end
slice_bounds-shares-end c = omega (arith, (numbers (goal.at.slice_bounds-shares-end c).Start).shares)

pub slice_bounds-sharing-end : goal.slice_bounds-sharing-end
slice_bounds-sharing-end c = sym (length-take-le _ c.complete.new.shares (omega (arith, (numbers (goal.at.slice_bounds-sharing-end c).Start).shares)))

pub expand-outputs-requires : goal.expand-outputs-requires
expand-outputs-requires c =
    let p = c.requires in
    let free = c.free_sums-free.ensures in
    let lasts = c.secret_sums-lasts.ensures in
    let (evaluable, short) = lent_evaluable p.0 p.1 p.3 free lasts c.complete.ensures p.5 in
    let (shares, tape) = prepared-low c.args.plan c.args.inputs c.args.secrets.now in
    rw (sharing_is p.0 p.1 p.3 free lasts c.complete.ensures, tape_is p.0 p.1 p.3 free lasts c.complete.ensures) (evaluable, short, shares, tape, p.6, p.2.few, p.2.made, refl)

pub returns : goal.returns
returns c =
    let p = c.requires in
    let free = c.free_sums-free.ensures in
    let lasts = c.secret_sums-lasts.ensures in
    rw (← sharing_is p.0 p.1 p.3 free lasts c.complete.ensures, ← tape_is p.0 p.1 p.3 free lasts c.complete.ensures) c.expand-outputs.ensures
