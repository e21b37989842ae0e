-- A free bit more: it was gone through, doubles all counts, or moves them.
use mathlib.Core.Path.{◌≡◌, sym, ap}
use Prim.Native.Nat.{◌*◌, ◌^◌, ◌≤◌, ◌<◌}
use native.Mathlib.Omega.{arith}
use lib.Bits.{xor_lt}
use Rattle.circuit.specs.Lists.{nth}
use Rattle.counting.proofs.Numbered.{pow_mono}
use Rattle.counting.proofs.Shifting.{folded-varied, folded-double, folded-next, sums-few, all_left, folded_end}
use Rattle.counting.proofs.linear.fold.Goals as goal
use Rattle.counting.proofs.linear.fold.Goals.{At-loop-i}

-- the numbers of combinations
many : (l : At-loop-i) → (l.power-count.result ≡ 2 ^ l.args.found) × (l.power-count.result ≤ 256)
many l = (l.power-count.ensures.0, omega (arith, l.power-count.ensures.0, pow_mono 8 l.args.found l.requires.0))

pub loop-i-preserved-then-has : goal.loop-i-preserved-then-has
loop-i-preserved-then-has c = folded-varied _ _ _ _ _ c.loop-i.invariant (omega arith) (sym c.if-has.ensures)

pub loop-i-preserved-then-shift-eq0 : goal.loop-i-preserved-then-shift-eq0
loop-i-preserved-then-shift-eq0 c = folded-double _ _ _ _ _ c.loop-i.invariant (omega arith) (sym c.if-has.ensures) c.if-shift-eq0.true

pub add_shifted-requires : goal.add_shifted-requires
add_shifted-requires c =
    let p = c.requires in
    let l = c.loop-i in
    let shift = nth c.args.shifts.now l.i in
    let (e, most) = many (goal.at.add_shifted-requires c).At-loop-i in (
      most,
      omega (arith, c.if-shift-eq0.false),
      λ n h. (
        omega (arith, e, xor_lt c.args.found n shift (omega (arith, e)) (p.2 l.i)),
        sums-few _ _ _ _ _ l.invariant (omega arith) (sym c.if-has.ensures) 65536 p.3 n (omega (arith, e)),
      ),
    )

pub loop-i-preserved : goal.loop-i-preserved
loop-i-preserved c =
    folded-next _ _ _ _ _ c.loop-i.invariant (omega arith) (sym c.if-has.ensures) c.requires.2 (rw (← (many (goal.at.loop-i-preserved c).At-loop-i).0) c.add_shifted.ensures)

pub scale-requires : goal.scale-requires
scale-requires c =
    let (e, most) = many (goal.at.scale-requires c).At-loop-i in (
      most,
      λ n h. let below : n < 2 ^ c.args.found = omega (arith, e) in
          omega (arith, ap (λ x. x * nth c.loop-i.tally n) c.power.ensures.0, all_left _ _ _ _ _ c.loop-i.invariant (omega arith) n below, c.requires.3 n below),
    )

pub returns : goal.returns
returns c = folded_end _ _ _ _ _ c.loop-i.invariant (omega arith) c.power.ensures.0 (rw (← (many (goal.at.returns c).At-loop-i).0) c.scale.ensures)
