-- The loop's invariant: what is added so far, and the variables that are left, make up each of the four sums.
use Prim.Native.Nat.{◌-◌, ◌<◌}
use native.Mathlib.Omega.{arith}
use lib.Bits.{bit_and, and_le_r}
use lib.Count.{count_trailing_zeros}
use Rattle.simulation.specs.Internal.Filling.{Values}
use Rattle.symbolic.proofs.Masks.{Lowest, lowest, added_next, added_end}
use Rattle.symbolic.proofs.evaluate.sum.Goals as goal
use Rattle.symbolic.proofs.evaluate.sum.Goals.{In-loop-rest}

-- the lowest variable that is left
next : (c : In-loop-rest) (f : Values) → Lowest 64 c.loop-rest.rest f (count_trailing_zeros 64 c.loop-rest.rest)
next c f = lowest 64 c.loop-rest.rest f (omega (arith, c.loop-rest-test.true)) (omega (arith, c.loop-rest.invariant.most, c.well_formed.1.0))

inside : (c : In-loop-rest) → count_trailing_zeros 64 c.loop-rest.rest < 64
inside c = (next c (λ s. 0)).inside

-- fewer are left without it
less : (c : In-loop-rest) → let rest = c.loop-rest.rest in bit_and rest (rest - 1) < rest
less c = let rest = c.loop-rest.rest in omega (arith, c.loop-rest-test.true, and_le_r rest (rest - 1))

pub loop-rest-preserved : goal.loop-rest-preserved
loop-rest-preserved c =
    let i = c.loop-rest.invariant in
    let h = goal.at.loop-rest-preserved c in
    let e = c.add-all.ensures in
    let r = c.variable_words.ensures in
    record {
      most = omega (arith, less h.In-loop-rest);
      a = added_next i.a (next h.In-loop-rest _) e.0 r.0;
      b = added_next i.b (next h.In-loop-rest _) e.1 r.1;
      c = added_next i.c (next h.In-loop-rest _) e.2 r.2;
      d = added_next i.d (next h.In-loop-rest _) e.3 r.3;
    }

pub returns : goal.returns
returns c = let i = c.loop-rest.invariant in let h = c.loop-rest-test.false in (added_end i.a h, added_end i.b h, added_end i.c h, added_end i.d h)
