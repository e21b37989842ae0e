-- The loop's invariant: the probes so far are at most the highest, and that is below every number that all probes are below.
use native.Mathlib.Omega.{arith}
use Rattle.circuit.proofs.Base.{below_more}
use Rattle.reach.proofs.Marked.{nth_in}
use Rattle.reach.proofs.Highest.{in_most}
use Rattle.reach.proofs.readings.marks_end.Goals as goal

pub loop-wire-init : goal.loop-wire-init
loop-wire-init c = ((λ j l. absurd (omega arith)), (λ n h. omega (arith, h _ (nth_in c.args.probes.now 0 (grind (arith, c.if-is_empty.ensures))))), omega arith)

pub loop-wire-preserved : goal.loop-wire-preserved
loop-wire-preserved c =
    let (below, least, word) = c.loop-wire.invariant in
    let i = c.loop-wire.wire-index in
    let max = c.max-most.ensures in
    let highest = below_more i (λ j h. omega (arith, below j h, max)) (omega (arith, max)) in
    let here = nth_in c.args.probes.now i c.loop-wire-test.true in
    (highest, (λ n h. omega (arith, max, least n h, h _ here)), omega (arith, max, word, c.type_inv.probes i))

pub returns : goal.returns
returns c =
    let (below, least, word) = c.loop-wire.invariant in
    ((λ x i. omega (arith, in_most c.args.probes.now c.loop-wire.most (λ j h. below j (omega arith)) x i)), λ wires h. omega (arith, least wires h))
