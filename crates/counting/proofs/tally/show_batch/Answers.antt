-- The variables' words, the outputs', those of terms that are read, and the read wires'.
use mathlib.Core.Path.{◌∙◌}
use native.Mathlib.Nat.{mul-le-mul_left}
use native.Mathlib.Omega.{arith}
use Rattle.counting.proofs.Numbered.{pow_mono}
use Rattle.counting.proofs.Preparing.{batch_shown}
use Rattle.counting.proofs.Tallying.{varied-most}
use Rattle.counting.proofs.tally.show_batch.Goals as goal

pub fill_variables-requires : goal.fill_variables-requires
fill_variables-requires c =
    let e = c.args.enumeration in
    let d = e.divides in
    (e.few, omega (arith, mul-le-mul_left e.batches d.some, d.all, pow_mono 16 _ (varied-most e.factors e.plan.free e.few)))

pub returns : goal.returns
returns c = (
  (λ table secrets p. batch_shown p c.fill_variables.ensures c.run.ensures c.run-2.ensures c.show.ensures),
  c.run-2.ensures.sized ∙ c.run.ensures.sized ∙ c.fill_variables.ensures.sized,
  c.show.ensures.sized,
)
