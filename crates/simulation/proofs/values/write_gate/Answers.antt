-- XOR, NOT and REG are written and told; of another frame nothing is written.
use mathlib.Core.Path.{refl}
use Rattle.simulation.proofs.Evaluating.{written}
use Rattle.simulation.proofs.values.write_gate.Goals as goal

pub returns-in-Gate-Reg : goal.returns-in-Gate-Reg
returns-in-Gate-Reg c =
    let is = rw c.in-Gate-Reg.is at c.in-Gate-Reg.field-0-is in
    rw (c.in-Gate-Reg.is, is) (written (λ d. refl) (λ d from used ops shares tape. c.register.ensures))
