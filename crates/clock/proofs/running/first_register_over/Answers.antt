-- The largest byte tells that there is none, or the registers are searched.
use native.Mathlib.Omega.{arith}
use lib.Seq.{get_or-take, length-take-le}
use Rattle.clock.proofs.Calling.{none_over_bank}
use Rattle.clock.proofs.running.first_register_over.Goals as goal

pub returns-then-largest-le1 : goal.returns-then-largest-le1
returns-then-largest-le1 c =
    let a = c.args in
    none_over_bank _ a.bank.now c.requires.1
    (λ x l. omega (arith, c.largest.ensures.is x (omega (arith, length-take-le a.wires a.bank.now (omega (arith, c.requires.0.1, c.requires.1)))), get_or-take a.wires a.bank.now x 0 l))
