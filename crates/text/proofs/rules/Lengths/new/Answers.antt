-- A kind's line is short.
use mathlib.Core.Path.{ap}
use native.Mathlib.Omega.{arith}
use Rattle.circuit.specs.Kinds.{kind_of}
use Rattle.frames.specs.declared.kinds.Shape.{Shape}
use Rattle.text.proofs.Scanning.{words-most}
use Rattle.text.proofs.rules.Lengths.new.Goals as goal

pub overflow_add-length : goal.overflow_add-length
overflow_add-length c =
    omega (arith, ap (λ (x : Shape). x.words) c.decide.ensures.shaped, words-most c.args.d (kind_of c.loop-kind.kind))
