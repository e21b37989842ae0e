-- Marks for each wire there may be.
use native.Mathlib.Omega.{arith}
use Rattle.circuit.proofs.Exact.{accepted-size}
use Rattle.counting.proofs.read.list_read.Goals as goal

pub list_by-requires : goal.list_by-requires
list_by-requires c = (c.requires, omega (arith, accepted-size c.requires.accepted, c.requires.wires_are), omega arith)
