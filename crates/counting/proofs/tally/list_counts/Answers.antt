-- Each sheet has a place for each wire.
use native.Mathlib.Omega.{arith}
use Rattle.circuit.proofs.Exact.{accepted-size}
use Rattle.counting.proofs.tally.list_counts.Goals as goal

pub list_on_sheet-requires-2 : goal.list_on_sheet-requires-2
list_on_sheet-requires-2 c = (c.requires, omega (arith, accepted-size c.requires.numbered.accepted, c.requires.wires_are), omega arith)
