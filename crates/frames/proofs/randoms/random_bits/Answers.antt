-- The test of the whole list says each of its numbers; below two shares there is no pair.
use mathlib.Core.Path.{◌≡◌, sym}
use Prim.Native.Nat.{ℕ, ◌≤◌}
use native.Mathlib.Omega.{arith}
use borrow.Author.Tests.{le-leb, lt-leb}
use Rattle.circuit.specs.Kinds.{pairs}
use Rattle.frames.specs.Randoms.{listed_pairs}
use Rattle.frames.proofs.RandomBits.{from-two, no_pairs, few-pairs}
use Rattle.frames.proofs.randoms.random_bits.Goals as goal

-- up to eight shares
told : (d r : ℕ) → d ≤ 8 → r ≡ pairs d → (r ≡ listed_pairs d) × (r ≤ 28)
told d r h e = (rw (le-leb d 8 h) e, omega (arith, few-pairs d h))

pub returns-then-d-lt2 : goal.returns-then-d-lt2
returns-then-d-lt2 c = let d = c.args.d in told d 0 (omega (arith, c.if-d-lt2.true)) (sym (no_pairs d c.if-d-lt2.true))

pub returns-then-d-gt8 : goal.returns-then-d-gt8
returns-then-d-gt8 c = (rw (lt-leb _ _ c.if-d-gt8.true), omega arith)

pub returns : goal.returns
returns c = let d = c.args.d in
    told d _ c.if-d-gt8.false (from-two c.random_numbers-numbers.result c.random_numbers-numbers.ensures.1 c.random_numbers-numbers.ensures.0 d c.if-d-lt2.false c.if-d-gt8.false)
