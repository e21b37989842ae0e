-- The loop's invariant: the lines before this one break none of the rules, and so lie in the room.
use mathlib.Core.Path.{◌≡◌, refl, sym, ap, ◌∙◌}
use mathlib.Core.Bool.{false, false≢true}
use Prim.Native.Nat.{ℕ, ◌-◌}
use native.Mathlib.Omega.{arith}
use lib.ListN.{get_or}
use Rattle.std.specs.Prelude.{Result, Ok, Err, ⊤, is_err}
use Rattle.circuit.specs.declared.rules.Rule.{Rule}
use Rattle.circuit.proofs.Base.{below_more}
use Rattle.text.specs.Internal.Scan.{line_rule}
use Rattle.text.specs.Internal.Blocks.{start_of}
use Rattle.text.proofs.Blocks.{start_next, number_fits}
use Rattle.text.proofs.line.Block.taken.Goals as goal

no_err : (r : Result ⊤ Rule) → is_err r ≡ false → r ≡ Ok tt
no_err (Ok x) h = refl
no_err (Err rule) h = absurd (false≢true (sym h))

pub loop-i-preserved : goal.loop-i-preserved
loop-i-preserved c =
    let l = c.loop-i in
    let d = c.args.lengths.now.d in
    let words = c.args.self.now.words in
    let ends = c.args.self.now.ends in
    let kept = sym (ap (λ (s : ℕ). line_rule d (get_or words s 0) (get_or ends l.i 0 - s) (c.args.room - s)) l.invariant.begins)
    ∙ sym c.rule.ensures ∙ no_err _ (sym c.is_err.ensures.value ∙ c.if-is_err.false) in
    record {
      begins = sym (start_next ends l.i);
      fits = omega (arith, number_fits d (get_or words (start_of ends l.i) 0) (get_or ends l.i 0 - start_of ends l.i) (c.args.room - start_of ends l.i) kept, l.invariant.begins, l.invariant.fits);
      keeps = below_more l.i l.invariant.keeps kept;
    }
