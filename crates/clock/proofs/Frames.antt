-- A frame on a clock: the wires of gates that are no registers are filled in as in an evaluation.
use mathlib.Core.Path.{◌≡◌, refl, ap, ◌∙◌}
use mathlib.Core.Bool.{false, cond}
use mathlib.Core.List.{List}
use Prim.Native.Nat.{ℕ, ◌+◌, ◌-◌, ◌≤◌, ◌<◌}
use native.Mathlib.Omega.{arith}
use lib.Bits.{bit_xor, xor_zero_r}
use Rattle.circuit.specs.Lists.{nth}
use Rattle.circuit.specs.Wires.{reg}
use Rattle.circuit.specs.Circuit.{is_set}
use Rattle.semantics.specs.Clock.{is_register}
use Rattle.frames.specs.declared.walk.Gate.TheVariants as gate
use Rattle.frames.specs.declared.walk.Frame.TheVariants as frame
use Rattle.simulation.specs.Internal.Filling.{Values, Fills, Copied}
use Rattle.clock.specs.Internal.Running.{Clock, Runs}
use Rattle.clock.specs.Internal.Parts.{Framed}
use Rattle.clock.proofs.Wires.{met, fill, runs_none, runs_at}

-- wires that are filled in, none of them a register
filled_runs : {G : Clock → Type 0} {E : Values → Type 0} {from to : ℕ} {values new bank : List ℕ} → from ≤ to → Fills E from to values new
    → ((k : Clock) → G k → (to ≤ k.size) × E k.shows × ((x : ℕ) → from ≤ x → x < to → is_register (k.gate x) ≡ false)) → Runs G from to values bank new bank
filled_runs l f h = record { on = λ k g u. let (few, e, plain) = h k g in fill u f l few e plain; sized = f.size; held_sized = refl }

-- one wire
one : (k : Clock) (first : ℕ) → is_register (k.gate first) ≡ false → (x : ℕ) → first ≤ x → x < first + 1 → is_register (k.gate x) ≡ false
one k first h x l m = let e : x ≡ first = omega arith in ap (λ y. is_register (k.gate y)) e ∙ h

module _ {d first from used : ℕ} {ops shares tape : List ℕ} where
  pub in_runs : {t : ℕ} {values new bank : List ℕ} → Fills (Copied shares from first d) first (first + d) values new
      → Runs (Framed (frame.Gate (gate.In t)) d first from used ops shares tape) first (first + d) values bank new bank
  in_runs f = filled_runs (omega arith) f (λ k g. (
    g.within,
    λ q l. met k (first + q) (omega (arith, g.within)) (g.gates q l) refl ∙ ap (λ s. nth s (from + q)) g.shares_are,
    λ x l m.
        let q = x - first in
        let e : x ≡ first + q = omega arith in
        ap (λ y. is_register (k.gate y)) e ∙ ap is_register (g.gates q (omega arith)),
  ))

  pub con_runs : {l b t : ℕ} {values new bank : List ℕ} → Fills (λ v. v first ≡ cond (is_set b) 1 0) first (first + 1) values new
      → Runs (Framed (frame.Gate (gate.Con l b t)) d first from used ops shares tape) first (first + 1) values bank new bank
  con_runs f = filled_runs (omega arith) f (λ k g. (g.within, met k first (omega (arith, g.within)) g.gates refl, one k first (ap is_register g.gates)))

  pub xor_runs : {x y : ℕ} {values new bank : List ℕ} → Fills (λ v. v first ≡ bit_xor (v x) (v y)) first (first + 1) values new
      → Runs (Framed (frame.Gate (gate.Xor x y)) d first from used ops shares tape) first (first + 1) values bank new bank
  xor_runs {x} {y} f = filled_runs (omega arith) f
      (λ k g. (g.within, met k first (omega (arith, g.within)) g.gates refl ∙ ap (bit_xor (k.shows x)) (xor_zero_r (k.shows y)), one k first (ap is_register g.gates)))

  pub not_runs : {x : ℕ} {values new bank : List ℕ} → Fills (λ v. v first ≡ bit_xor 1 (v x)) first (first + 1) values new
      → Runs (Framed (frame.Gate (gate.Not x)) d first from used ops shares tape) first (first + 1) values bank new bank
  not_runs f = filled_runs (omega arith) f (λ k g. (g.within, met k first (omega (arith, g.within)) g.gates refl, one k first (ap is_register g.gates)))

  pub out_runs : {values bank : List ℕ} → Runs (Framed (frame.Gate gate.Out) d first from used ops shares tape) first (first + 0) values bank values bank
  out_runs {values} {bank} = runs_at refl (omega arith) (runs_none first values bank)

  pub reg_runs : {x : ℕ} {values bank new_bank : List ℕ}
      → Runs (λ k. (first + 1 ≤ k.size) × (k.gate first ≡ reg x)) first (first + 1) values bank values new_bank
      → Runs (Framed (frame.Gate (gate.Reg x)) d first from used ops shares tape) first (first + 1) values bank values new_bank
  reg_runs r = record { on = λ k g u. r.on k (g.within, g.gates) u; sized = refl; held_sized = r.held_sized }
