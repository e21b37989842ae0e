-- Wires that look the same in two evaluations: the wire's value, and the values of the stops that a probe on it reads.
use mathlib.Core.Path.{◌≡◌, sym, ◌∙◌}
use mathlib.Core.Bool.{Bool, true, false, false≢true}
use mathlib.Core.List.{List, []}
use Prim.Native.Nat.{ℕ}
use lib.Dec.{eqb}
use borrow.Author.Tests.{eqb-true}
use Rattle.circuit.specs.Wires.{Gate, is_stop}
use Rattle.circuit.proofs.Base.{cases, clash, or_cases, In, in_each, Every, every_imp, every_in}
use Rattle.semantics.specs.Values.{value, is_random}
use Rattle.semantics.specs.Probes.{operands, reads}
use Rattle.secrecy.proofs.Coupled.{Values, Shift, Bits, value_same}

-- two evaluations, and what probes read
pub record Two : Type 0 where
  pub sh : List Bool
  pub sh' : List Bool
  pub f : Values
  pub f' : Values
  pub stops : ℕ → List ℕ

-- what is known of the wire x, whose gate is g: its two bits, and what a probe on it reads
pub record Fact (T : Two) (g : Gate) (δ : Shift) (x : ℕ) : Type 0 where
  pub bits : Bits T.sh T.sh' g δ T.f T.f' (T.f x) (T.f' x)
  pub reading : T.stops x ≡ reads x g T.stops

-- the wire x looks the same: it has one value in both evaluations, and so has each stop that a probe on it reads
pub record Same (T : Two) (x : ℕ) : Type 0 where
  pub valued : T.f x ≡ T.f' x
  pub stopped : (s : ℕ) → In s (T.stops x) → T.f s ≡ T.f' s

-- a wire with the same value, whose operands look the same unless it is a stop
pub settle : {T : Two} {g : Gate} {δ : Shift} {x : ℕ} → Fact T g δ x → T.f x ≡ T.f' x → (is_stop g ≡ false → Every (Same T) (operands g)) → Same T x
settle {T} {g} {δ} {x} h e ops = record {
  valued = e;
  stopped = λ s i. cases (is_stop g)
      (λ k. let z : s ≡ x = or_cases (eqb s x) false (rw (h.reading, k) at i) (eqb-true s x) (λ q. absurd (false≢true q)) in rw z e)
      (λ k. in_each s T.stops (operands g) (rw (h.reading, k) at i) (λ y p q. (every_in (Same T) (operands g) (ops k) y p).stopped s q));
}

-- a stop with the same value
pub stop_same : {T : Two} {g : Gate} {δ : Shift} {x : ℕ} → Fact T g δ x → is_stop g ≡ true → T.f x ≡ T.f' x → Same T x
stop_same h k e = settle h e (clash k)

-- a gate that takes no share, over wires that look the same
pub carry : {T : Two} {g : Gate} {δ : Shift} {x : ℕ} → Fact T g δ x → value g T.f T.sh [] ≡ value g T.f T.sh' [] → is_random g ≡ false → Every (Same T) (operands g) → Same T x
carry {T} {g} h e k ops = settle h (h.bits.left k ∙ e
    ∙ value_same g T.f T.f' T.sh' [] (every_imp (Same T) (λ y. T.f y ≡ T.f' y) (operands g) (λ y q. q.valued) ops) ∙ sym (h.bits.right k)) (λ z. ops)
