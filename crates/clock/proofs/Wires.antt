-- A clock comes to the next wire: a gate's value is written, or what a register shows next is put into the bank.
use mathlib.Core.Path.{◌≡◌, refl, sym, ap, subst, subst₂, ◌∙◌}
use mathlib.Core.Bool.{Bool, true, false, false≢true}
use mathlib.Core.List.{List}
use Prim.Native.Nat.{ℕ, ◌+◌, ◌≤◌, ◌<◌}
use native.Mathlib.Omega.{arith}
use lib.Dec.{ltb}
use lib.ListN.{length, set, length-set}
use borrow.Author.Tests.{ltb-true, ltb-false}
use Rattle.circuit.specs.Lists.{nth}
use Rattle.circuit.specs.Wires.{Gate, reg}
use Rattle.circuit.proofs.Base.{cases}
use Rattle.semantics.specs.Clock.{is_register}
use Rattle.gadgets.proofs.Stored.{nth-set}
use Rattle.simulation.specs.Internal.Filling.{Values, Fills}
use Rattle.simulation.proofs.Packing.{word_value}
use Rattle.clock.specs.Internal.Running.{held, Clock, Upto, Runs}

-- the bank keeps its byte of a wire that is no register
pub held-other : (v : Values) (g : Gate) (b : ℕ) → is_register g ≡ false → held v g b ≡ b
held-other v g b h = rw h

differ : {b : Bool} → b ≡ false → b ≡ true → ⊥
differ p q = false≢true (sym p ∙ q)

-- a wire whose gate is known, and is no register, shows what the gate gives
pub met : (k : Clock) (x : ℕ) {g : Gate} → x < k.size → k.gate x ≡ g → is_register g ≡ false → k.shows x ≡ word_value 1 k.shares k.tape g k.shows (k.rank x)
met k x l e plain = k.meets x l (ap is_register e ∙ plain) ∙ ap (λ g. word_value 1 k.shares k.tape g k.shows (k.rank x)) e

module _ {k : Clock} {n : ℕ} {values bank : List ℕ} (u : Upto k n values bank) where
  -- the bank at wires that are no registers
  held_on : (m : ℕ) → ((x : ℕ) → n ≤ x → x < m → is_register (k.gate x) ≡ false) → (x : ℕ) → x < m → nth bank x ≡ held k.shows (k.gate x) (nth k.bank x)
  held_on m h x i = cases (ltb x n)
      (λ e. u.held_below x (ltb-true x n e))
      (λ e. u.held_above x (ltb-false x n e) ∙ sym (held-other k.shows (k.gate x) (nth k.bank x) (h x (ltb-false x n e) i)))

  -- wires that are no registers and hold what they show
  pub past : (m : ℕ) → n ≤ m → ((x : ℕ) → n ≤ x → x < m → (is_register (k.gate x) ≡ false) × (nth values x ≡ k.shows x)) → Upto k m values bank
  past m l h = record {
    below = λ x i. cases (ltb x n) (λ e. u.below x (ltb-true x n e)) (λ e. (h x (ltb-false x n e) i).1);
    registers = u.registers;
    above = u.above;
    held_below = held_on m (λ x a b. (h x a b).0);
    held_above = λ x i. u.held_above x (omega arith);
    sized = u.sized;
    held_sized = u.held_sized;
  }

  -- a value written ahead
  pub ahead : (p e : ℕ) → n ≤ p → (p < k.size) × (p < length values) → is_register (k.gate p) ≡ false → Upto k n (set values p e) bank
  ahead p e l room h = record {
    below = λ x i. nth-set values p e x room.1 (λ same z. absurd (omega arith)) (λ other z. z ∙ u.below x i);
    registers = λ x i r. nth-set values p e x room.1 (λ same z. absurd (differ h (ap (λ y. is_register (k.gate y)) (sym same) ∙ r))) (λ other z. z ∙ u.registers x i r);
    above = λ x i. nth-set values p e x room.1 (λ same z. absurd (omega arith)) (λ other z. z ∙ u.above x i);
    held_below = u.held_below;
    held_above = u.held_above;
    sized = length-set values p e ∙ u.sized;
    held_sized = u.held_sized;
  }

  -- a register: what it shows next is put into the bank
  pub keep : {y : ℕ} (e : ℕ) → (n < k.size) × (n < length bank) → k.gate n ≡ reg y → e ≡ k.shows y → Upto k (n + 1) values (set bank n e)
  keep {y} e room g h = record {
    below = λ x i. cases (ltb x n) (λ t. u.below x (ltb-true x n t)) (λ t.
        let same : x ≡ n = omega (arith, ltb-false x n t) in u.registers x (omega arith) (ap (λ z. is_register (k.gate z)) same ∙ ap is_register g));
    registers = u.registers;
    above = u.above;
    held_below = λ x i. nth-set bank n e x room.1
        (λ same z. z ∙ h ∙ sym (ap (λ q. held k.shows q (nth k.bank x)) (ap k.gate same ∙ g)))
        (λ other z. z ∙ u.held_below x (omega arith));
    held_above = λ x i. nth-set bank n e x room.1 (λ same z. absurd (omega arith)) (λ other z. z ∙ u.held_above x (omega arith));
    sized = u.sized;
    held_sized = length-set bank n e ∙ u.held_sized;
  }

  -- wires that are filled in
  pub fill : {E : Values → Type 0} {m : ℕ} {new : List ℕ} → Fills E n m values new → n ≤ m → m ≤ k.size → E k.shows → ((x : ℕ) → n ≤ x → x < m → is_register (k.gate x) ≡ false) → Upto k m new bank
  fill {m = m} {new} f l most e h = record {
    below = shown;
    registers = λ x i r. cases (ltb x m) (λ t. shown x (ltb-true x m t)) (λ t. f.above x (ltb-false x m t) ∙ u.registers x i r);
    above = λ x i. f.above x (omega arith) ∙ u.above x i;
    held_below = held_on m h;
    held_above = λ x i. u.held_above x (omega arith);
    sized = f.size ∙ u.sized;
    held_sized = u.held_sized;
  }
    where
      shown : (x : ℕ) → x < m → nth new x ≡ k.shows x
      shown x i = cases (ltb x n) (λ t. f.below x (ltb-true x n t) ∙ u.below x (ltb-true x n t)) (λ t. f.filled k.shows e (λ y a b. u.below y b) x (ltb-false x n t) i)

-- a gate: its value is written
pub wrote : {k : Clock} {n : ℕ} {values bank : List ℕ} → Upto k n values bank → (e : ℕ) → (n < k.size) × (n < length values) → is_register (k.gate n) ≡ false → e ≡ k.shows n
    → Upto k (n + 1) (set values n e) bank
wrote {k} {n} {values} {bank} u e room h same = past (ahead u n e (omega arith) room h) (n + 1) (omega arith) (λ x l i.
    let at : x ≡ n = omega arith in
    (ap (λ y. is_register (k.gate y)) at ∙ h, nth-set values n e x room.1 (λ q z. z ∙ same ∙ ap k.shows (sym at)) (λ other z. absurd (other at))))

pub upto_at : {k : Clock} {n m : ℕ} {values bank : List ℕ} → n ≡ m → Upto k n values bank → Upto k m values bank
upto_at {k} {values = values} {bank} e u = subst (λ (x : ℕ). Upto k x values bank) e u

-- parts of a clock, one behind another
module _ {G : Clock → Type 0} where
  pub runs_none : (n : ℕ) (values bank : List ℕ) → Runs G n n values bank values bank
  runs_none n values bank = record { on = λ k g u. u; sized = refl; held_sized = refl }

  pub runs_next : {from mid to : ℕ} {values bank one one_bank two two_bank : List ℕ} → Runs G from mid values bank one one_bank
      → ((k : Clock) → G k → Upto k mid one one_bank → Upto k to two two_bank) → length two ≡ length one → length two_bank ≡ length one_bank
      → Runs G from to values bank two two_bank
  runs_next r f p q = record { on = λ k g u. f k g (r.on k g u); sized = p ∙ r.sized; held_sized = q ∙ r.held_sized }

  pub runs_at : {from from' to to' : ℕ} {values bank new new_bank : List ℕ} → from ≡ from' → to ≡ to' → Runs G from to values bank new new_bank → Runs G from' to' values bank new new_bank
  runs_at {values = values} {bank} {new} {new_bank} p q r = subst₂ (λ a b. Runs G a b values bank new new_bank) p q r
