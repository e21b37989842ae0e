-- The values on a clock meet the clock's equations: a register shows its bit of the bank, and every other wire has the value of its gate, from
-- the values of all and the tape from the random bits before it on.
use mathlib.Core.Path.{◌≡◌, refl, sym, ap, ap₂, ◌∙◌}
use mathlib.Core.Bool.{Bool, true, false, cond}
use mathlib.Core.List.{List, [], ◌∷◌}
use Prim.Native.Nat.{ℕ, zero, suc, ◌+◌, ◌<◌}
use native.Mathlib.Omega.{arith}
use lib.ListN.{length, get_or, take, drop}
use lib.Seq.{get_or-drop}
use Rattle.circuit.specs.Lists.{nth}
use Rattle.circuit.specs.Wires.{Gate, input, constant, random, reg, inverse, sum, product, and_not, Wire, ◌placed◌}
use Rattle.circuit.proofs.Base.{cases}
use Rattle.semantics.specs.Values.{byte, at, value, is_random, values_of}
use Rattle.semantics.specs.Clock.{is_register, with_bank, on_clock, clock_values, held_bytes, register_bytes}
use Rattle.semantics.proofs.Values.{values_length}
use Rattle.semantics.proofs.Randoms.{randoms_in}
use Rattle.semantics.proofs.Earlier.{OperandsBefore}
use Rattle.semantics.proofs.Solving.{nothing, gate_at, OrderedFrom, solved}

-- what wires make of a bank: as many as the wires, each from the wire and the bank's element of its number
module _ {A B : Type 0} (none : A) (f : Wire → A → B) where
  pub with_bank-length : (ws : List Wire) (bank : List A) → length (with_bank none f ws bank) ≡ length ws
  with_bank-length [] bank = refl
  with_bank-length (w ∷ ws) bank = ap suc (with_bank-length ws (drop 1 bank))

  pub with_bank-at : (ws : List Wire) (bank : List A) (x : ℕ) (z : B) → x < length ws → get_or (with_bank none f ws bank) x z ≡ f (get_or ws x nothing) (get_or bank x none)
  with_bank-at [] bank x z l = absurd (omega arith)
  with_bank-at (w ∷ ws) bank zero z l = refl
  with_bank-at (w ∷ ws) bank (suc x) z l =
      let e : 1 + x ≡ suc x = omega arith in
      with_bank-at ws (drop 1 bank) x z (omega arith) ∙ ap (f (get_or ws x nothing)) (get_or-drop 1 bank x none ∙ ap (λ n. get_or bank n none) e)

  -- of a bank counts what the wires make of it
  pub with_bank-same : (ws : List Wire) (bank other : List A) → ((x : ℕ) → x < length ws → f (get_or ws x nothing) (get_or bank x none) ≡ f (get_or ws x nothing) (get_or other x none))
      → with_bank none f ws bank ≡ with_bank none f ws other
  with_bank-same [] bank other h = refl
  with_bank-same (w ∷ ws) bank other h = ap₂ ◌∷◌ (h 0 (omega arith)) (with_bank-same ws (drop 1 bank) (drop 1 other) (λ x l.
      let e : 1 + x ≡ suc x = omega arith in
      let behind : (b : List A) → get_or (drop 1 b) x none ≡ get_or b (suc x) none = λ b. get_or-drop 1 b x none ∙ ap (λ n. get_or b n none) e in
      ap (f (get_or ws x nothing)) (behind bank) ∙ h (suc x) (omega arith) ∙ ap (f (get_or ws x nothing)) (sym (behind other))))

-- as many values as wires on a clock, and as many bytes of the bank
pub clock_same : (ws : List Wire) (bank other sh t : List Bool) → ((x : ℕ) → x < length ws → is_register (gate_at ws x) ≡ true → at bank x ≡ at other x) → clock_values ws bank sh t ≡ clock_values ws other sh t
clock_same ws bank other sh t h = ap (λ us. values_of us sh t) (with_bank-same false (λ w b. cond (is_register w.gate) (constant b) w.gate placed w.place) ws bank other (λ x l.
    cases (is_register (gate_at ws x)) (λ r. ap (λ b. cond (is_register (gate_at ws x)) (constant b) (gate_at ws x) placed (get_or ws x nothing).place) (h x l r)) (λ r. rw r)))

pub clock_length : (ws : List Wire) (bank sh t : List Bool) → length (clock_values ws bank sh t) ≡ length ws
clock_length ws bank sh t = values_length sh t [] (on_clock ws bank) ∙ omega (arith, with_bank-length false (λ w b. cond (is_register w.gate) (constant b) w.gate placed w.place) ws bank)

pub register_length : (ws : List Wire) (bank : List ℕ) → length (register_bytes ws bank) ≡ length ws
register_length ws bank = with_bank-length 0 (λ w b. cond (is_register w.gate) b 0) ws bank

pub register_at : (ws : List Wire) (bank : List ℕ) (x : ℕ) → x < length ws → nth (register_bytes ws bank) x ≡ cond (is_register (gate_at ws x)) (nth bank x) 0
register_at ws bank x l = with_bank-at 0 (λ w b. cond (is_register w.gate) b 0) ws bank x 0 l

pub register_same : (ws : List Wire) (bank other : List ℕ) → ((x : ℕ) → x < length ws → is_register (gate_at ws x) ≡ true → nth bank x ≡ nth other x) → register_bytes ws bank ≡ register_bytes ws other
register_same ws bank other h = with_bank-same 0 (λ w b. cond (is_register w.gate) b 0) ws bank other (λ x l. cases (is_register (gate_at ws x)) (λ r. rw r (h x l r)) (λ r. rw r))

pub held-length : (ws : List Wire) (values : List Bool) (bank : List ℕ) → length (held_bytes ws values bank) ≡ length ws
held-length ws values bank = with_bank-length 0 (λ w b. cond (is_register w.gate) (byte (value w.gate (at values) [] [])) b) ws bank

pub held_at : (ws : List Wire) (values : List Bool) (bank : List ℕ) (x : ℕ) → x < length ws
    → nth (held_bytes ws values bank) x ≡ cond (is_register (gate_at ws x)) (byte (value (gate_at ws x) (at values) [] [])) (nth bank x)
held_at ws values bank x l = with_bank-at 0 (λ w b. cond (is_register w.gate) (byte (value w.gate (at values) [] [])) b) ws bank x 0 l

-- a gate as it stands on a clock: it is random where it was, its operands are earlier, and its value is its own or a register's bit
abbrev shown : Gate → Bool → Gate
shown g b = cond (is_register g) (constant b) g

shown-random : (g : Gate) (b : Bool) → is_random (shown g b) ≡ is_random g
shown-random (input n) b = refl
shown-random (constant c) b = refl
shown-random random b = refl
shown-random (reg x) b = refl
shown-random (inverse x) b = refl
shown-random (sum xs) b = refl
shown-random (product x y) b = refl
shown-random (and_not x y) b = refl

shown-early : (n : ℕ) (g : Gate) (b : Bool) → OperandsBefore n g → OperandsBefore n (shown g b)
shown-early n g b h = cases (is_register g) (λ e. rw e tt) (λ e. rw e h)

shown-value : (g : Gate) (b : Bool) (f : ℕ → Bool) (sh t : List Bool) → value (shown g b) f sh t ≡ cond (is_register g) b (value g f sh t)
shown-value g b f sh t = cases (is_register g) (λ e. rw e) (λ e. rw e)

clock_randoms : (x : ℕ) (ws : List Wire) (bank : List Bool) → randoms_in (take x (on_clock ws bank)) ≡ randoms_in (take x ws)
clock_randoms zero ws bank = refl
clock_randoms (suc x) [] bank = refl
clock_randoms (suc x) (w ∷ ws) bank = ap₂ (λ r n. cond r (suc n) n) (shown-random w.gate (at bank 0)) (clock_randoms x ws (drop 1 bank))

clock_ordered : (n : ℕ) (ws : List Wire) (bank : List Bool) → OrderedFrom n ws → OrderedFrom n (on_clock ws bank)
clock_ordered n [] bank h = tt
clock_ordered n (w ∷ ws) bank h = (shown-early n w.gate (at bank 0) h.0, clock_ordered (suc n) ws (drop 1 bank) h.1)

pub clock_solved : (ws : List Wire) (bank sh t : List Bool) → OrderedFrom 0 ws → (x : ℕ) → x < length ws
    → let f = at (clock_values ws bank sh t) in f x ≡ cond (is_register (gate_at ws x)) (at bank x) (value (gate_at ws x) f sh (drop (randoms_in (take x ws)) t))
clock_solved ws bank sh t h x l =
    let f : ℕ → Bool = at (clock_values ws bank sh t) in
    solved sh (on_clock ws bank) t (clock_ordered 0 ws bank h) x (rw with_bank-length l)
    ∙ ap₂ (λ g n. value g f sh (drop n t)) (ap (λ w. w.gate) (with_bank-at false (λ w b. cond (is_register w.gate) (constant b) w.gate placed w.place) ws bank x nothing l)) (clock_randoms x ws bank)
    ∙ shown-value (gate_at ws x) (at bank x) f sh (drop (randoms_in (take x ws)) t)
