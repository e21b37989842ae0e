-- What the wires of a circuit show on a clock: a register its byte, every other wire what its gate gives, from bytes that are bits.
use mathlib.Core.Path.{◌≡◌, refl, sym, ap, fun_ext, ◌∙◌}
use mathlib.Core.Bool.{Bool, true, false, cond}
use mathlib.Core.List.{List}
use Prim.Native.Nat.{ℕ, ◌≤◌, ◌<◌}
use lib.ListN.{length, take, drop}
use Rattle.circuit.specs.Lists.{nth}
use Rattle.circuit.specs.Wires.{Gate, Wire}
use Rattle.semantics.specs.Values.{bits, byte, at, value}
use Rattle.semantics.specs.Clock.{is_register, shown_on}
use Rattle.semantics.proofs.Randoms.{randoms_in}
use Rattle.semantics.proofs.Solving.{gate_at, OrderedFrom}
use Rattle.semantics.proofs.Clocked.{clock_solved}
use Rattle.gadgets.proofs.Bits.{bits_at, set-byte}
use Rattle.simulation.specs.Internal.Filling.{Values}
use Rattle.simulation.specs.Internal.Evaluating.{Bits}
use Rattle.simulation.proofs.Packing.{word_value, packed-value}
use Rattle.simulation.proofs.Single.{one, packs}

-- the byte of what a gate gives, from the bytes of what it takes
pub word_value_lem : (shares tape : List ℕ) → Bits shares → Bits tape → (g : Gate) (f : ℕ → Bool) (used : ℕ)
    → byte (value g f (bits shares) (drop used (bits tape))) ≡ word_value 1 shares tape g (λ x. byte (f x)) used
word_value_lem shares tape shared drawn g f used = sym (one (λ l. value g f (bits shares) (drop used (bits tape))))
    ∙ packed-value 1 shares tape 1 (λ l. bits shares) (λ l. bits tape) refl (packs shares shared) (packs tape drawn) g (λ l. f) used
    ∙ ap (λ v. word_value 1 shares tape g v used) (fun_ext (λ x. one (λ l. f x)))

-- the wires, ordered; what the registers show, the shares and the tape
module _ (ws : List Wire) (ordered : OrderedFrom 0 ws) (shown shares tape : List ℕ) where
  abbrev f : ℕ → Bool
  f = at (shown_on ws shown shares tape)

  abbrev pub showing : Values
  showing x = byte (f x)

  abbrev rank : ℕ → ℕ
  rank x = randoms_in (take x ws)

  solved_at : (x : ℕ) {b : Bool} → x < length ws → is_register (gate_at ws x) ≡ b → f x ≡ cond b (at (bits shown) x) (value (gate_at ws x) f (bits shares) (drop (rank x) (bits tape)))
  solved_at x l r = clock_solved ws (bits shown) (bits shares) (bits tape) ordered x l ∙ ap (λ b. cond b (at (bits shown) x) (value (gate_at ws x) f (bits shares) (drop (rank x) (bits tape)))) r

  pub meets : Bits shares → Bits tape → (x : ℕ) → x < length ws → is_register (gate_at ws x) ≡ false → showing x ≡ word_value 1 shares tape (gate_at ws x) showing (rank x)
  meets shared drawn x l r = ap byte (solved_at x l r) ∙ word_value_lem shares tape shared drawn (gate_at ws x) f (rank x)

  pub register_shows : (x : ℕ) → x < length ws → is_register (gate_at ws x) ≡ true → nth shown x ≤ 1 → showing x ≡ nth shown x
  register_shows x l r h = ap byte (solved_at x l r ∙ bits_at shown x) ∙ sym (set-byte (nth shown x) h)
