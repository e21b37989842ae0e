-- A clock over an accepted table, frame by frame: it has come to the first wire behind the walk's place.
use mathlib.Core.Path.{◌≡◌, refl, sym, ap, subst, ◌∙◌}
use mathlib.Core.Bool.{Bool, true, cond}
use mathlib.Core.List.{List, []}
use Prim.Native.Nat.{ℕ, ◌+◌, ◌*◌, ◌≤◌}
use native.Mathlib.Omega.{arith}
use lib.ListN.{length, take}
use Rattle.circuit.specs.Lists.{nth, overwrite}
use Rattle.circuit.specs.Wires.{Gate, Wire}
use Rattle.circuit.specs.Circuit.{Circuit, size}
use Rattle.semantics.specs.Values.{bits, byte, bytes, at, value}
use Rattle.semantics.specs.Clock.{is_register, held_bytes, shown_on}
use Rattle.semantics.proofs.Randoms.{randoms_in}
use Rattle.semantics.proofs.Solving.{gate_at, rank-next}
use Rattle.semantics.proofs.Clocked.{clock_length, held-length, held_at}
use Rattle.frames.specs.declared.walk.Frame.{Frame as FrameCode}
use Rattle.frames.specs.declared.walk.Walk.{Walk}
use Rattle.frames.specs.declared.kinds.Shape.{Shape as ShapeCode}
use Rattle.frames.specs.Walk.{operands_at}
use Rattle.gadgets.specs.Internal.Accepting.{AcceptedTable, circuit_in}
use Rattle.gadgets.specs.Internal.Frames.{frame_wires}
use Rattle.gadgets.proofs.Walking.{whole, whole_ordered, Met}
use Rattle.simulation.specs.Internal.Evaluating.{Bits}
use Rattle.simulation.specs.Internal.Walked.{WalkedTo}
use Rattle.simulation.proofs.Walked.{walked_start, rank_is, frame-within, walked_next, walked_all}
use Rattle.simulation.proofs.Single.{written_over, all_known}
use Rattle.clock.specs.Internal.Running.{held, Clock, Upto, Runs}
use Rattle.clock.specs.Internal.Parts.{Framed}
use Rattle.clock.specs.Internal.Whole.{Ready, AllBits, Clocked}
use Rattle.clock.proofs.Wires.{upto_at}
use Rattle.clock.proofs.Shown.{word_value_lem, showing, meets, register_shows}

-- what a table's wires show on a clock, the registers what stands in the buffer of values
module _ {table : List ℕ} (a : AcceptedTable table) {shares tape values : List ℕ} (bank : List ℕ) (b : AllBits table shares tape values) where
  abbrev pub clock_of : Clock
  clock_of = record {
    size = size (whole a);
    gate = gate_at (whole a).wires;
    rank = λ x. randoms_in (take x (whole a).wires);
    ranks = λ x g l. rank-next (whole a).wires x l;
    shares = shares;
    tape = tape;
    shows = showing (whole a).wires (whole_ordered a) values shares tape;
    meets = meets (whole a).wires (whole_ordered a) values shares tape b.share_bits b.tape_bits;
    values = values;
    bank = bank;
  }

  pub clock_start : Upto clock_of 0 values bank
  clock_start = record {
    below = λ x l. absurd (omega arith);
    registers = λ x l r. sym (register_shows (whole a).wires (whole_ordered a) values shares tape x l r
        (b.shown_bits x (omega (arith, ap size a.circuit_is)) (subst (λ (k : Circuit). is_register (gate_at k.wires x) ≡ true) (sym a.circuit_is) r)));
    above = λ x l. refl;
    held_below = λ x l. absurd (omega arith);
    held_above = λ x l. refl;
    sized = refl;
    held_sized = refl;
  }

-- the clock as far as the walk has come
pub record ClockingTo (table shares tape values₀ bank₀ values bank : List ℕ) (place w from used : ℕ) : Type 0 where
  pub walked : WalkedTo table shares tape (length values₀) place w from used
  pub few : size (circuit_in table) ≤ length bank₀
  pub on : (b : AllBits table shares tape values₀) → Upto (clock_of walked.evaluable.accepted bank₀ b) w values bank
  pub sized : length values ≡ length values₀
  pub held_sized : length bank ≡ length bank₀

pub clocking_start : {table shares tape values bank : List ℕ} → Ready table shares tape values bank → ClockingTo table shares tape values bank values bank 2 0 0 0
clocking_start r = record { walked = walked_start r.0; few = r.1; on = clock_start r.0.accepted _; sized = refl; held_sized = refl }

module _ {table shares tape values₀ bank₀ values bank : List ℕ} {place w from used : ℕ} (t : ClockingTo table shares tape values₀ bank₀ values bank place w from used) where
  abbrev a : AcceptedTable table
  a = t.walked.evaluable.accepted

  -- one frame more
  module _ {d : ℕ} {fr : FrameCode} {sh : ShapeCode} {wk : Walk} (same : d ≡ a.d) (m : Met a t.walked.between d w from fr sh wk) where
    pub held_room : w + frame_wires fr d ≤ length bank
    held_room = omega (arith, frame-within t.walked same m, ap size a.circuit_is, t.few, t.held_sized)

    framed : (b : AllBits table shares tape values₀) → Framed fr d w from used (operands_at table d place) shares tape (clock_of a bank₀ b)
    framed b = record { within = frame-within t.walked same m; gates = m.gates; drawn = rank_is t.walked; shares_are = refl; tape_is = refl }

    pub clocking_next : {new new_bank : List ℕ} → Runs (Framed fr d w from used (operands_at table d place) shares tape) w (w + frame_wires fr d) values bank new new_bank
        → ClockingTo table shares tape values₀ bank₀ new new_bank wk.at (w + sh.wires) (from + d * sh.inputs) (used + sh.randoms)
    clocking_next r = record {
      walked = walked_next t.walked same m;
      few = t.few;
      on = λ b. upto_at (ap (λ n. w + n) m.as_many) (r.on (clock_of a bank₀ b) (framed b) (t.on b));
      sized = r.sized ∙ t.sized;
      held_sized = r.held_sized ∙ t.held_sized;
    }

  -- no frame is left
  pub clocking_done : t.walked.between.after ≡ [] → Clocked table shares tape values₀ values₀ bank₀ values bank
  clocking_done none = record {
    valued = λ b. subst (λ (k : Circuit). values ≡ overwrite (bytes (shown_on k.wires values₀ shares tape)) values₀) (sym a.circuit_is) (shown b (t.on b));
    banked = λ b. subst (λ (k : Circuit). bank ≡ overwrite (held_bytes k.wires (shown_on k.wires values₀ shares tape) bank₀) bank₀) (sym a.circuit_is) (kept b (t.on b));
  }
    where
      ws : List Wire
      ws = (whole a).wires

      vs : List Bool
      vs = shown_on ws values₀ shares tape

      new : List ℕ
      new = held_bytes ws vs bank₀

      count : w ≡ size (circuit_in table)
      count = walked_all t.walked none

      whole_is : size (circuit_in table) ≡ size (whole a)
      whole_is = ap size a.circuit_is

      vs_length : length vs ≡ size (whole a)
      vs_length = clock_length ws (bits values₀) (bits shares) (bits tape)

      new_length : length new ≡ size (whole a)
      new_length = held-length ws vs bank₀

      no_bits : Bits []
      no_bits x = omega arith

      -- the byte that a wire's place in the bank holds next, by its gate
      next-byte : (g : Gate) (b : ℕ) → held (λ x. byte (at vs x)) g b ≡ cond (is_register g) (byte (value g (at vs) [] [])) b
      next-byte g b = ap (λ n. cond (is_register g) n b) (sym (word_value_lem [] [] no_bits no_bits g (at vs) 0))

      shown : (b : AllBits table shares tape values₀) → Upto (clock_of a bank₀ b) w values bank → values ≡ overwrite (bytes vs) values₀
      shown b u = all_known vs values₀ values (omega (arith, vs_length, t.walked.evaluable.roomy, whole_is))
          (λ x l. u.below x (omega (arith, vs_length, count, whole_is))) (λ x l. u.above x (omega (arith, vs_length))) t.sized

      kept : (b : AllBits table shares tape values₀) → Upto (clock_of a bank₀ b) w values bank → bank ≡ overwrite new bank₀
      kept b u = written_over new bank₀ bank (omega (arith, new_length, whole_is, t.few))
          (λ x l. u.held_below x (omega (arith, new_length, count, whole_is)) ∙ next-byte (gate_at ws x) (nth bank₀ x) ∙ sym (held_at ws vs bank₀ x (omega (arith, new_length))))
          (λ x l. u.held_above x (omega (arith, new_length, count, whole_is))) t.held_sized
