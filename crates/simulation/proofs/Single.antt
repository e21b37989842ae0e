-- One sharing and tape: the buffer then holds the bytes of its values.
use mathlib.Core.Path.{◌≡◌, sym, ap, ◌∙◌}
use mathlib.Core.Bool.{Bool, false}
use mathlib.Core.List.{List, []}
use Prim.Native.Nat.{ℕ, ◌+◌, ◌-◌, ◌≤◌, ◌<◌}
use native.Mathlib.Nat.{zero-add}
use native.Mathlib.Omega.{arith}
use lib.Dec.{ltb}
use lib.ListN.{length, drop, length-append, length-drop, length-map, get_or-append, get_or-map}
use lib.Seq.{get_or-append-add, get_or-drop, ext_get_or}
use borrow.Author.Tests.{ltb-true, ltb-false}
use Rattle.circuit.specs.Lists.{nth, overwrite}
use Rattle.circuit.specs.Circuit.{size}
use Rattle.circuit.proofs.Base.{cases}
use Rattle.semantics.specs.Values.{bits, byte, bytes, at, values_of}
use Rattle.semantics.proofs.Values.{values_length}
use Rattle.gadgets.specs.Internal.Accepting.{circuit_in}
use Rattle.gadgets.proofs.Bits.{bits_at, set-byte}
use Rattle.simulation.specs.Internal.Evaluating.{packed, Packs, Bits, Evaluates}

pub one : (f : ℕ → Bool) → packed 1 f ≡ byte (f 0)
one f = zero-add (byte (f 0))

pub packs : (values : List ℕ) → Bits values → Packs 1 (λ l. bits values) values
packs values h i = set-byte (nth values i) (h i) ∙ ap byte (sym (bits_at values i)) ∙ sym (one (λ l. at (bits values) i))

-- a buffer over which a list is written, the rest as it was
pub written_over : (list old new : List ℕ) → length list ≤ length old → ((x : ℕ) → x < length list → nth new x ≡ nth list x)
    → ((x : ℕ) → length list ≤ x → nth new x ≡ nth old x) → length new ≡ length old → new ≡ overwrite list old
written_over list old new room known rest size =
    ext_get_or 0 new (overwrite list old) (size ∙ sym all) (λ x l. cases (ltb x (length list)) (λ e. low x (ltb-true x (length list) e)) (λ e. high x (ltb-false x (length list) e)))
  where
    all : length (overwrite list old) ≡ length old
    all = length-append list (drop (length list) old) ∙ omega (arith, length-drop (length list) old)

    low : (x : ℕ) → x < length list → nth new x ≡ nth (overwrite list old) x
    low x l = known x l ∙ sym (get_or-append list (drop (length list) old) 0 x l)

    high : (x : ℕ) → length list ≤ x → nth new x ≡ nth (overwrite list old) x
    high x l =
        let e : x ≡ length list + (x - length list) = omega arith in
        rest x l ∙ rw e (simp (get_or-append-add, get_or-drop))

-- one that holds all values
pub all_known : (vs : List Bool) (old new : List ℕ) → length vs ≤ length old → ((x : ℕ) → x < length vs → nth new x ≡ byte (at vs x))
    → ((x : ℕ) → length vs ≤ x → nth new x ≡ nth old x) → length new ≡ length old → new ≡ overwrite (bytes vs) old
all_known vs old new room known rest size =
    let count : length (bytes vs) ≡ length vs = length-map vs byte in
    written_over (bytes vs) old new (omega arith) (λ x l. known x (omega arith) ∙ sym (get_or-map byte vs x false)) (λ x l. rest x (omega arith)) size

pub single : {table shares tape old new : List ℕ} → Evaluates table shares tape old new → Bits shares → Bits tape → size (circuit_in table) ≤ length old
    → new ≡ overwrite (bytes (values_of (circuit_in table).wires (bits shares) (bits tape))) old
single {table} {shares} {tape} {old} {new} e shared drawn room =
    let vs = values_of (circuit_in table).wires (bits shares) (bits tape) in
    let count : length vs ≡ size (circuit_in table) = values_length (bits shares) (bits tape) [] (circuit_in table).wires ∙ omega arith in
    all_known vs old new (omega (arith, count)) (λ x l. e.known shared drawn x (omega (arith, count)))
    (λ x l. e.above x (omega (arith, count))) e.sized
