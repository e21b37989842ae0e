-- A whole clock: the bank is copied into the buffer of values, and only registers stay as copied; and which wires are registers is seen from a
-- bank on which no byte is a bit.
use mathlib.Core.Path.{◌≡◌, refl, sym, ap, ◌∙◌}
use mathlib.Core.Bool.{cond}
use mathlib.Core.List.{List, [], ◌++◌}
use Prim.Native.Nat.{ℕ, ◌+◌, ◌≤◌, ◌<◌}
use native.Mathlib.Omega.{arith}
use lib.Dec.{leb, ltb}
use Rattle.std.specs.Prelude.{Some, position}
use Rattle.std.proofs.lemmas.List.Sums.{position_or_len_is}
use lib.ListN.{length, drop, length-drop, length-map, get_or-append, get_or-map}
use lib.Seq.{get_or-drop, ext_get_or}
use borrow.Author.Tests.{le-leb, lt-leb, lt-ltb, le-ltb}
use Rattle.circuit.specs.Lists.{nth, overwrite}
use Rattle.circuit.specs.Circuit.{size, is_set}
use Rattle.circuit.proofs.Base.{cases}
use Rattle.semantics.specs.Values.{bits, byte, bytes, at, value}
use Rattle.semantics.specs.Clock.{is_register, held_bytes, register_bytes, shown_on}
use Rattle.semantics.proofs.Solving.{gate_at}
use Rattle.semantics.proofs.Clocked.{clock_same, clock_length, held-length, held_at, register_at}
use Rattle.semantics.proofs.Banks.{byte-few}
use Rattle.gadgets.specs.Internal.Accepting.{circuit_in}
use Rattle.simulation.specs.Internal.Filling.{Fills, Copied}
use Rattle.clock.specs.Internal.Whole.{wires_of, AllBits, Clocked}

-- a list written over two buffers that are the same behind it
overwrite-same : (list one other : List ℕ) → length one ≡ length other → ((x : ℕ) → length list ≤ x → nth one x ≡ nth other x) → overwrite list one ≡ overwrite list other
overwrite-same list one other e h =
    let n = length list in
    ap (λ rest. list ++ rest) (ext_get_or 0 (drop n one) (drop n other) (omega (arith, length-drop n one, length-drop n other)) (λ x l.
    get_or-drop n one x 0 ∙ h (n + x) (omega arith) ∙ sym (get_or-drop n other x 0)))

-- the bank copied
module _ {table shares tape values bank one new new_bank : List ℕ} {wires : ℕ} (all : wires ≡ size (circuit_in table)) (f : Fills (Copied bank 0 0 wires) 0 (0 + wires) values one)
    (r : Clocked table shares tape one one bank new new_bank) where
  copied_at : (x : ℕ) → x < size (circuit_in table) → nth one x ≡ nth bank x
  copied_at x l = f.filled (nth bank) (λ q h. refl) (λ y a b. absurd (omega arith)) x (omega arith) (omega arith)

  same-shown : shown_on (wires_of table) one shares tape ≡ shown_on (wires_of table) bank shares tape
  same-shown = clock_same (wires_of table) (bits one) (bits bank) (bits shares) (bits tape) (λ x l r. get_or-map is_set one x 0 ∙ ap is_set (copied_at x l) ∙ sym (get_or-map is_set bank x 0))

  as_copied : AllBits table shares tape bank → AllBits table shares tape one
  as_copied b = record { share_bits = b.share_bits; tape_bits = b.tape_bits; shown_bits = λ x l h. rw (copied_at x l) (b.shown_bits x l h) }

  pub copied_run : Clocked table shares tape bank values bank new new_bank
  copied_run = record {
    valued = λ b.
        let vs = shown_on (wires_of table) bank shares tape in
        let count : length (bytes vs) ≡ size (circuit_in table) = length-map vs byte ∙ clock_length (wires_of table) (bits bank) (bits shares) (bits tape) in
        r.valued (as_copied b) ∙ ap (λ us. overwrite (bytes us) one) same-shown ∙ overwrite-same (bytes vs) one values f.size (λ x l. f.above x (omega arith));
    banked = λ b. r.banked (as_copied b) ∙ ap (λ us. overwrite (held_bytes (wires_of table) us bank) bank) same-shown;
  }

-- marks that no register has, and those that are left behind a clock
module _ {table shares tape shown marks values new_marks : List ℕ} (r : Clocked table shares tape shown shown marks values new_marks) (b : AllBits table shares tape shown)
    (none : (x : ℕ) → x < size (circuit_in table) → 2 ≤ nth marks x) where
  marked : (x : ℕ) → x < size (circuit_in table) → leb (nth new_marks x) 1 ≡ is_register (gate_at (wires_of table) x)
  marked x l =
      let ws = wires_of table in
      let vs = shown_on ws shown shares tape in
      let list = held_bytes ws vs marks in
      let v = byte (value (gate_at ws x) (at vs) [] []) in
      let now : nth new_marks x ≡ cond (is_register (gate_at ws x)) v (nth marks x) =
      ap (λ m. nth m x) (r.banked b) ∙ get_or-append list (drop (length list) marks) 0 x (omega (arith, held-length ws vs marks)) ∙ held_at ws vs marks x l in
      cases (is_register (gate_at ws x))
      (λ h. le-leb (nth new_marks x) 1 (omega (arith, now ∙ ap (λ t. cond t v (nth marks x)) h, byte-few (value (gate_at ws x) (at vs) [] []))) ∙ sym h)
      (λ h. lt-leb (nth new_marks x) 1 (omega (arith, now ∙ ap (λ t. cond t v (nth marks x)) h, none x l)) ∙ sym h)

  pub mark_byte : (bank : List ℕ) (x : ℕ) → x < size (circuit_in table) → cond (leb (nth new_marks x) 1) (nth bank x) 0 ≡ nth (register_bytes (wires_of table) bank) x
  mark_byte bank x l = ap (λ t. cond t (nth bank x) 0) (marked x l) ∙ sym (register_at (wires_of table) bank x l)

-- the first byte over 1: none before it is
pub first_at : (xs : List ℕ) (x : ℕ) → x < length xs → 1 < nth xs x → ((k : ℕ) → k < x → nth xs k ≤ 1) → Some x ≡ position (λ b. ltb 1 b) xs
first_at xs x l over before =
    let e = position_or_len_is (λ b. ltb 1 b) xs x 0 (omega arith) (λ k m. le-ltb 1 (nth xs k) (before k m)) (λ m. lt-ltb 1 (nth xs x) over) in
    rw (e, lt-ltb x (length xs) l)
