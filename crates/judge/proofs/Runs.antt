-- Bytes written at the start of a buffer, one after the other.
use mathlib.Core.Path.{◌≡◌, refl, sym, ap, ◌∙◌}
use mathlib.Core.List.{List, [], ◌∷◌, ◌++◌, append_assoc, append-nil}
use Prim.Native.Nat.{ℕ, suc, ◌+◌, ◌-◌, ◌<◌}
use native.Mathlib.Omega.{arith}
use lib.ListN.{length, get_or, set, take, drop, length-append, length-drop, drop_of_length-le}
use lib.Seq.{take_at, drop_at, drop-drop, drop-cons}
use borrow.Rule.Slice.PartMut.{put_mid}
use Rattle.std.proofs.lemmas.List.{take_rest, set_at}
use Rattle.judge.specs.Printed.{Written}

-- more bytes, written into what lies behind the first
pub written_more : {a old mid b part : List ℕ} {n m : ℕ} → Written a old n mid → Written b (take (length mid - n) (drop n mid)) m part
    → Written (a ++ b) old (n + m) (put_mid n (length mid - n) mid part)
written_more {a} {old} {mid} {b} {part} {n} {m} p q =
    let front : take n mid ≡ a = rw p.buffer (take_at a (drop (length a) old) n (sym p.size)) in
    let behind : drop n mid ≡ drop (length a) old = rw p.buffer (drop_at a (drop (length a) old) n (sym p.size)) in
    let none : drop (length mid - n) (drop n mid) ≡ [] = drop_of_length-le (drop n mid) (omega (arith, length-drop n mid)) in
    let rest : part ≡ b ++ drop (length a + length b) old
    = q.buffer ∙ ap (λ (l : List ℕ). b ++ drop (length b) l) (take_rest mid n ∙ behind) ∙ ap (λ (l : List ℕ). b ++ l) (drop-drop (length b) (length a) old) in
    record {
      size = omega (arith, p.size, q.size, length-append a b);
      buffer = rw (front, none, rest, append-nil, length-append a b) (sym (append_assoc a b (drop (length a + length b) old)));
    }

pub written_none : (old : List ℕ) → Written [] old 0 old
written_none old = record { size = refl; buffer = refl }

-- one more byte
pub written_byte : {a old new : List ℕ} {n : ℕ} (v : ℕ) → Written a old n new → length a < length old → Written (a ++ v ∷ []) old (n + 1) (set new n v)
written_byte {a} {old} {new} {n} v p h =
    let rest = drop (suc (length a)) old in
    let all : length (a ++ v ∷ []) ≡ suc (length a) = omega (arith, length-append a (v ∷ [])) in
    record {
      size = omega (arith, p.size, length-append a (v ∷ []));
      buffer = ap (λ (l : List ℕ). set l n v) (p.buffer ∙ ap (λ (l : List ℕ). a ++ l) (drop-cons old (length a) 0 h))
          ∙ set_at a (get_or old (length a) 0) rest v n (sym p.size) ∙ rw all (sym (append_assoc a (v ∷ []) rest));
    }
