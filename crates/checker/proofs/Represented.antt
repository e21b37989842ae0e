-- The notes of a circuit say of every number what the circuit says of it; and a frame's words written behind them make the
-- notes of the circuit with the frame.
use mathlib.Core.Path.{◌≡◌, refl, sym, ap, ap₂, ◌∙◌}
use mathlib.Core.Bool.{Bool, true, false}
use mathlib.Core.List.{List, ◌++◌}
use Prim.Native.Nat.{ℕ, ◌+◌, ◌*◌, ◌%◌, ◌≤◌, ◌<◌}
use native.Mathlib.Omega.{arith}
use lib.Dec.{ltb}
use lib.ListN.{length, drop, length-append, length-drop}
use lib.Seq.{sets, sets-eq, take-append_seam, drop-append-add, drop-drop}
use borrow.Author.Tests.{ne_eqb, le-leb, lt-leb, ltb-true}
use Rattle.circuit.specs.Limits.{inner_note, most_shares}
use Rattle.circuit.specs.Lists.{nth, overwrite}
use Rattle.circuit.specs.Kinds.{Kind}
use Rattle.circuit.specs.Circuit.{Circuit, size, Lookup, found, hidden, look_up, label_shown, made, extend}
use Rattle.circuit.specs.Answer.{notes_of, notes_after}
use Rattle.circuit.proofs.Base.{cases}
use Rattle.circuit.proofs.Building.{Lawful}
use Rattle.circuit.proofs.Noted.{first_note, second_note, notes-length, words-at, Labelled, label_old}
use Rattle.std.specs.Prelude.{Ok}
use Rattle.checker.specs.Internal.Notes.{first_word, named, found_in, shown, Represents}
use Rattle.checker.proofs.MadeNotes.{notes-append}

-- the words of a label below 8 tell it, and whether the wire is registered
told : (l t : ℕ) (registered : Bool) → l < most_shares → found_in (first_word l registered) t ≡ Ok (named l t registered)
told l t true h = let e : (l + 8) % 8 ≡ l = omega arith in rw (ne_eqb (l + 8) inner_note (λ z. omega arith), le-leb 8 (l + 8) (omega arith), e)
told l t false h = let e : (l + 0) % 8 ≡ l = omega arith in rw (ne_eqb (l + 0) inner_note (λ z. omega arith), lt-leb 8 (l + 0) (omega arith), e)

-- the notes represent the circuit
pub represents : (k : Circuit) (notes : List ℕ) → k.d ≤ most_shares → 0 < k.d → Lawful Labelled k → Represents k (notes_after k notes) (size k)
unfolding notes_after
represents k notes most least law x = cases (ltb x (size k)) (λ e. rw e (inside (ltb-true x (size k) e))) (λ e. rw e)
  where
    same : (p : Lookup) → label_shown p < k.d → found_in (first_note p) (second_note p) ≡ shown p
    same (found l t registered) h = told l t registered (omega arith)
    same hidden h = refl

    inside : x < size k → found_in (nth (overwrite (notes_of k.wires) notes) (2 * x)) (nth (overwrite (notes_of k.wires) notes) (2 * x + 1)) ≡ shown (look_up k x)
    inside h =
        let (a, b) = words-at k.wires (drop (length (notes_of k.wires)) notes) x h in
        ap₂ found_in a b ∙ same (look_up k x) (label_old k least law x)

-- new words written behind those that are there
overwrite_more : (xs ys n : List ℕ) → length xs + length ys ≤ length n → sets (overwrite xs n) (length xs) ys ≡ overwrite (xs ++ ys) n
overwrite_more xs ys n h = sets-eq ys (overwrite xs n) (length xs) (omega (arith, length-append xs (drop (length xs) n), length-drop (length xs) n))
    ∙ ap₂ (λ a b. a ++ ys ++ b) (take-append_seam xs (drop (length xs) n)) rest
  where
    rest : drop (length xs + length ys) (overwrite xs n) ≡ drop (length (xs ++ ys)) n
    rest = drop-append-add xs (drop (length xs) n) (length ys) ∙ drop-drop (length ys) (length xs) n ∙ ap (λ m. drop m n) (sym (length-append xs ys))

-- a frame's words written behind the notes
pub notes_more : (k : Circuit) (ops : List ℕ) (kind : Kind) (notes : List ℕ) → 2 * size (extend k ops kind) ≤ length notes
    → sets (notes_after k notes) (2 * size k) (notes_of (made k ops kind)) ≡ notes_after (extend k ops kind) notes
unfolding notes_after
notes_more k ops kind notes room =
    let xs = notes_of k.wires in
    let ys = notes_of (made k ops kind) in
    let fits : length xs + length ys ≤ length notes =
    omega (arith, notes-length k.wires, notes-length (made k ops kind), length-append k.wires (made k ops kind)) in
    ap (λ p. sets (overwrite xs notes) p ys) (sym (notes-length k.wires)) ∙ overwrite_more xs ys notes fits
    ∙ ap (λ l. overwrite l notes) (sym (notes-append k.wires (made k ops kind)))

-- the notes keep their length
pub notes-same : (k : Circuit) (notes : List ℕ) → 2 * size k ≤ length notes → length (notes_after k notes) ≡ length notes
unfolding notes_after
notes-same k notes h = omega (arith, length-append (notes_of k.wires) (drop (length (notes_of k.wires)) notes), length-drop (length (notes_of k.wires)) notes, notes-length k.wires)
