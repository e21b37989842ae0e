-- The words of shares as they are written: of one secret bit word by word, of all bit by bit.
use mathlib.Core.Path.{◌≡◌, refl, sym, ap, ap₂, ◌∙◌}
use mathlib.Core.List.{List, [], ◌∷◌, ◌++◌, append-nil, append_assoc}
use Prim.Native.Nat.{ℕ, suc, ◌+◌, ◌*◌, ◌≤◌, ◌<◌}
use native.Mathlib.Nat.{mul-le-mul_left}
use native.Mathlib.Omega.{arith}
use borrow.Rule.Slice.PartMut.{put_mid}
use lib.Bits.{bit_xor}
use lib.ListN.{length, take, drop, set, length-set, length-drop, length-append, drop_of_length-le}
use lib.Seq.{sets, sets-eq, length-sets, length-take-le, drop-cons, drop-drop}
use Rattle.circuit.specs.Lists.{nth}
use Rattle.circuit.proofs.Base.{stores_append}
use Rattle.counting.specs.Internal.Words.{shares_of, all_shares}

shares-length : (sum : ℕ) (ws : List ℕ) → length (shares_of sum ws) ≡ suc (length ws)
unfolding shares_of
shares-length sum [] = refl
shares-length sum (w ∷ ws) = ap suc (shares-length (bit_xor sum w) ws)

-- writing all words of a secret bit comes to writing those from i on
pub record OneTo (words : List ℕ) (whole : ℕ) (old shares : List ℕ) (last i : ℕ) : Type 0 where
  pub sized : length shares ≡ length old
  pub left : sets old 0 (shares_of whole words) ≡ sets shares i (shares_of last (drop i words))

module _ {words : List ℕ} {whole : ℕ} {old shares : List ℕ} {last i : ℕ} (o : OneTo words whole old shares last i) where
  pub one-next : i < length words → OneTo words whole old (set shares i (nth words i)) (bit_xor last (nth words i)) (i + 1)
  unfolding shares_of
  one-next l =
      let w = nth words i in
      let n : suc i ≡ i + 1 = omega arith in
      record {
        sized = length-set shares i w ∙ o.sized;
        left = o.left ∙ ap (λ ws. sets shares i (shares_of last ws)) (drop-cons words i 0 l) ∙ ap (λ m. sets (set shares i w) m (shares_of (bit_xor last w) (drop m words))) n;
      }

  pub one_end : length old ≡ length words + 1 → i ≡ length words → set shares (length words) last ≡ shares_of whole words
  unfolding shares_of
  one_end many e =
      let all = shares_of whole words in
      let none : drop i words ≡ [] = drop_of_length-le words (omega arith) in
      let room : length all ≡ length old = shares-length whole words ∙ omega arith in
      ap (λ n. set shares n last) (sym e) ∙ ap (λ ws. sets shares i (shares_of last ws)) (sym none) ∙ sym o.left ∙ sets-eq all old 0 (omega arith)
      ∙ ap (λ ws. all ++ ws) (drop_of_length-le old (omega arith)) ∙ append-nil all

pub all-length : (n : ℕ) (zs ws : List ℕ) → n * length zs ≤ length ws → length (all_shares n zs ws) ≡ (n + 1) * length zs
unfolding all_shares
all-length n [] ws h = omega arith
all-length n (z ∷ zs) ws h =
    let one = shares_of z (take n ws) in
    length-append one (all_shares n zs (drop n ws))
    ∙ omega (arith, shares-length z (take n ws), length-take-le n ws (omega arith), all-length n zs (drop n ws) (rw (length-drop n ws) (omega arith)))

-- a part of a buffer that is written
pub part_written : (shares : List ℕ) (at count : ℕ) (ws : List ℕ) → length ws ≡ count → at + count ≤ length shares → put_mid at count shares ws ≡ sets shares at ws
part_written shares at count ws n room = rw (← n, drop-drop (length ws) at shares, ← append_assoc) (sym (sets-eq ws shares at (omega arith)))

-- writing the words of all secret bits comes to writing those from the bit j on
pub record AllTo (words : List ℕ) (others : ℕ) (lasts old shares : List ℕ) (j : ℕ) : Type 0 where
  pub sized : length shares ≡ length old
  pub left : sets old 0 (all_shares others lasts words) ≡ sets shares (others * j + j) (all_shares others (drop j lasts) (drop (others * j) words))

module _ {words : List ℕ} {others : ℕ} {lasts old shares : List ℕ} {j : ℕ} (a : AllTo words others lasts old shares j) where
  abbrev from : ℕ
  from = others * j

  pub all-next : j < length lasts → others * length lasts ≤ length words → {new : List ℕ} → new ≡ sets shares (from + j) (shares_of (nth lasts j) (take others (drop from words)))
      → AllTo words others lasts old new (j + 1)
  unfolding all_shares
  all-next l h {new} e =
      let z = nth lasts j in
      let one = shares_of z (take others (drop from words)) in
      let rest = all_shares others (drop (suc j) lasts) (drop others (drop from words)) in
      let n : length one ≡ others + 1 = shares-length z (take others (drop from words))
      ∙ ap suc (length-take-le others (drop from words) (rw (length-drop from words) (omega (arith, mul-le-mul_left others l)))) ∙ omega arith in
      let next : suc j ≡ j + 1 = omega arith in
      let place : from + j + (others + 1) ≡ others * (j + 1) + (j + 1) = omega arith in
      let behind : from + others ≡ others * (j + 1) = omega arith in
      record {
        sized = ap length e ∙ length-sets shares (from + j) one ∙ a.sized;
        left = a.left ∙ ap (λ zs. sets shares (from + j) (all_shares others zs (drop from words))) (drop-cons lasts j 0 l) ∙ stores_append shares (from + j) one rest
            ∙ ap₂ (λ m t. sets t (from + j + m) rest) n (sym e)
            ∙ ap₂ (λ m ws. sets new m (all_shares others (drop (suc j) lasts) ws)) place (drop-drop others from words ∙ ap (λ m. drop m words) behind)
            ∙ ap (λ m. sets new (others * (j + 1) + (j + 1)) (all_shares others (drop m lasts) (drop (others * (j + 1)) words))) next;
      }

  pub all_end : length lasts ≤ j → shares ≡ sets old 0 (all_shares others lasts words)
  unfolding all_shares
  all_end h = sym (a.left ∙ ap (λ zs. sets shares (from + j) (all_shares others zs (drop from words))) (drop_of_length-le lasts h))
