-- From bits to words: the word of a gate's values in all evaluations is made of the words that the gate takes.
use mathlib.Core.Path.{◌≡◌, refl, sym, ap, ap₂, fun_ext, ◌∙◌}
use mathlib.Core.Bool.{Bool, true, false, cond, ◌&&◌}
use mathlib.Core.List.{List, [], ◌∷◌}
use Prim.Native.Nat.{ℕ, zero, suc, ◌+◌, ◌*◌, ◌^◌, ◌<◌}
use native.Mathlib.Nat.{add-zero}
use native.Mathlib.Omega.{arith}
use lib.Bits.{bit_and, bit_xor, and_block, xor_block}
use lib.ListN.{drop}
use lib.Seq.{get_or-drop}
use Rattle.circuit.specs.Lists.{◌⊕◌, nth}
use Rattle.circuit.specs.Wires.{Gate, input, constant, random, reg, inverse, sum, product, and_not}
use Rattle.semantics.specs.Values.{byte, at, xor_sum, value}
use Rattle.gadgets.proofs.Bits.{byte-and, byte-xor}
use Rattle.simulation.specs.Internal.Filling.{Values, word_sum}
use Rattle.simulation.specs.Internal.Evaluating.{packed, Packs}

byte_lt : (b : Bool) → byte b < 2
byte_lt true = omega arith
byte_lt false = omega arith

-- an operation on words that works bit by bit
module _ (op : ℕ → ℕ → ℕ) (o : Bool → Bool → Bool) (none : op 0 0 ≡ 0) (bits : (p q : Bool) → op (byte p) (byte q) ≡ byte (o p q))
    (block : (k a b r s : ℕ) → r < 2 ^ k → s < 2 ^ k → op (a * 2 ^ k + r) (b * 2 ^ k + s) ≡ op a b * 2 ^ k + op r s) where
  packed_both : (n : ℕ) (f g : ℕ → Bool) → packed n (λ l. o (f l) (g l)) ≡ op (packed n f) (packed n g)
  packed_both zero f g = sym none
  packed_both (suc n) f g =
      let f' : ℕ → Bool = λ l. f (suc l) in
      let g' : ℕ → Bool = λ l. g (suc l) in
      sym (block 1 (packed n f') (packed n g') (byte (f 0)) (byte (g 0)) (byte_lt (f 0)) (byte_lt (g 0)) ∙ ap₂ (λ (x y : ℕ). x * 2 + y) (sym (packed_both n f' g')) (bits (f 0) (g 0)))

pub packed-xor : (n : ℕ) (f g : ℕ → Bool) → packed n (λ l. f l ⊕ g l) ≡ bit_xor (packed n f) (packed n g)
packed-xor = packed_both bit_xor ◌⊕◌ refl byte-xor xor_block

pub packed-and : (n : ℕ) (f g : ℕ → Bool) → packed n (λ l. f l && g l) ≡ bit_and (packed n f) (packed n g)
packed-and = packed_both bit_and ◌&&◌ refl byte-and and_block

pub packed_none : (n : ℕ) → packed n (λ l. false) ≡ 0
packed_none zero = refl
packed_none (suc n) = ap (λ (x : ℕ). x * 2 + 0) (packed_none n)

packed-sum : (n : ℕ) (f : ℕ → ℕ → Bool) (xs : List ℕ) → packed n (λ l. xor_sum xs (f l)) ≡ word_sum xs (λ x. packed n (λ l. f l x))
packed-sum n f [] = packed_none n
packed-sum n f (x ∷ xs) = packed-xor n (λ l. f l x) (λ l. xor_sum xs (f l)) ∙ ap (bit_xor (packed n (λ l. f l x))) (packed-sum n f xs)

-- the word of a gate, from the words of earlier wires, the shares, and the tape behind so many random bits
module _ (ones : ℕ) (shares tape : List ℕ) where
  abbrev pub word_value : Gate → (v : Values) (used : ℕ) → ℕ
  word_value (input n) v used = nth shares n
  word_value (constant b) v used = cond b ones 0
  word_value random v used = nth tape used
  word_value (reg x) v used = v x
  word_value (inverse x) v used = bit_xor ones (v x)
  word_value (sum xs) v used = word_sum xs v
  word_value (product x y) v used = bit_and (v x) (v y)
  word_value (and_not x y) v used = bit_and (bit_xor ones (v x)) (v y)

  module _ (n : ℕ) (sharings tapes : ℕ → List Bool) (full : ones ≡ packed n (λ l. true)) (shared : Packs n sharings shares) (drawn : Packs n tapes tape) where
    packed-not : (f : ℕ → Bool) → packed n (λ l. true ⊕ f l) ≡ bit_xor ones (packed n f)
    packed-not f = packed-xor n (λ l. true) f ∙ ap (λ x. bit_xor x (packed n f)) (sym full)

    pub packed-value : (g : Gate) (f : ℕ → ℕ → Bool) (used : ℕ) → packed n (λ l. value g (f l) (sharings l) (drop used (tapes l))) ≡ word_value g (λ x. packed n (λ l. f l x)) used
    packed-value (input i) f used = sym (shared i)
    packed-value (constant true) f used = sym full
    packed-value (constant false) f used = packed_none n
    packed-value random f used = ap (packed n) (fun_ext (λ l. get_or-drop used (tapes l) 0 false ∙ ap (at (tapes l)) (add-zero used))) ∙ sym (drawn used)
    packed-value (reg x) f used = refl
    packed-value (inverse x) f used = packed-not (λ l. f l x)
    packed-value (sum xs) f used = packed-sum n f xs
    packed-value (product x y) f used = packed-and n (λ l. f l x) (λ l. f l y)
    packed-value (and_not x y) f used = packed-and n (λ l. true ⊕ f l x) (λ l. f l y) ∙ ap (λ z. bit_and z (packed n (λ l. f l y))) (packed-not (λ l. f l x))
