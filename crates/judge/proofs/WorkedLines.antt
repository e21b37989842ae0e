-- Circuit A of document 01, a refusal by the checker and one by the reader: their lines, computed from the definitions.
use mathlib.Core.Path.{◌≡◌, refl}
use mathlib.Core.List.{List, [], ◌∷◌, ◌++◌}
use Prim.Native.Nat.{ℕ}
use Rattle.circuit.specs.Kinds.{kind_of, shape}
use Rattle.circuit.specs.Circuit.{new_stage, made}
use Rattle.circuit.specs.Gadgets.{in_and, index, gadget}
use Rattle.circuit.specs.Rules.{checked, head_rule, frames, frame_rule, words_rule}
use Rattle.text.specs.Lines.{lines_of, are_words, words_on}
use Rattle.text.specs.Reader.{frame_lines, read_text}
use Rattle.judge.specs.Judged.{judged_text}
use Rattle.judge.specs.Printed.{digits, decimal, line_of}

-- "0000 0002"
abbrev head : List ℕ
head = 48 ∷ 48 ∷ 48 ∷ 48 ∷ 32 ∷ 48 ∷ 48 ∷ 48 ∷ 50 ∷ 10 ∷ []

-- "0001 0001"
abbrev in_a : List ℕ
in_a = 48 ∷ 48 ∷ 48 ∷ 49 ∷ 32 ∷ 48 ∷ 48 ∷ 48 ∷ 49 ∷ 10 ∷ []

-- "0001 0000"
abbrev in_b : List ℕ
in_b = 48 ∷ 48 ∷ 48 ∷ 49 ∷ 32 ∷ 48 ∷ 48 ∷ 48 ∷ 48 ∷ 10 ∷ []

-- "0006 0000 0000 0001 0002 0003"
abbrev and : List ℕ
and = 48 ∷ 48 ∷ 48 ∷ 54 ∷ 32 ∷ 48 ∷ 48 ∷ 48 ∷ 48 ∷ 32 ∷ 48 ∷ 48 ∷ 48 ∷ 48 ∷ 32 ∷ 48 ∷ 48 ∷ 48 ∷ 49 ∷ 32 ∷ 48 ∷ 48 ∷ 48 ∷ 50 ∷ 32 ∷ 48 ∷ 48 ∷ 48 ∷ 51 ∷ 10 ∷ []

-- "0005 0018", "0005 0019"
abbrev regs : List ℕ
regs = 48 ∷ 48 ∷ 48 ∷ 53 ∷ 32 ∷ 48 ∷ 48 ∷ 49 ∷ 56 ∷ 10 ∷ 48 ∷ 48 ∷ 48 ∷ 53 ∷ 32 ∷ 48 ∷ 48 ∷ 49 ∷ 57 ∷ 10 ∷ []

-- "0008 001A 001B"
abbrev out : List ℕ
out = 48 ∷ 48 ∷ 48 ∷ 56 ∷ 32 ∷ 48 ∷ 48 ∷ 49 ∷ 65 ∷ 32 ∷ 48 ∷ 48 ∷ 49 ∷ 66 ∷ 10 ∷ []

-- "accepted wires 28 random 1 latency 3"
pub circuit_a_lem : line_of (judged_text (head ++ in_a ++ in_b ++ and ++ regs ++ out) 8192 16384) ≡ 97 ∷ 99 ∷ 99 ∷ 101 ∷ 112 ∷ 116 ∷ 101 ∷ 100 ∷ 32 ∷ 119 ∷ 105 ∷ 114 ∷ 101 ∷ 115 ∷ 32 ∷ 50 ∷ 56 ∷ 32 ∷ 114 ∷ 97 ∷ 110 ∷ 100 ∷ 111 ∷ 109 ∷ 32 ∷ 49 ∷ 32 ∷ 108 ∷ 97 ∷ 116 ∷ 101 ∷ 110 ∷ 99 ∷ 121 ∷ 32 ∷ 51 ∷ 10 ∷ []
unfolding read_text lines_of are_words words_on frame_lines checked head_rule frames frame_rule words_rule kind_of shape new_stage made in_and index gadget digits decimal
circuit_a_lem = refl

-- without its registers, OUT naming what the AND gives, "0008 0018 0019": "refused 22 frame 4 word 1"
abbrev raw : List ℕ
raw = 48 ∷ 48 ∷ 48 ∷ 56 ∷ 32 ∷ 48 ∷ 48 ∷ 49 ∷ 56 ∷ 32 ∷ 48 ∷ 48 ∷ 49 ∷ 57 ∷ 10 ∷ []

pub raw_product : line_of (judged_text (head ++ in_a ++ in_b ++ and ++ raw) 8192 16384) ≡ 114 ∷ 101 ∷ 102 ∷ 117 ∷ 115 ∷ 101 ∷ 100 ∷ 32 ∷ 50 ∷ 50 ∷ 32 ∷ 102 ∷ 114 ∷ 97 ∷ 109 ∷ 101 ∷ 32 ∷ 52 ∷ 32 ∷ 119 ∷ 111 ∷ 114 ∷ 100 ∷ 32 ∷ 49 ∷ 10 ∷ []
unfolding read_text lines_of are_words words_on frame_lines checked head_rule frames frame_rule words_rule kind_of shape new_stage made in_and index gadget digits decimal
raw_product = refl

-- with HEAD twice: "refused 5 frame 1 word 0"
pub second_head : line_of (judged_text (head ++ head) 8192 16384) ≡ 114 ∷ 101 ∷ 102 ∷ 117 ∷ 115 ∷ 101 ∷ 100 ∷ 32 ∷ 53 ∷ 32 ∷ 102 ∷ 114 ∷ 97 ∷ 109 ∷ 101 ∷ 32 ∷ 49 ∷ 32 ∷ 119 ∷ 111 ∷ 114 ∷ 100 ∷ 32 ∷ 48 ∷ 10 ∷ []
unfolding read_text lines_of are_words words_on frame_lines kind_of shape digits decimal
second_head = refl
