-- Document 01, "Circuits to hold against it": the line that the program prints.
use Rattle.std.specs.Prelude.{◌≡◌, cond, List, [], ◌∷◌, ◌++◌, ℕ, zero, suc, ◌+◌, ◌/◌, ◌%◌, ltb, length}
use Rattle.circuit.specs.Lists.{overwrite}
use Rattle.circuit.specs.Answer.{Answer, accepted, refused}

-- the byte of a digit 0 to 9
abbrev pub digit : ℕ → ℕ
digit n = 48 + n

-- the digits of n, the most significant first; `most` is no fewer than there are
unfoldable pub digits : (most n : ℕ) → List ℕ
digits zero n = []
digits (suc k) n = cond (ltb n 10) (digit n ∷ []) (digits k (n / 10) ++ digit (n % 10) ∷ [])

-- a number in decimal, with no zeros in front; 0 is "0". It has no more than n + 1 digits
unfoldable pub decimal : ℕ → List ℕ
decimal n = digits (suc n) n

-- a name, and a number behind it
abbrev pub field : (name : List ℕ) (n : ℕ) → List ℕ
field name n = name ++ decimal n

-- three names with their numbers, and a line feed
abbrev pub line : (a : List ℕ) (x : ℕ) (b : List ℕ) (y : ℕ) (c : List ℕ) (z : ℕ) → List ℕ
line a x b y c z = field a x ++ field b y ++ field c z ++ 10 ∷ []

-- "accepted wires "
abbrev pub accepted_name : List ℕ
accepted_name = 97 ∷ 99 ∷ 99 ∷ 101 ∷ 112 ∷ 116 ∷ 101 ∷ 100 ∷ 32 ∷ 119 ∷ 105 ∷ 114 ∷ 101 ∷ 115 ∷ 32 ∷ []

-- " random "
abbrev pub random_name : List ℕ
random_name = 32 ∷ 114 ∷ 97 ∷ 110 ∷ 100 ∷ 111 ∷ 109 ∷ 32 ∷ []

-- " latency "
abbrev pub latency_name : List ℕ
latency_name = 32 ∷ 108 ∷ 97 ∷ 116 ∷ 101 ∷ 110 ∷ 99 ∷ 121 ∷ 32 ∷ []

-- "refused "
abbrev pub refused_name : List ℕ
refused_name = 114 ∷ 101 ∷ 102 ∷ 117 ∷ 115 ∷ 101 ∷ 100 ∷ 32 ∷ []

-- " frame "
abbrev pub frame_name : List ℕ
frame_name = 32 ∷ 102 ∷ 114 ∷ 97 ∷ 109 ∷ 101 ∷ 32 ∷ []

-- " word "
abbrev pub word_name : List ℕ
word_name = 32 ∷ 119 ∷ 111 ∷ 114 ∷ 100 ∷ 32 ∷ []

-- the line of an answer
abbrev pub line_of : Answer → List ℕ
line_of (accepted wires randoms stages) = line accepted_name wires random_name randoms latency_name stages
line_of (refused rule frames words) = line refused_name rule frame_name frames word_name words

-- a buffer that held `old`, once some bytes are written at its start: the rest is untouched, and their number is given
pub record Written (bytes old : List ℕ) (given : ℕ) (new : List ℕ) : Type 0 where
  pub size : given ≡ length bytes
  pub buffer : new ≡ overwrite bytes old
