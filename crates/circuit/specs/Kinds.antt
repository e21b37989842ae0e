-- Document 01, the table of "Frames": what the kind word decides, once d is known. (That OUT's wires are registered is document 02's.)
use Rattle.std.specs.Prelude.{List, [], ◌∷◌, ◌++◌, map, ℕ, ◌+◌, ◌*◌, ◌-◌, ◌/◌, length, get_or}
use Rattle.circuit.specs.Gadgets.{labels}

pub data Kind : Type 0 where
  HEAD IN CON XOR NOT REG AND REF OUT : Kind
  deriving Discrete as kinds_agree  -- whether two kinds are the same

-- the kinds by number; a word past 8 is no kind, which rule 5 tests before this is asked
unfoldable pub kind_of : ℕ → Kind
kind_of word = get_or (HEAD ∷ IN ∷ CON ∷ XOR ∷ NOT ∷ REG ∷ AND ∷ REF ∷ OUT ∷ []) word HEAD

-- what a word after the kind has to be. Places on the frame count from 0, the first word after the kind
pub data WordRule : Type 0 where
  share_count : WordRule  -- d
  label value stage : WordRule
  random : WordRule  -- the number of random bits used so far
  like : (place : ℕ) → WordRule  -- a wire with the label and the stage of the wire at that place
  share : (i place : ℕ) → WordRule  -- a wire with label i, at the stage of the wire at that place
  before : (i place : ℕ) → WordRule  -- a wire with label i, one stage before the wire at that place
  registered : (i place : ℕ) → WordRule  -- a registered wire with label i, at the stage of the wire at that place

-- d wires in a row, the i-th with label i, all at one stage: that of the wire at a place, or one before it
abbrev pub row : (ℕ → ℕ → WordRule) → ℕ → ℕ → List WordRule
row rule place d = map (λ i. rule i place) (labels d)

-- the random bits of a gadget: one for each pair of shares
abbrev pub pairs : ℕ → ℕ
pairs d = d * (d - 1) / 2

-- what a kind decides
pub record Shape : Type 0 where
  pub rules : List WordRule  -- a rule for each word after the kind
  pub wires : ℕ  -- how many wires
  pub randoms : ℕ  -- how many random bits
  pub inputs : ℕ  -- how many secret bits

abbrev pub kind_shape : List WordRule → (wires randoms inputs : ℕ) → Shape
kind_shape rules wires randoms inputs = record { rules = rules; wires = wires; randoms = randoms; inputs = inputs }

-- words after the kind, wires made, random bits, secret bits. (The first wire of XOR, NOT and REG is only like itself, and so
-- is the first of a row a.)
unfoldable pub shape : ℕ → Kind → Shape
shape d HEAD = kind_shape (share_count ∷ []) 0 0 0
shape d IN = kind_shape (stage ∷ []) d 0 1
shape d CON = kind_shape (label ∷ value ∷ stage ∷ []) 1 0 0
shape d XOR = kind_shape (like 0 ∷ like 0 ∷ []) 1 0 0
shape d NOT = kind_shape (like 0 ∷ []) 1 0 0
shape d REG = kind_shape (like 0 ∷ []) 1 0 0
shape d AND = kind_shape (random ∷ row share 1 d ++ row before 1 d) (7 * (d * (d - 1)) + 4 * d) (pairs d) 0
shape d REF = kind_shape (random ∷ row share 1 d) (pairs d + 2 * d) (pairs d) 0
shape d OUT = kind_shape (row registered 0 d) 0 0 0

-- how many words follow the kind
abbrev pub words : ℕ → Kind → ℕ
words d kind = length (shape d kind).rules
