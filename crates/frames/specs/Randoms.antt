-- The list of random bits, and what is answered by it.
use Rattle.std.specs.Prelude.{Bool, true, ◌&&◌, cond, List, [], ◌∷◌, ℕ, suc, ◌*◌, ◌-◌, eqb, leb}
use Rattle.circuit.specs.Kinds.{pairs}

-- each number of a list, doubled, is d(d−1), the first that of d shares and each next one that of one share more
abbrev pub doubled : (d : ℕ) → List ℕ → Bool
doubled d [] = true
doubled d (n ∷ ns) = eqb (n * 2) (d * (d - 1)) && doubled (suc d) ns

-- the random bits of a gadget by the list, which ends with eight shares; past it there are none
abbrev pub listed_pairs : ℕ → ℕ
listed_pairs d = cond (leb d 8) (pairs d) 0
