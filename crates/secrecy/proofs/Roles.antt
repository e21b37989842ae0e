-- The proof's device: each wire has a role, by which a probe on it takes share indices.
use mathlib.Core.Bool.{Bool, true, false}
use Prim.Native.Nat.{ℕ}
use Rattle.circuit.specs.Gadgets.{Part, r, R, B, m, M, u, U, v, V', w, W, c, s, S}

-- one share index; or two, the first preferred, with true for the wires w and W of AND
pub data Role : Type 0 where
  lone : ℕ → Role
  pair : Bool → ℕ → ℕ → Role
  deriving Discrete as same-role

-- the roles of the gadgets' parts
abbrev pub role : Part → Role
role (r i j) = pair false i j
role (R i j) = pair false i j
role (B i) = lone i
role (m i) = lone i
role (M i) = lone i
role (u i j) = pair false i j
role (U i j) = pair false i j
role (v i j) = pair false j i
role (V' i j) = pair false j i
role (w i j) = pair true i j
role (W i j) = pair true i j
role (c i) = lone i
role (s i) = lone i
role (S i) = lone i
