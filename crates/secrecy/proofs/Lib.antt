-- The theorems of equal counts and of products, in the order of the argument.
-- What is counted: sums over lists of bits
pub mod Sums
-- Two evaluations side by side, and wires that look the same in both
pub mod Coupled
pub mod Same
-- The share indices that probes take, and the flips of AND's random bits
pub mod Roles
pub mod Taken
pub mod Flips
-- Every probed wire looks the same: in a gadget, in a frame, in a circuit
pub mod Sites
pub mod And
pub mod Ref
pub mod Frames
pub mod Whole
pub mod Tapes
-- A share that no probe reaches can carry any change of the secret bits
pub mod FreeLabel
pub mod Masks
pub mod Sharings
-- The gadgets compute what they are named for
pub mod Totals
pub mod Equations
pub mod Products
-- What is proved, and that it is not empty
pub mod Theorems
pub mod Accepted
pub mod Examples
