-- Words: sums modulo 2, and from bits to words
pub mod Adding
pub mod Packing
-- Buffers filled in
pub mod Filled
pub mod Products
pub mod Rows
pub mod Ranks
pub mod Equations
pub mod Outputs
pub mod Gadgets
pub mod Walked
pub mod Evaluating
pub mod Single
