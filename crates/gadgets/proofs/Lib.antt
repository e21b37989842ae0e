-- Numbers, bits and buffers
pub mod Ranges
pub mod Bounds
pub mod Bits
pub mod Stored
-- Where the wires of the gadgets stand
pub mod Sites
pub mod Slots
pub mod Masks
pub mod Placed
-- The walk over an accepted table
pub mod Framing
pub mod Walking
