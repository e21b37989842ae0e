-- A clock, wire by wire
pub mod Wires
pub mod Crossing
pub mod Rows
pub mod Outputs
pub mod Gadgets
pub mod Frames
-- A clock of a whole table
pub mod Shown
pub mod Walked
pub mod Whole
-- A step
pub mod Calling
