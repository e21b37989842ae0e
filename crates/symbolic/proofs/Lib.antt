-- Sums of variables
pub mod Masks
-- The words of products and of wires
pub mod Running
-- Where a wire stands inside AND
pub mod Inside
-- Words multiplied and added
pub mod Products
-- Terms that stand for wires of AND
pub mod Standing
-- Sums of variables before a place
pub mod Bounded
-- Frames whose wires are sums
pub mod Linear
-- A table expanded frame by frame
pub mod Expanding
-- Sums and terms that are written
pub mod Written
-- The wires of AND that are written
pub mod Reading
-- The wires of a frame made right
pub mod Making
