-- How far a clock has come
pub mod Running
-- What the parts of a frame do on a clock
pub mod Parts
-- A whole clock
pub mod Whole
