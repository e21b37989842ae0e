-- Small tables held against the definitions
pub mod Examples
-- The frames of an accepted table; lists that are alike, and sharings that are found by their wires
pub mod Framed
pub mod Found
-- What the sharings so far have to do with the circuit so far
pub mod Kept
pub mod Growing
pub mod Runs
pub mod Keeping
-- The added shares of every sharing are its plain value
pub mod Added
pub mod Valued
pub mod Summing
pub mod Computing
-- Words in a row, and the words of runs
pub mod Rising
pub mod Words
-- The code's tests of a frame are the definition's, and the walk that makes them
pub mod Exactness
pub mod FrameTests
pub mod Deciding
pub mod Walked
-- How a call ends
pub mod Calling
