-- Pairs of a sharing and a tape, by their free bits
pub mod Pairs
-- The wires that are read, and the list of counts
pub mod Reading
pub mod Listing
-- Many pairs at once
pub mod Lanes
pub mod Words
-- Shares and random bits as sums
pub mod Preparing
-- Free bits that are only added
pub mod Linear
-- All pairs of one set
pub mod Tallying
-- The rules before 25
pub mod Judging
