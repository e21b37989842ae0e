-- Sharings of given secret bits by their free bits, and all pairs by their numbers
pub mod Free
pub mod Numbered
-- What is counted, by the pairs' numbers
pub mod Shown
-- The wires that are read
pub mod Marked
-- The list as it is written
pub mod Written
-- Pairs of which only some free bits vary
pub mod Placed
pub mod Folding
-- Many pairs at once
pub mod WordBits
pub mod Gathering
pub mod Adding
pub mod Columns
pub mod FreeBits
pub mod Completing
pub mod Sharing
pub mod Batches
-- The pairs that are gone through, under each set
pub mod Tallying
-- The list that is written
pub mod Counts
-- The rules of the call
pub mod Judging
pub mod Calling
-- The variables' words, and lists written one by one
pub mod Filling
-- What a batch shows, from the variables' words
pub mod Preparing
-- The shares and random bits that a table is expanded with
pub mod Lent
-- Free bits that are only added
pub mod Solved
pub mod Flipped
pub mod AllPairs
pub mod Surveying
pub mod Shifts
pub mod Shifting
