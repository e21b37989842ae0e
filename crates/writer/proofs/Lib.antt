-- Digits of words, and the lines of frames
pub mod Digits
pub mod Lines
-- The lines of an accepted table, written frame by frame
pub mod Writing
-- What the reader makes of the text
pub mod ReadingBack
pub mod OnlyText
-- How a call ends
pub mod Calling
