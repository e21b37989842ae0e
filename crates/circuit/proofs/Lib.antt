-- Lists, and the parts of the gadgets
pub mod Base
pub mod Numbered
pub mod Parts
-- How many wires each kind makes
pub mod Sizes
-- The walk over the words of a table goes from frame to frame
pub mod Steps
-- Laws of wires along frames that fit
pub mod Building
-- The words of the notes, and labels
pub mod Noted
-- Which wires are registered
pub mod Registered
-- The checker accepts exactly the tables whose frames fit
pub mod Judging
pub mod Fitting
pub mod Exact
-- The latency in each of its cases
pub mod Latency
-- What an answer tells of the judgement behind it
pub mod Answers
