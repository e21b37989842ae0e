-- What the notes say, and the words written into them
pub mod Notes
-- The stages that the latency is taken from
pub mod Spans
-- A frame judged and added
pub mod Adding
