-- What a frame breaks, and what it judges
pub mod Spots
pub mod Judged
pub mod Mapped
-- The words of a form
pub mod Words
-- Wires in the notes
pub mod Stores
pub mod MadeNotes
-- The stages kept for the latency
pub mod Spanning
pub mod Represented
-- One frame, then all
pub mod Adding
pub mod Placing
pub mod Checking
pub mod Ways
