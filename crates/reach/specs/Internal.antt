-- Marks that end on stops
pub mod Marks
pub mod Listing
pub mod Reading
-- Bytes looked at together
pub mod Bytes
