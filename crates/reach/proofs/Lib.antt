-- Bytes looked at together
pub mod Highest
-- Marks
pub mod Marked
pub mod Reaching
pub mod Moved
pub mod Propagating
-- Frames listed
pub mod Listed
pub mod Showing
