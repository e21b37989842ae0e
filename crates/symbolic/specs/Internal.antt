-- Sums of variables
pub mod Sums
-- The wires inside AND
pub mod Inside
-- Terms, and the wires inside AND as such
pub mod Terms
-- A table that is expanded
pub mod Expanding
