-- The definitions of document 02 that say what is counted. A reader must believe this file.
pub mod Counting
-- For the contracts of the crate's own functions. No promise to others names any of it.
pub mod Internal
