-- The definitions of document 02 that say what whole sharings are, and what the plain circuit computes. A reader must believe these files.
pub mod Sharings
pub mod Plain
-- For the contracts of the crate's own functions. No promise to others names any of it.
pub mod Internal
