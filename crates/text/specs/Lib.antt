-- The definitions of document 01 that say which texts the reader takes. A reader must believe these files, in this order.
pub mod Lines
pub mod Reader
pub mod Answer
-- For the contracts of the crate's own functions. No promise to others names any of it.
pub mod Internal
