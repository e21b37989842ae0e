-- The list of random bits.
pub mod Randoms
-- What the kind decision and the walk over frames answer.
pub mod Walk
-- For the contracts of the crate's own functions. No promise to others names any of it.
pub mod Internal
