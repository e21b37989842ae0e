-- What the code's answer says.
pub mod Answers
-- For the contracts of the crate's own functions. No promise to others names any of it.
pub mod Internal
