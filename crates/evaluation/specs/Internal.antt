-- For the contracts of the crate's own functions.
pub mod Refusing
pub mod Calling
