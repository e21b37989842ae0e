-- What is proved of the definitions, for the code and of the texts that are accepted.
pub mod Table
pub mod Hex
pub mod Scanning
pub mod Splitting
pub mod Blocks
pub mod Reading
pub mod Progress
pub mod Advance
pub mod Accepted
pub mod Spared
