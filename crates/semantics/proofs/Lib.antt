-- What is proved of the definitions.
pub mod Alike
pub mod StarredCases
pub mod Values
pub mod Randoms
pub mod Stops
pub mod Earlier
pub mod Solving
pub mod Stages
pub mod Clocked
pub mod Listed
pub mod Inputs
pub mod Pipeline
pub mod Banks
pub mod Clocks
pub mod Reading
