-- A line, and the digits of a byte
pub mod Line
