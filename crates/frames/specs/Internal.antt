-- The frame that the words after a kind make
pub mod Framed
