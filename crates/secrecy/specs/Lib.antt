-- What the theorems on share indices and products say. That on equal counts, `EqualCounts`, stands beside the meaning of circuits.
pub mod Deciding
pub mod Gadgets
