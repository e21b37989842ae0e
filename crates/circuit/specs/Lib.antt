-- The definitions of documents 01 and 02 that decide which tables are accepted. A reader must believe these files, in this order.
pub mod Limits
pub mod Lists
pub mod Wires
pub mod Gadgets
pub mod Kinds
pub mod Circuit
pub mod Latency
pub mod Rules
pub mod Answer
-- The rules and refusals of the code, by their numbers.
pub mod Refusals
-- The same said a second way, for the theorem of exactness and for statements about frames.
pub mod Composition
