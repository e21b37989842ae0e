-- The crate's own definitions serve the contracts of its own functions alone: what a step promises is said in semantics/specs/Clock.
pub mod Internal
