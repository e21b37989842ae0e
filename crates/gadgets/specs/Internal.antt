-- What the gates inside AND are taken of
pub mod Equations
-- Where the gadgets' wires stand, and the gates there
pub mod Places
pub mod Gates
-- What a frame's code rests on, and the places between an accepted table's frames
pub mod Frames
pub mod Accepting
