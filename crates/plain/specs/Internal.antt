-- The tests that the code makes of a frame's words
pub mod Tests
