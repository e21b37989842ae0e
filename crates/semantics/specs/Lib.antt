-- The definitions of document 01 that say what an accepted circuit means. A reader must believe these files, in this order.
pub mod Values
pub mod Probes
pub mod Calls
pub mod Counts
-- Document 02's clock by clock
pub mod Clock
-- Document 01's starred cases.
pub mod Cases
