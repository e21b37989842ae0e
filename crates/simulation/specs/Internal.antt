-- Values filled in
pub mod Filling
pub mod Gadgets
-- What they rest on
pub mod Evaluating
-- As far as the walk has come
pub mod Walked
