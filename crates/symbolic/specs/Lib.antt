-- The crate is inner, and so are its definitions: the promises of the open calls name none of them.
pub mod Internal
