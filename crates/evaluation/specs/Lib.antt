-- For the contracts of the crate's own functions. The promises of the open calls name none of this.
pub mod Internal
