-- What the contracts of this crate are stated with.
pub mod Numbers
