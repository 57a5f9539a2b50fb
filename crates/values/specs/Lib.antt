-- What the contracts of values at a place are stated with.
pub mod Fields
