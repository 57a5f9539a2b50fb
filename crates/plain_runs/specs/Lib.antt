-- What the contracts are stated with.
pub mod Putting
