-- What the contracts of reading a wait file are stated with.
pub mod Passing
