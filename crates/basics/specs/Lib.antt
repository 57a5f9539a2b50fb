-- What the laws of lists and of values in a text are stated with.
pub mod Members
pub mod Values
