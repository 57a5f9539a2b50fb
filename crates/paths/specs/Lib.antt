-- What the functions of this crate promise.
pub mod Locating
pub mod Numbering
