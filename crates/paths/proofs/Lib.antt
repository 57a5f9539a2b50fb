-- The laws of locating and numbering.
pub mod Locating
pub mod Finding
pub mod Numbers
