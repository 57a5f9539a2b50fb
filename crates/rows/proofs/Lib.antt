-- The laws of numbers that are copied.
pub mod Copying
