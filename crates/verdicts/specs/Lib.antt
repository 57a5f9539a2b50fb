pub mod Index
pub mod Passing
