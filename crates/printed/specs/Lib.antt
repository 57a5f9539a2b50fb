-- What the functions of this crate promise, and what that comes to.
pub mod Parts
pub mod Demand
