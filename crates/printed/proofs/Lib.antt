-- The laws that the proofs cite, and what the promises come to.
pub mod Parts
pub mod Reading
pub mod Complete
pub mod Demand
