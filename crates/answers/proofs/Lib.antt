-- The laws of the answers.
pub mod Outcomes
pub mod Answering
pub mod Linked
pub mod Distances
pub mod Sums
pub mod RowsBehind
