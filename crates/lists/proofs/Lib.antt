-- The laws of lists.
pub mod Filled
pub mod Joins
pub mod Walks
pub mod Answer
pub mod Whole
