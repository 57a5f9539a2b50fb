pub mod Steps
pub mod Known
pub mod Tables
pub mod Indexing
pub mod Going
pub mod Openings
pub mod Checking
