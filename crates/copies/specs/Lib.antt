-- Copies as the code holds them.
pub mod Copies
pub mod ByRows
