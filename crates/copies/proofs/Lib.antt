-- The laws of copies.
pub mod Bases
pub mod Copies
pub mod ByRows
