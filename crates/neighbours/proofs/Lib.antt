pub mod Picked
pub mod Near
pub mod Bits
pub mod Marks
pub mod Tables
