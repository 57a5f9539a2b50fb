-- What the contracts of the crates that search are stated with. inf is the number from which on an estimate says nothing, and price what links weigh.
pub mod Rounds
pub mod Starts
pub mod Lines
pub mod Edges
pub mod Joins
pub mod Parts
pub mod Copies
pub mod Knowing
