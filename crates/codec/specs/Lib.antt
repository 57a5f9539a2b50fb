-- What the contracts of reading and writing are stated with.
pub mod Scanning
pub mod Parsing
pub mod Writing
