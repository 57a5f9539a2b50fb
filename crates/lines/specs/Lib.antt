-- What the contracts of lines at a place are stated with.
pub mod Scanning
