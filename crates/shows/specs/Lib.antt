-- What the laws of shows are stated with.
pub mod WellFormed
pub mod Accepted
pub mod Copies
pub mod Numbering
pub mod Lists
pub mod Files
pub mod SmallFiles
pub mod Waits
pub mod Origins
