-- What the laws of chains and distances are stated with.
pub mod Walks
pub mod Tells
pub mod Lightest
pub mod Quickest
pub mod Demand
