-- The laws of loaded shows.
pub mod Loaded
pub mod Places
pub mod Uses
pub mod Meeting
pub mod Along
