-- What every question takes for granted of rows, and what it asks of them.
pub mod Loaded
pub mod Once
pub mod Places
