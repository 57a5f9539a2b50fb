-- The laws of levels.
pub mod Changes
pub mod Best
pub mod Lifting
pub mod Deep
pub mod Making
