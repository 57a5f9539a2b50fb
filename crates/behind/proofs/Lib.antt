-- The laws of the row behind a follow-on.
pub mod Seeing
pub mod Trying
pub mod Leading
pub mod Walking
pub mod Starting
