-- The laws of values at a place: how the code finds one, and what text it is.
pub mod Fields
pub mod Texts
