-- Laws of a wait file in one pass.
pub mod Turns
pub mod Passing
