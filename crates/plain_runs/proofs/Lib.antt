-- The laws that the proofs cite.
pub mod Runs
pub mod TableFile
