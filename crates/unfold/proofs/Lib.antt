-- The laws that the proofs cite.
pub mod PrintLoop
